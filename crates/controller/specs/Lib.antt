-- promises
pub mod Edge
-- laws
pub mod Told
pub mod Demands
