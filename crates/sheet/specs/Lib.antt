-- definitions
pub mod Ranks
pub mod Rules
-- promises
pub mod Promises
-- what follows from them alone
pub mod Demands
-- worked cases
pub mod Examples
-- laws
pub mod Room
pub mod Chained
pub mod Reached
pub mod Small
pub mod LeafParts
pub mod Lines
pub mod Reading
