-- definitions
pub mod Clause
pub mod Meaning
-- promises
pub mod Promises
-- what follows from them alone
pub mod Demands
-- worked cases
pub mod Examples
-- laws
pub mod Lines
pub mod Only
pub mod Picking
