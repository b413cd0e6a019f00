-- definitions
pub mod Check
pub mod Meaning
pub mod Turns
pub mod Readable
-- promises
pub mod Promises
-- worked cases
pub mod Starred
-- laws
pub mod SheetLines
pub mod Marked
pub mod NodeNeeds
pub mod NodesHeld
