-- definitions
pub mod Words
pub mod Unary
pub mod Tallies
-- worked cases
pub mod Examples
-- laws
pub mod OwnNumber
pub mod Below
pub mod Walking
pub mod BitByBit
pub mod Ones
pub mod WithoutCounting
pub mod Counted
pub mod Tallying
