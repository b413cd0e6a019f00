-- definitions
pub mod Bears
pub mod Groups
pub mod Tables
pub mod Fours
-- laws
pub mod Unborne
