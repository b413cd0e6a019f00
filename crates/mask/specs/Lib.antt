-- definitions
pub mod Mask
pub mod Straight
-- laws
pub mod EachBit
pub mod Combined
pub mod Turned
pub mod Lapped
