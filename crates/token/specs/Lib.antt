-- definitions
pub mod Tokens
pub mod Block
pub mod Leaves
pub mod Parts
pub mod More
pub mod Operator
pub mod Counts
-- laws
pub mod Decoded
pub mod Digits
pub mod Joined
pub mod Placed
pub mod Ended
pub mod Counted
pub mod Offsets
