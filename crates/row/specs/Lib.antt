-- definitions
pub mod First
pub mod Lasso
pub mod Moves
pub mod Meaning
pub mod Chain
-- laws
pub mod Firsts
pub mod Round
pub mod Judged
pub mod Parking
pub mod Unending
-- worked cases
pub mod Examples
