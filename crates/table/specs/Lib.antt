-- definitions
pub mod Table
pub mod Layout
pub mod Straight
-- worked cases
pub mod Examples
-- laws
pub mod Words
pub mod Storing
pub mod Lapped
pub mod Passes
pub mod Keeping
