pub mod Cycle
pub mod Levels
