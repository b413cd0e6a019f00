pub mod Unrolling
pub mod Testing
