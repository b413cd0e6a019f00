pub mod Steps
pub mod Rowing
pub mod JudgingRows
pub mod Faults
pub mod Storing
pub mod Wrapped
