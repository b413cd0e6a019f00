-- definitions
pub mod Counting
pub mod Threshold
pub mod Meaning
pub mod Rules
pub mod Running
pub mod Step
pub mod Broken
pub mod Suffix
-- worked cases
pub mod Examples
pub mod JointExamples
pub mod GroupExamples
pub mod RunningExamples
