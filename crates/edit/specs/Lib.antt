-- definitions
pub mod Moved
pub mod Replaced
pub mod Judgement
-- promises
pub mod Promises
-- worked cases
pub mod Examples
pub mod SumExamples
