-- definitions
pub mod Grammar
pub mod Limits
pub mod Reader
pub mod Nodes
pub mod Groups
pub mod Begun
pub mod Answers
-- promises
pub mod Promises
-- worked cases
pub mod Examples
