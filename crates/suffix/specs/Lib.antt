-- promises
pub mod Promises
-- worked cases
pub mod Examples
