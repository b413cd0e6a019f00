-- definitions
pub mod Plan
pub mod Numbers
pub mod Valid
pub mod After
-- promises
pub mod Promises
-- laws
pub mod Block
pub mod Passed
pub mod RoundTrip
pub mod Judged
pub mod Complete
pub mod Read
pub mod Refusing
pub mod Demands
-- worked cases
pub mod Examples
