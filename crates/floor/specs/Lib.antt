-- definitions
pub mod Floor
pub mod Numbers
pub mod Lent
pub mod Walked
pub mod Valid
-- promises
pub mod Promises
-- laws
pub mod Kinds
pub mod Sorted
pub mod InOrder
pub mod RoundTrip
pub mod Walk
pub mod Located
pub mod Fitting
pub mod Complete
pub mod Refusing
pub mod Absent
pub mod Demands
-- worked cases
pub mod Examples
