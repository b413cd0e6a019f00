-- definitions
pub mod Decimal
pub mod Line
-- promises
pub mod Promises
-- laws
pub mod Tens
pub mod Putting
-- worked cases
pub mod Examples
