-- definitions
pub mod Meaning
pub mod Search
pub mod OfPlan
-- promises
pub mod Promises
-- laws
pub mod Met
-- what the code's contracts say
pub mod Columns
pub mod Table
pub mod Above
pub mod OfRows
