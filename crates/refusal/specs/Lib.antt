-- definitions
pub mod Codes
pub mod Stages
pub mod Results
pub mod Given
pub mod Outcome
-- worked cases
pub mod Examples
-- laws
pub mod Distinct
pub mod Numbered
pub mod Held
pub mod Faults
pub mod Accepting
