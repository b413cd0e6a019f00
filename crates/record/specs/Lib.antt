-- definitions
pub mod Record
pub mod Parts
pub mod Found
pub mod Buffer
pub mod All
-- laws
pub mod Stored
pub mod Fuel
pub mod Opened
pub mod RoundTrip
pub mod Laid
pub mod Putting
