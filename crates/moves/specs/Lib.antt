-- definitions
pub mod Carts
pub mod Further
-- promises
pub mod Promises
-- laws
pub mod CartBytes
pub mod Judged
pub mod FurtherRow
pub mod Refusing
pub mod Unending
pub mod ShutMoves
pub mod Demands
-- worked cases
pub mod Examples
