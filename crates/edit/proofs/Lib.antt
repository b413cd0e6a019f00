-- laws that the definitions of specs/ have
pub mod AddedUp
pub mod Demands
pub mod Later
pub mod MovedReads
pub mod MovedWritten
pub mod Refusing
pub mod ReplacedReads
pub mod RowStored
pub mod ShutMoves
pub mod RowsMoved
pub mod RowJudged
pub mod RowFitting
