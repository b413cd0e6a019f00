-- laws that the definitions of specs/ have
pub mod Linked
pub mod FloorBytes
pub mod Linking
pub mod Following
pub mod Judging
