-- laws that the definitions of specs/ have
pub mod Promised
pub mod Standing
pub mod Each
pub mod Ends
pub mod Sound
pub mod Short
pub mod Agree
pub mod Ranges
pub mod Accepts
pub mod Complete
pub mod Tracks
pub mod First
pub mod Full
pub mod Only
pub mod Steps
