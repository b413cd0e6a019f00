pub mod Reading
pub mod Joining
pub mod Turning
pub mod Packing
pub mod Building
pub mod Filling
pub mod Laying
