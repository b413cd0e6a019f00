pub mod Numbers
pub mod Words
pub mod Counting
pub mod Grouping
