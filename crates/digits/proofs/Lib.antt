pub mod Bytes
pub mod Fields
pub mod Steps
pub mod Strays
pub mod Written
