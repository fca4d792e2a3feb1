pub mod Lists
pub mod Frames
pub mod Machine
