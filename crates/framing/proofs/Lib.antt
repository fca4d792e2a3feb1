pub mod Stretching
pub mod Bodies
pub mod Growing
pub mod Standing
pub mod Running
