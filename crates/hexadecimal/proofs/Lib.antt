pub mod Readings
pub mod Overlong
pub mod Spaced
pub mod Again
pub mod Grammar
pub mod Rules
