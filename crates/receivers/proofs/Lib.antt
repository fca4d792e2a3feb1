pub mod Words
pub mod Loading
