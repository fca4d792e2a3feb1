pub mod Symbols
pub mod Texts
pub mod Steps
pub mod Lines
pub mod Memory
pub mod Laws
pub mod Pages
pub mod Grammar
