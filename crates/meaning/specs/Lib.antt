pub mod Text
pub mod Lines
pub mod Pages
pub mod Calls
pub mod Sizes
pub mod Promise
pub mod Examples
