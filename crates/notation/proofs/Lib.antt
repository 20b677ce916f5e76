pub mod Closes
pub mod Digits
pub mod Shorter
pub mod SoFar
pub mod Thens
