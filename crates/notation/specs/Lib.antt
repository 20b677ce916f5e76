pub mod Laws
pub mod Messages
pub mod Noted
pub mod Numbers
pub mod Pieces
pub mod Steps
