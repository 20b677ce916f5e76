pub mod Atoms
pub mod Reads
pub mod Slots
pub mod Lined
pub mod Laws
