pub mod Tries
pub mod Writes
pub mod Paths
pub mod Leading
