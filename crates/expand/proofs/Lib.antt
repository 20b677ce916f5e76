pub mod Counting
pub mod OtherRows
pub mod Filling
