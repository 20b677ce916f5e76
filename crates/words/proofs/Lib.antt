pub mod Decoding
pub mod Reading
pub mod ReadingAtoms
pub mod Places
pub mod Parting
pub mod LineParts
pub mod Broken
pub mod Good
