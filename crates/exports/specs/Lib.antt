pub mod Numbers
pub mod Right
