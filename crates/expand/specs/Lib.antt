pub mod Forms
pub mod Commands
