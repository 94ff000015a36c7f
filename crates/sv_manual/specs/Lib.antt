pub mod Completion
pub mod Form
pub mod Keys
pub mod Manual
pub mod Rows
