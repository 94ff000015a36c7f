pub mod Numbered
pub mod Whole
pub mod Difference
pub mod Found
pub mod First
