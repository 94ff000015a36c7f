pub mod Called
pub mod Entry
pub mod Journal
pub mod RefusalCause
pub mod StartCode
