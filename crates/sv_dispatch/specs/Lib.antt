pub mod Did
pub mod Dispatched
pub mod Running
pub mod Seen
pub mod ServedBy
