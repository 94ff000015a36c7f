pub mod Joined
pub mod Least
pub mod Found
