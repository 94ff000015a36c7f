pub mod Answer
pub mod Below
pub mod ContentType
pub mod Fault
pub mod Files
pub mod Index
