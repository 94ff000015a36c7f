pub mod Admission
pub mod Answer
pub mod Held
pub mod Judged
pub mod Laws
pub mod Seen
pub mod Settled
