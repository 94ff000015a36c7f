pub mod Attempts
pub mod Beginning
pub mod Fitting
pub mod Mirroring
pub mod Ordering
pub mod Places
