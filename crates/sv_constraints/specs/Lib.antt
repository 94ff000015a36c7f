pub mod Covering
pub mod Decision
pub mod Findings
pub mod Printed
pub mod Roles
pub mod Verdict
pub mod Laws
