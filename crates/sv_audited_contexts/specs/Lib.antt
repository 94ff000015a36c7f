pub mod DescriptorLines
pub mod Held
pub mod ContextFiles
pub mod ServletPatterns
pub mod Audited
pub mod LineFile
