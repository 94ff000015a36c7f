pub mod CheckLines
mod Policy
pub mod RefusedContexts
pub mod SessionNames
