pub mod Joining
pub mod FieldsLemmas
pub mod PartsLemmas
pub mod HostLemmas
pub mod NamesLemmas
