pub mod FirstPlace
pub mod FrontLemmas
pub mod LastSlash
