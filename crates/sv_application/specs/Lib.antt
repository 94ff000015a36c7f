pub mod Cookies
pub mod HandingOver
pub mod Names
pub mod ProxyFields
pub mod Serving
