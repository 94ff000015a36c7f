pub mod Account
pub mod Realm
pub mod User
pub mod Laws
