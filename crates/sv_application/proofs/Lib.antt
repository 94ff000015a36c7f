pub mod NameLemmas
pub mod CookieLemmas
pub mod SettingLemmas
pub mod ProxyFields
