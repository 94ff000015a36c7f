pub mod Parts
pub mod DateLemmas
pub mod CombinedLemmas
pub mod EntryCounts
pub mod Texts
pub mod FloatLemmas
pub mod JsonLemmas
