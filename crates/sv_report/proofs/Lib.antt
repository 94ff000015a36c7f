pub mod JsonLemmas
pub mod JsonTexts
pub mod FoldedLemmas
pub mod Given
