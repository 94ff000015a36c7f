pub mod MarkupLemmas
pub mod HtmlLemmas
pub mod ShareLemmas
