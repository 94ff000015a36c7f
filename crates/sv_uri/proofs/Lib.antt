mod AnswerLemmas
mod DotSegmentLemmas
mod ItsOwnLemmas
pub mod LocationLemmas
mod PlainLemmas
mod QueryLemmas
mod SegmentLemmas
mod ShapeLemmas
mod TargetLemmas
