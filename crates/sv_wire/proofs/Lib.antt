mod RoundTripLemmas
mod CutLemmas
mod DataLemmas
mod Digits
mod FramingLemmas
mod ReaderLemmas
mod SizeLines
mod WholeLemmas
mod Written
pub mod BodyLemmas
pub mod BoolLemmas
pub mod BodyExistenceLemmas
pub mod BodyLimitLemmas
pub mod ListLemmas
pub mod MachineLemmas
pub mod OpenLemmas
pub mod TextLemmas
pub mod Walks
mod BareLemmas
pub mod EmptyLinesLemmas
pub mod ExistenceLemmas
pub mod HeadLemmas
pub mod LimitLemmas
pub mod LineLemmas
pub mod PendingLemmas
pub mod ReadingLemmas
pub mod ReadsLemmas
