pub mod OutcomeLemmas
pub mod ListingLemmas
pub mod DecidingLemmas
pub mod BareFiles
pub mod KnownFiles
pub mod LongHeads
pub mod UnreadLemmas
