mod ContextIndexCuts
mod Entered
pub mod ContextIndexChoice
pub mod ContextPathTexts
pub mod Longest
pub mod Choice
pub mod Added
pub mod Classes
pub mod Cuts
pub mod Found
pub mod Growth
pub mod Nodes
pub mod Paths
pub mod PlacesLemmas
pub mod Rooted
pub mod Trees
pub mod Ways
pub mod BestMatches
pub mod BestPlace
pub mod FirstBest
pub mod OtherTexts
pub mod Texts
pub mod Tried
pub mod TriedTexts
pub mod Uniqueness
