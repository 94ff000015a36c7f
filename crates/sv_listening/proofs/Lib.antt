mod DroppingLemmas
mod Items
mod LineEnds
mod OwnTexts
mod PartLemmas
mod Pieces
mod Texts
