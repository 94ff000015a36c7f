-- Places of components, and a list whose components are destroyed one by one.
use Rattle.std.proofs.Common.{◌≡◌, ℕ, ◌+◌, ◌-◌, ◌<◌, List, [], ◌∷◌, ◌++◌, length, get_or, map, reverse, take, ◌∙◌, ap, arith}
use Rattle.std.specs.List.{All}
use Rattle.std.proofs.lemmas.List.{get_or-map, get_or-reverse, length-map, length-reverse, take_more}
use Rattle.sv_live.specs.Calls.{destroyed}
use Rattle.sv_live.specs.World.{HasSameCounts, IsPlaceIn}
use Rattle.sv_journal.specs.declared.calls.Place.{Place}
use Rattle.sv_journal.specs.declared.calls.Place.TheVariants.{Filter, Servlet}
use Rattle.sv_live.specs.declared.live.Parts.{Parts}

-- Components keep their places.
pub place_kept : {S F L : Type 0} (before after : Parts S F L) → HasSameCounts before after → (place : Place) → IsPlaceIn before place → IsPlaceIn after place
place_kept before after counts (Filter place) there = omega (arith, counts.filters, there)
place_kept before after counts (Servlet place) there = omega (arith, counts.servlets, there)

pub all_kept : {S F L : Type 0} (before after : Parts S F L) → HasSameCounts before after → (places : List Place) → All (IsPlaceIn before) places → All (IsPlaceIn after) places
all_kept before after counts places there k d within = place_kept before after counts (get_or places k d) (there k d within)

pub counts_join : {S F L : Type 0} (before middle after : Parts S F L) → HasSameCounts before middle → HasSameCounts middle after → HasSameCounts before after
counts_join before middle after first second = record {
  servlets = second.servlets ∙ first.servlets;
  filters = second.filters ∙ first.filters;
  listeners = second.listeners ∙ first.listeners;
}

-- One component fewer, from the end.
pub back_more : (places : List Place) (done : ℕ) (place : Place) → done < length places
    → take (done + 1) (map destroyed (reverse places)) ≡ take done (map destroyed (reverse places)) ++ destroyed (get_or places (length places - 1 - done) place) ∷ []
back_more places done place within =
    let len = length-reverse places in
    let all = length-map (reverse places) destroyed in
    take_more (map destroyed (reverse places)) done (destroyed place) (omega (arith, within, len, all))
    ∙ ap (λ made. take done (map destroyed (reverse places)) ++ made ∷ [])
    (get_or-map destroyed (reverse places) done place (destroyed place) (omega (arith, within, len)) ∙ ap destroyed (get_or-reverse places done place within))
