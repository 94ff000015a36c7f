-- The state of a walk over the segments of a path: RFC 3986, section 5.2.4.
use Rattle.std.specs.Prelude.{ℕ, ◌≡◌, Bool, List, [], map, None, Result, Ok, Err, MatchOption}
use Rattle.std.specs.List.{last_or, flat_map}
use Rattle.sv_uri.specs.declared.name.Name.{Name}
use Rattle.sv_uri.specs.declared.walk.Walk.{Walk}
use Rattle.sv_uri.specs.declared.fault.CanonFault.{CanonFault}
use Rattle.sv_text.specs.Faults.{first_or}
use Rattle.sv_uri.specs.Fault.{path_fault}
use Rattle.sv_uri.specs.Name.{bytes_of}
use Rattle.sv_uri.specs.Segment.{name_of, segment_faults}
use Rattle.sv_uri.specs.DotSegments.{kept, remaining, climbs, ends_open}

-- The bytes of each name.
abbrev pub shown : List Name → List (List ℕ)
shown names = map bytes_of names

-- The names that remain of these segments, whether the segments climb, and whether the last leaves the path open.
pub record IsLeftOf (names : List (List ℕ)) (climbed open_end : Bool) (seen : List (List ℕ)) : Type 0 where
  pub left : names ≡ remaining (kept seen)
  pub climbed_by : climbed ≡ climbs (kept seen)
  pub opened_by : open_end ≡ ends_open (last_or None seen)

-- The walk has entered these names.
abbrev pub HasSeen : Walk → List (List ℕ) → Type 0
HasSeen walk seen = IsLeftOf (shown walk.names.items) walk.climbs walk.is_open seen

-- The result is a walk over the names of the segments, or their first fault, unless memory ran out.
abbrev pub GivesWalk : Result Walk CanonFault → List (List ℕ) → Type 0
GivesWalk (Ok walk) segments = (flat_map segment_faults segments ≡ []) × HasSeen walk (map name_of segments)
GivesWalk (Err e) segments =
    MatchOption (path_fault e) (Unit {0}) (λ fault. first_or (flat_map segment_faults segments) (map name_of segments) ≡ Err fault)
