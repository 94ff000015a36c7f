-- The canonical path of a request target, and the faults of a target without one: Jakarta Servlet 6.0, section 3.5.2.
use Rattle.std.specs.Prelude.{ℕ, Bool, false, ◌==◌, not, List, [], ◌∷◌, ◌++◌, map, Result}
use Rattle.std.specs.Option.{option_map}
use Rattle.std.specs.List.{list_any, flat_map}
use Rattle.std.specs.Str.{byte}
use Rattle.sv_uri.specs.declared.fault.PathFault.{PathFault}
use Rattle.sv_uri.specs.declared.fault.PathFault.TheVariants.{Fragment, NoSlash, Climbs}
use Rattle.sv_uri.specs.declared.path.Canon.{Canon}
use Rattle.sv_text.specs.Faults.{when, first_or}
use Rattle.sv_uri.specs.Target.{before, behind, segments_of, visible_query}
use Rattle.sv_uri.specs.Segment.{name_of, segment_faults}
use Rattle.sv_uri.specs.DotSegments.{kept, remaining, climbs, closing}

abbrev pub begins_with_slash : List ℕ → Bool
begins_with_slash [] = false
begins_with_slash (b ∷ _) = b == byte "/"

-- The segments of a target as they were written, after its first slash.
abbrev pub raw_segments : List ℕ → List (List ℕ)
raw_segments target = segments_of (before (byte "?") target)

-- The faults of segments: those of each segment from left to right, and last that they climb above the first.
abbrev pub path_faults : List (List ℕ) → List PathFault
path_faults segments = flat_map segment_faults segments ++ when (climbs (kept (map name_of segments))) Climbs

-- The path of these segments.
abbrev pub path_text : List (List ℕ) → List ℕ
path_text segments =
    let names = map name_of segments in
    flat_map (λ name. byte "/" ∷ name) (remaining (kept names) ++ closing names)

-- All faults of a target, in order.
abbrev pub target_faults : List ℕ → List PathFault
target_faults target = when (list_any (λ b. b == byte "#") target) Fragment
    ++ when (not (begins_with_slash target)) NoSlash
    ++ path_faults (raw_segments target)

-- The path and the query of a target, or its first fault.
abbrev pub canonical : List ℕ → Result Canon PathFault
canonical target = first_or (target_faults target) (record {
  path = path_text (raw_segments target);
  query = option_map visible_query (behind (byte "?") target);
})
