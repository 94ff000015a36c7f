-- A trie over the segments of paths: the nodes that segments lead to, and the contents of the nodes.
use Rattle.std.specs.Prelude.{◌≡◌, ◌≢◌, ℕ, ◌+◌, ◌<◌, ◌==◌, ◌&&◌, List, [], ◌∷◌, ◌++◌, length, if◌then◌else◌, Option, Some, None, slice_get}
use Rattle.std.specs.HashMap.{get_by_text}
use Rattle.std.specs.Option.{option_and_then, option_map_or, option_or}
use Rattle.std.specs.Str.{bytes_eq}
use Rattle.sv_mapping.specs.declared.trie_node.Node.{Node}

-- The node one segment further.
abbrev pub child : List Node → ℕ → List ℕ → Option ℕ
child nodes at segment = option_and_then (λ node. get_by_text node.children segment) (slice_get nodes at)

-- The place in a node of the pattern that matches only its path.
abbrev pub exact : List Node → ℕ → Option ℕ
exact nodes at = option_and_then (λ node. node.exact) (slice_get nodes at)

-- The place in a node of the pattern that matches its path and all paths below it.
abbrev pub prefix : List Node → ℕ → Option ℕ
prefix nodes at = option_and_then (λ node. node.prefix) (slice_get nodes at)

-- The node that segments lead to.
abbrev pub reached : (ℕ → List ℕ → Option ℕ) → ℕ → List (List ℕ) → Option ℕ
reached child at [] = Some at
reached child at (segment ∷ segments) = option_and_then (λ next. reached child next segments) (child at segment)

-- The place in the node that segments lead to from the root.
abbrev pub kept : (ℕ → List ℕ → Option ℕ) → (ℕ → Option ℕ) → List (List ℕ) → Option ℕ
kept child places segments = option_and_then places (reached child 0 segments)

-- An edge leads to a node whose path is one segment longer, so no path leads to two nodes and no node has two paths.
-- `paths` gives the segments that lead to each node.
pub record IsTree (child : ℕ → List ℕ → Option ℕ) (count : ℕ) (paths : ℕ → List (List ℕ)) : Type 0 where
  pub some : 0 < count
  pub root : paths 0 ≡ []
  pub edges : (at next : ℕ) (segment : List ℕ) → child at segment ≡ Some next → (next < count) × (paths next ≡ paths at ++ segment ∷ [])

abbrev pub IsTrie : List Node → Type 0
IsTrie nodes = (paths : ℕ → List (List ℕ)) × IsTree (child nodes) (length nodes) paths

-- The node `number` is new and a child of `at`, and keeps nothing.
pub record Grows (old new : List Node) (at : ℕ) (segment : List ℕ) (number : ℕ) : Type 0 where
  pub is_next : number ≡ length old
  pub count : length new ≡ length old + 1
  pub children : (from : ℕ) (name : List ℕ) → child new from name ≡ (if from == at && bytes_eq segment name then Some number else child old from name)
  pub exacts : (from : ℕ) → exact new from ≡ exact old from
  pub prefixes : (from : ℕ) → prefix new from ≡ prefix old from

-- The segments lead to `at`, and all sequences of segments lead to the same places as before.
pub record Enters (old new : List Node) (segments : List (List ℕ)) (at : ℕ) : Type 0 where
  pub trie : IsTrie new
  pub within : at < length new
  pub here : reached (child new) 0 segments ≡ Some at
  pub exacts : (others : List (List ℕ)) → kept (child new) (exact new) others ≡ kept (child old) (exact old) others
  pub prefixes : (others : List (List ℕ)) → kept (child new) (prefix new) others ≡ kept (child old) (prefix old) others

-- The node that the segments lead to keeps the place, unless it had one. `gains` is the kind of place that was added,
-- and `spared` the other kind.
pub record Adds (old new : List Node) (segments : List (List ℕ)) (place : ℕ) (gains spared : List Node → ℕ → Option ℕ) : Type 0 where
  pub trie : IsTrie new
  pub here : kept (child new) (gains new) segments ≡ option_or (kept (child old) (gains old) segments) (Some place)
  pub others : (others : List (List ℕ)) → others ≢ segments → kept (child new) (gains new) others ≡ kept (child old) (gains old) others
  pub stays : (others : List (List ℕ)) → kept (child new) (spared new) others ≡ kept (child old) (spared old) others

-- The places found along segments: the exact place of the last node, if all segments lead on, and the last prefix place
-- of a node on the way.
abbrev pub along : (ℕ → List ℕ → Option ℕ) → (ℕ → Option ℕ) → (ℕ → Option ℕ) → ℕ → Option ℕ → List (List ℕ) → Option ℕ × Option ℕ
along child exact prefix at held [] = (exact at, held)
along child exact prefix at held (segment ∷ segments) = option_map_or (λ next. along child exact prefix next (option_or (prefix next) held) segments) (child at segment) (None, held)

-- The number of segments looked up: those that lead on, and the first that does not.
abbrev pub looked_up : (ℕ → List ℕ → Option ℕ) → ℕ → List (List ℕ) → ℕ
looked_up child at [] = 0
looked_up child at (segment ∷ segments) = 1 + option_map_or (λ next. looked_up child next segments) (child at segment) 0
