-- The patterns that are chosen before another one at some of its paths (Jakarta Servlet 6.0, sections 12.1 and 12.2).
use Rattle.std.specs.Prelude.{◌≡◌, ◌≢◌, ℕ, Bool, true, false, not, ◌&&◌, nat_le, nat_lt, List, length, codes, filter, take, Some, IsTrue}
use Rattle.std.specs.List.{list_any}
use Rattle.sv_mapping.specs.BestMatch.{best_pattern, outranks}
use Rattle.sv_mapping.specs.Pattern.{Form, Root, Default, Extension, Prefix, Exact, form, has_extension, is_at_or_below, is_dot, is_pattern, matches}
use Rattle.sv_constraints.specs.Covering.{lists}
use Rattle.sv_audit.specs.declared.narrower_patterns.Narrower.{Narrower}

-- Whether the first form is chosen before the second at a path that both match: an exact pattern that a prefix or an
-- extension matches, a longer prefix below a prefix, a prefix before an extension, and all before `/`.
abbrev pub cuts : Form → Form → Bool
cuts Root (Prefix prefix) = is_at_or_below prefix (codes "/")
cuts Root Default = true
cuts (Exact text) (Prefix prefix) = is_at_or_below prefix text
cuts (Exact text) (Extension wanted) = has_extension wanted text
cuts (Exact text) Default = true
cuts (Prefix longer) (Prefix prefix) = nat_lt (length prefix) (length longer) && is_at_or_below prefix longer
cuts (Prefix prefix) (Extension wanted) = not (list_any is_dot wanted)
cuts (Prefix prefix) Default = true
cuts (Extension wanted) Default = not (list_any is_dot wanted)
cuts other its_form = false

-- The patterns that are chosen before this one at some of its paths.
abbrev pub all_narrower : List (List ℕ) → List ℕ → List (List ℕ)
all_narrower patterns pattern = filter (λ other. cuts (form other) (form pattern)) patterns

-- The first of the texts, at most so many, and whether these are all.
abbrev pub first_of : List (List ℕ) → ℕ → Narrower
first_of all most = record { patterns = take most all; are_all = nat_le (length all) most }

abbrev pub narrower : List (List ℕ) → List ℕ → ℕ → Narrower
narrower patterns pattern most = first_of (all_narrower patterns pattern) most

-- A best match of a path is among them if it is another pattern than one that matches the path, too.
abbrev pub NarrowerAreComplete : Type 0
NarrowerAreComplete = (patterns : List (List ℕ)) (pattern path best : List ℕ) → IsTrue (lists patterns pattern) → IsTrue (matches pattern path) → best_pattern patterns path ≡ Some best → best ≢ pattern →
    IsTrue (lists (all_narrower patterns pattern) best)

-- Each of them is chosen before the pattern at some path that both match.
abbrev pub NarrowerAreSound : Type 0
NarrowerAreSound = (patterns : List (List ℕ)) (pattern other : List ℕ) → IsTrue (is_pattern pattern) → IsTrue (is_pattern other) → IsTrue (lists (all_narrower patterns pattern) other) →
    (path : List ℕ) × IsTrue (matches pattern path) × IsTrue (matches other path) × IsTrue (outranks other pattern)
