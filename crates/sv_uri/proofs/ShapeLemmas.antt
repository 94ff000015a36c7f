-- The shape of a path that consists of names.
use Rattle.std.proofs.Common.{ℕ, ◌≡◌, ◌-◌, true, false, not, ◌<◌, List, [], ◌∷◌, ◌++◌, length, length-append, take, append-nil, drop, IsUtf8, refl, ap, subst, ⊎_elim, arith}
use Rattle.std.specs.List.{All, AllPass, list_any}
use Rattle.std.proofs.lemmas.Bool.{not-true, not_from_false, or_from, or_parts}
use Rattle.std.proofs.lemmas.List.{take_at}
use Rattle.std.proofs.lemmas.List.Elements.{All-nil, All-cons, All-head, All-tail, All-append, All-take, All-weaker}
use Rattle.std.proofs.lemmas.Str.{IsUtf8-from_is_utf8}
use Rattle.sv_uri.specs.Target.{segments_of}
use Rattle.sv_uri.specs.Segment.{is_control, is_empty, is_parent, is_same}
use Rattle.sv_uri.specs.DotSegments.{kept, remaining, closing}
use Rattle.sv_uri.specs.Shape.{CanonicalHasShape, IsCanonicalPath, is_dot_segment, may_stand_in_a_path}
use Rattle.sv_uri.proofs.AnswerLemmas.{IsUtf8-slashed}
use Rattle.sv_uri.proofs.TargetLemmas.{slashed, holds, between_slashes-slashed}
use Rattle.sv_uri.proofs.SegmentLemmas.{IsPlain}
use Rattle.sv_uri.proofs.DotSegmentLemmas.{IsName, All-IsName-remaining}
use Rattle.sv_uri.proofs.ItsOwnLemmas.{IsKept, parts_of, all_kept, closing_is, plain_parts, slashless, begins, made_of_names}

-- The segments of a path are its parts.
segments_are : (names : List (List ℕ)) → All IsPlain names → segments_of (slashed (parts_of names)) ≡ parts_of names
segments_are names plain = ap (drop 1) (between_slashes-slashed (parts_of names) (slashless (parts_of names) (plain_parts names plain)))

abbrev IsFilled : List ℕ → Type 0
IsFilled segment = not (is_empty segment) ≡ true

abbrev IsUndotted : List ℕ → Type 0
IsUndotted segment = not (is_dot_segment segment) ≡ true

-- A name that is kept is neither empty nor `.`.
kept_parts : (name : List ℕ) → IsKept name → (is_empty name ≡ false) × (is_same name ≡ false)
kept_parts name own = or_parts (is_empty name) (is_same name) (not-true _ own)

all_filled : (names : List (List ℕ)) → All IsKept names → All IsFilled names
all_filled names = All-weaker IsKept IsFilled (λ name own. not_from_false _ (kept_parts name own).0) names

all_undotted : (names : List (List ℕ)) → All IsKept names → All IsName names → All IsUndotted names
all_undotted [] all_k all_n = All-nil IsUndotted
all_undotted (name ∷ rest) all_k all_n =
    All-cons IsUndotted name rest
    (not_from_false _ (or_from (is_same name) (is_parent name) (kept_parts name (All-head IsKept name rest all_k)).1 (All-head IsName name rest all_n)))
    (all_undotted rest (All-tail IsKept name rest all_k) (All-tail IsName name rest all_n))

-- No part but the last is empty.
folders_filled : (names : List (List ℕ)) → All IsFilled (take (length (parts_of names) - 1) (parts_of names))
folders_filled names =
    let left = remaining (kept names) in
    ⊎_elim
    (λ open_end.
    let one_less : length (left ++ [] ∷ []) - 1 ≡ length left = omega (arith, length-append left ([] ∷ [])) in
    rw open_end (rw (one_less, take_at left ([] ∷ []) (length left) refl) (all_filled left (all_kept names))))
    (λ closed_end. rw closed_end (rw append-nil (All-take IsFilled (length left - 1) left (all_filled left (all_kept names)))))
    (closing_is names)

parts_undotted : (names : List (List ℕ)) → All IsUndotted (parts_of names)
parts_undotted names =
    let left = remaining (kept names) in
    All-append IsUndotted left (closing names) (all_undotted left (all_kept names) (All-IsName-remaining (kept names)))
    (⊎_elim (λ open_end. rw open_end (All-cons IsUndotted [] [] refl (All-nil IsUndotted))) (λ closed_end. rw closed_end (All-nil IsUndotted)) (closing_is names))

-- The bytes of a path are slashes and the bytes of its names.
name_stands : (name : List ℕ) → IsPlain name → AllPass may_stand_in_a_path name
name_stands name own = go name own.control own.backslash
  where
    go : (text : List ℕ) → list_any is_control text ≡ false → holds 92 text ≡ false → AllPass may_stand_in_a_path text
    go [] control backslash = All-nil (λ b. may_stand_in_a_path b ≡ true)
    go (b ∷ text) control backslash =
        let c = or_parts _ _ control in
        let s = or_parts _ _ backslash in
        All-cons (λ b. may_stand_in_a_path b ≡ true) b text (not_from_false _ (or_from _ _ c.0 s.0)) (go text c.1 s.1)

path_stands : (names : List (List ℕ)) → All IsPlain names → AllPass may_stand_in_a_path (slashed names)
path_stands [] plain = All-nil (λ b. may_stand_in_a_path b ≡ true)
path_stands (name ∷ rest) plain =
    All-cons (λ b. may_stand_in_a_path b ≡ true) 47 (name ++ slashed rest) refl
    (All-append (λ b. may_stand_in_a_path b ≡ true) name (slashed rest) (name_stands name (All-head IsPlain name rest plain)) (path_stands rest (All-tail IsPlain name rest plain)))

texts : (names : List (List ℕ)) → All IsPlain names → All IsUtf8 names
texts names = All-weaker IsPlain IsUtf8 (λ name own. IsUtf8-from_is_utf8 name own.utf8) names

pub made_shape : (names : List (List ℕ)) → 0 < length names → All IsPlain names → IsCanonicalPath (slashed (parts_of names))
made_shape names some plain =
    let plain_all = plain_parts names plain in
    let segments = segments_are names plain in
    record {
      text = IsUtf8-slashed (parts_of names) (texts (parts_of names) plain_all);
      rooted = begins names some;
      filled = rw segments (folders_filled names);
      undotted = rw segments (parts_undotted names);
      plain = path_stands (parts_of names) plain_all;
    }

pub canonical_has_shape : CanonicalHasShape
canonical_has_shape target canon given =
    let from = made_of_names target canon given in
    subst IsCanonicalPath from.made (made_shape _ from.some from.plain)
