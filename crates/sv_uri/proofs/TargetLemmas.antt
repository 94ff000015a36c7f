-- The parts before and after a separator.
use Rattle.std.proofs.Common.{ℕ, suc, ◌≡◌, ◌+◌, ◌<◌, Bool, true, false, ◌||◌, cond, ◌==◌, eqb, ltb, List, [], ◌∷◌, ◌++◌, length, take, drop, append-nil, Option, Some, None, sym, refl, ap, ◌∙◌, ⊎_elim, arith}
use Rattle.std.specs.List.{All, list_any, flat_map, position, position_or_len, after_first}
use Rattle.std.specs.Str.{byte}
use Rattle.std.proofs.lemmas.Bool.{cases_Bool, cond-true, cond-false, or_parts, or_left, not_from_true, not_from_false, ltb-true, ltb-false}
use Rattle.std.proofs.lemmas.List.Elements.{All-nil, All-cons, All-head, All-tail}
use Rattle.std.proofs.lemmas.List.Folds.{list_any-append, list_any_at, list_any_none}
use Rattle.std.proofs.lemmas.List.Sums.{passes_at_first, fails_before_first}
use Rattle.std.proofs.lemmas.List.Splits.{slice_split-cons_yes, slice_split-cons_no, slice_split_none, slice_split_at}
use Rattle.sv_uri.specs.Target.{before, behind, between_slashes}
use Rattle.sv_uri.specs.Canonical.{raw_segments}

-- The byte occurs in the text.
abbrev pub holds : ℕ → List ℕ → Bool
holds c text = list_any (λ b. b == c) text

-- A slash and then the name, for each name.
abbrev pub slashed : List (List ℕ) → List ℕ
slashed names = flat_map (λ name. byte "/" ∷ name) names

-- The segments of the part after a slash, if there is one.
abbrev pub segments_behind : Option (List ℕ) → List (List ℕ)
segments_behind None = []
segments_behind (Some text) = between_slashes text

first_is_other : (c b : ℕ) (text : List ℕ) → eqb b c ≡ false → position_or_len (λ x. eqb x c) (b ∷ text) ≡ suc (position_or_len (λ x. eqb x c) text)
first_is_other c b text other = cond-true _ _ _ (not_from_false _ other) ∙ omega arith

first_is_it : (c b : ℕ) (text : List ℕ) → eqb b c ≡ true → position_or_len (λ x. eqb x c) (b ∷ text) ≡ 0
first_is_it c b text it = cond-false _ _ _ (not_from_true _ it)

pub before-other : (c b : ℕ) (text : List ℕ) → eqb b c ≡ false → before c (b ∷ text) ≡ b ∷ before c text
before-other c b text other = ap (λ n. take n (b ∷ text)) (first_is_other c b text other)

pub before-it : (c b : ℕ) (text : List ℕ) → eqb b c ≡ true → before c (b ∷ text) ≡ []
before-it c b text it = ap (λ n. take n (b ∷ text)) (first_is_it c b text it)

pub behind-other : (c b : ℕ) (text : List ℕ) → eqb b c ≡ false → behind c (b ∷ text) ≡ behind c text
behind-other c b text other =
    let place : position_or_len (λ x. eqb x c) (b ∷ text) + 1 ≡ suc (position_or_len (λ x. eqb x c) text + 1) = rw (first_is_other c b text other) (omega arith) in
    let found : (eqb b c || holds c text) ≡ holds c text = rw other refl in
    ap (λ t. cond t (Some (after_first (λ x. eqb x c) (b ∷ text))) None) found ∙ ap (λ n. cond (holds c text) (Some (drop n (b ∷ text))) None) place

pub behind-it : (c b : ℕ) (text : List ℕ) → eqb b c ≡ true → behind c (b ∷ text) ≡ Some text
behind-it c b text it =
    let place : position_or_len (λ x. eqb x c) (b ∷ text) + 1 ≡ 1 = rw (first_is_it c b text it) refl in
    ap (λ t. cond t (Some (after_first (λ x. eqb x c) (b ∷ text))) None) (or_left _ (holds c text) it) ∙ ap (λ n. Some (drop n (b ∷ text))) place

pub before_none : (c : ℕ) (text : List ℕ) → holds c text ≡ false → before c text ≡ text
before_none c [] none = refl
before_none c (b ∷ text) none =
    let parts = or_parts _ _ none in
    before-other c b text parts.0 ∙ ap (λ x. b ∷ x) (before_none c text parts.1)

pub behind_none : (c : ℕ) (text : List ℕ) → holds c text ≡ false → behind c text ≡ None
behind_none c text none = cond-false _ _ _ none

-- The first segment, and those after its slash.
pub between_slashes-first : (text : List ℕ) → between_slashes text ≡ before (byte "/") text ∷ segments_behind (behind (byte "/") text)
between_slashes-first [] = refl
between_slashes-first (b ∷ text) =
    ⊎_elim
    (λ it. rw (before-it 47 b text it, behind-it 47 b text it, slice_split-cons_yes (λ x. eqb x 47) b text it) refl)
    (λ other. rw (before-other 47 b text other, behind-other 47 b text other, slice_split-cons_no (λ x. eqb x 47) b text other, between_slashes-first text) refl)
    (cases_Bool (eqb b 47))

-- The segments of a target that begins with a slash are those of the part after it.
pub raw_segments-slash : (relative : List ℕ) → raw_segments (byte "/" ∷ relative) ≡ between_slashes (before (byte "?") relative)
raw_segments-slash relative = rw (before-other 63 47 relative refl) refl

pub none_All : {X : Type 0} (p : X → Bool) (xs : List X) → list_any p xs ≡ false → All (λ x. p x ≡ false) xs
none_All p [] none = All-nil (λ x. p x ≡ false)
none_All p (x ∷ xs) none =
    let parts = or_parts _ _ none in
    All-cons (λ y. p y ≡ false) x xs parts.0 (none_All p xs parts.1)

-- A byte that does not occur in a joined path occurs in none of its names.
pub none_in_names : (c : ℕ) (names : List (List ℕ)) → holds c (slashed names) ≡ false → All (λ name. holds c name ≡ false) names
none_in_names c [] none = All-nil (λ name. holds c name ≡ false)
none_in_names c (name ∷ names) none =
    let inner = or_parts _ _ none in
    let parts = or_parts _ _ (sym (list_any-append (λ b. eqb b c) name (slashed names)) ∙ inner.1) in
    All-cons (λ x. holds c x ≡ false) name names parts.0 (none_in_names c names parts.1)

-- Names without a slash are the segments of the path that they make.
pub between_slashes-slashed : (names : List (List ℕ)) → All (λ name. holds (byte "/") name ≡ false) names → between_slashes (slashed names) ≡ [] ∷ names
between_slashes-slashed [] slashless = refl
between_slashes-slashed (name ∷ []) slashless =
    let none = none_All (λ b. eqb b 47) name (All-head (λ x. holds 47 x ≡ false) name [] slashless) in
    ap between_slashes (append-nil (47 ∷ name)) ∙ ap (λ parts. [] ∷ parts) (slice_split_none (λ b. eqb b 47) name none)
between_slashes-slashed (name ∷ next ∷ more) slashless =
    let none = none_All (λ b. eqb b 47) name (All-head (λ x. holds 47 x ≡ false) name (next ∷ more) slashless) in
    let rest = between_slashes-slashed (next ∷ more) (All-tail (λ x. holds 47 x ≡ false) name (next ∷ more) slashless) in
    let rest_parts : between_slashes (next ++ slashed more) ≡ next ∷ more = cc in
    rw (slice_split_at (λ b. eqb b 47) name 47 (next ++ slashed more) none refl, rest_parts) refl

-- The parts before and after the first such byte, by its place.
pub parts_at_place : (c place : ℕ) (text : List ℕ) → Some place ≡ position (λ b. eqb b c) text → (place < length text) × (take place text ≡ before c text) × (Some (drop (place + 1) text) ≡ behind c text)
parts_at_place c place text found =
    let p = λ (b : ℕ). eqb b c in
    ⊎_elim
    (λ inside.
    let here : place ≡ position_or_len p text = cc (found, cond-true _ (Some (position_or_len p text)) None inside) in
    let within = ltb-true _ _ inside in
    let held = list_any_at p text (position_or_len p text) 0 within (passes_at_first p text 0 within) in
    rw here (within, refl, sym (cond-true _ _ _ held)))
    (λ outside. cc (found, cond-false _ (Some (position_or_len p text)) None outside))
    (cases_Bool (ltb (position_or_len p text) (length text)))

pub no_place : (c : ℕ) (text : List ℕ) → None ≡ position (λ b. eqb b c) text → holds c text ≡ false
no_place c text found =
    let p = λ (b : ℕ). eqb b c in
    ⊎_elim
    (λ inside. cc (found, cond-true _ (Some (position_or_len p text)) None inside))
    (λ outside.
    let past = ltb-false _ _ outside in
    list_any_none p text (λ k d within. fails_before_first p text k d (omega arith)))
    (cases_Bool (ltb (position_or_len p text) (length text)))
