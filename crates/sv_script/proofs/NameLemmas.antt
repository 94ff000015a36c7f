-- Names with commas between them, one after another.
use Rattle.std.proofs.Common.{◌≡◌, ℕ, ◌+◌, ◌<◌, Bool, true, false, ◌&&◌, cond, List, [], ◌∷◌, ◌++◌, length, take, drop, position, Option, Some, None, refl, sym, ap, ◌∙◌, append_assoc, append-nil, arith}
use Rattle.std.specs.List.{list_all, onto_first, position_or_len, slice_split}
use Rattle.std.specs.Option.{option_and_then, option_map}
use Rattle.std.specs.Str.{IsUtf8, is_utf8}
use Rattle.std.proofs.lemmas.Grind.{common_steps}
use Rattle.std.proofs.lemmas.List.Splits.{slice_split-cons_no, slice_split_first}
use Rattle.std.proofs.lemmas.Str.{IsUtf8-from_is_utf8, is_utf8-from_IsUtf8}
use Rattle.sv_script.specs.Fields.{text_of}
use Rattle.sv_script.specs.Names.{has_form, is_name, name_of, named}
use Rattle.sv_script.specs.declared.names.NameKind.{NameKind}

-- bytes that are UTF-8, and bytes that are not
pub is_text : (bytes : List ℕ) → IsUtf8 bytes → text_of bytes ≡ Some bytes
is_text bytes is = rw (is_utf8-from_IsUtf8 bytes is) refl

pub is_no_text : (bytes : List ℕ) → ¬ (IsUtf8 bytes) → text_of bytes ≡ None
is_no_text bytes none = by (is_utf8 bytes) refl
  where
    by : (is : Bool) → is_utf8 bytes ≡ is → cond is (Some bytes) None ≡ None
    by true same = absurd (none (IsUtf8-from_is_utf8 bytes same))
    by false same = refl

-- the part before the first byte that passes the test, and the other parts
pub parted : (test : ℕ → Bool) (text : List ℕ) (place : ℕ) → position test text ≡ Some place
    → slice_split test text ≡ take place text ∷ slice_split test (drop (place + 1) text)
parted test text place found =
    let at : position_or_len test text ≡ place = grind (arith, common_steps) in
    let inside : position_or_len test text < length text = grind (arith, common_steps) in
    slice_split_first test text 0 inside ∙ (λ i. take (at i) text ∷ slice_split test (drop (at i + 1) text))

pub unparted : (test : ℕ → Bool) (text : List ℕ) → position test text ≡ None → slice_split test text ≡ text ∷ []
unparted test [] none = refl
unparted test (b ∷ text) none = by (test b) refl (λ later. unparted test text later)
  where
    by : (is : Bool) → test b ≡ is → (position test text ≡ None → slice_split test text ≡ text ∷ []) → slice_split test (b ∷ text) ≡ (b ∷ text) ∷ []
    by true same rest = absurd (grind (arith, common_steps))
    by false same rest =
        let later : position test text ≡ None = grind (arith, common_steps) in
        slice_split-cons_no test b text same ∙ ap (onto_first b) (rest later)

-- ---- names

of_text : (kind : NameKind) (text : List ℕ) → name_of kind text ≡ option_and_then (λ name. cond (has_form kind name) (Some name) None) (text_of text)
of_text kind text = by (is_utf8 text)
  where
    by : (is : Bool) → cond (is && has_form kind text) (Some text) None
        ≡ option_and_then (λ name. cond (has_form kind name) (Some name) None) (cond is (Some text) None)
    by true = refl
    by false = refl

pub no_name : (kind : NameKind) (text : List ℕ) → text_of text ≡ None → None ≡ name_of kind text
no_name kind text none = sym (of_text kind text ∙ ap (option_and_then (λ name. cond (has_form kind name) (Some name) None)) none)

pub named_so : (kind : NameKind) (text name : List ℕ) (is : Bool) → text_of text ≡ Some name → has_form kind name ≡ is
    → name_of kind text ≡ cond is (Some name) None
named_so kind text name is some form =
    of_text kind text ∙ ap (option_and_then (λ name. cond (has_form kind name) (Some name) None)) some ∙ ap (λ b. cond b (Some name) None) form

-- the text is a name or it is none
pub is_one : (kind : NameKind) (text name : List ℕ) → Some name ≡ name_of kind text → (is_name kind text ≡ true) × (name ≡ text)
is_one kind text name some = by (is_name kind text) refl some
  where
    by : (is : Bool) → is_name kind text ≡ is → Some name ≡ cond is (Some text) None → (is_name kind text ≡ true) × (name ≡ text)
    by true same found = (same, cc)
    by false same found = absurd (cc)

is_none : (kind : NameKind) (text : List ℕ) → None ≡ name_of kind text → is_name kind text ≡ false
is_none kind text none = by (is_name kind text) refl none
  where
    by : (is : Bool) → is_name kind text ≡ is → ◌≡◌ {A = Option (List ℕ)} None (cond is (Some text) None) → is_name kind text ≡ false
    by true same found = absurd (cc)
    by false same found = same

-- the first names were read, and the others are left
abbrev pub AreRead : NameKind → List (List ℕ) → List (List ℕ) → List (List ℕ) → Type 0
AreRead kind all names left = named kind all ≡ option_map (λ more. names ++ more) (named kind left)

pub none_read : (kind : NameKind) (all : List (List ℕ)) → AreRead kind all [] all
none_read kind all = by (named kind all)
  where
    by : (whole : Option (List (List ℕ))) → whole ≡ option_map (λ more. [] ++ more) whole
    by None = refl
    by (Some names) = refl

pub one_more : (kind : NameKind) (all names left parts : List (List ℕ)) (front name : List ℕ) → AreRead kind all names left → left ≡ front ∷ parts
    → Some name ≡ name_of kind front → AreRead kind all (names ++ name ∷ []) parts
one_more kind all names left parts front name read first some =
    let one = is_one kind front name some in
    read ∙ ap (λ l. option_map (λ more. names ++ more) (named kind l)) first
    ∙ ap (λ b. option_map (λ more. names ++ more) (cond (b && list_all (is_name kind) parts) (Some (front ∷ parts)) None)) one.0
    ∙ by (list_all (is_name kind) parts)
    ∙ ap (λ n. option_map (λ more. (names ++ n ∷ []) ++ more) (named kind parts)) (sym one.1)
  where
    by : (all_are : Bool) → option_map (λ more. names ++ more) (cond all_are (Some (front ∷ parts)) None)
        ≡ option_map (λ more. (names ++ front ∷ []) ++ more) (cond all_are (Some parts) None)
    by true = ap Some (sym (append_assoc names (front ∷ []) parts))
    by false = refl

pub not_one : (kind : NameKind) (all names left parts : List (List ℕ)) (front : List ℕ) → AreRead kind all names left → left ≡ front ∷ parts
    → None ≡ name_of kind front → None ≡ named kind all
not_one kind all names left parts front read first none =
    sym (read ∙ ap (λ l. option_map (λ more. names ++ more) (named kind l)) first
    ∙ ap (λ b. option_map (λ more. names ++ more) (cond (b && list_all (is_name kind) parts) (Some (front ∷ parts)) None)) (is_none kind front none))

pub all_read : (kind : NameKind) (all names left : List (List ℕ)) → AreRead kind all names left → left ≡ [] → Some names ≡ named kind all
all_read kind all names left read none =
    sym (read ∙ ap (λ l. option_map (λ more. names ++ more) (named kind l)) none ∙ ap Some (append-nil names))
