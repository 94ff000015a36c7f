-- Methods are read back from their key.
use Rattle.std.proofs.Common.{◌≡◌, ◌∙◌, ℕ, Bool, true, false, cond, not, ◌&&◌, ◌||◌, List, [], ◌∷◌, ◌++◌, codes, nat_eq, bytes_eq, refl, sym, ap}
use Rattle.std.specs.List.{list_all, slice_split, onto_first, starts_with}
use Rattle.std.proofs.lemmas.Bool.{and_parts, false≢true, or_parts}
use Rattle.sv_constraints.specs.declared.constraint.Methods.{Methods}
use Rattle.sv_constraints.specs.declared.constraint.Methods.TheVariants.{All, Only, Except}
use Rattle.sv_program.specs.Uncovered.{others_text}
use Rattle.sv_audit_command.specs.MethodsKey.{KeysTellMethods, comma, equals_sign, have_names, is_ambiguous, is_name, is_name_byte, methods_key, simplest}

-- ---- The names of a text.
is_false : (some : Bool) → not some ≡ true → some ≡ false
is_false true is = absurd (false≢true is)
is_false false is = refl

no_comma : (byte : ℕ) → is_name_byte byte ≡ true → nat_eq byte comma ≡ false
no_comma byte is = is_false (nat_eq byte comma) (and_parts (not (nat_eq byte comma)) (not (nat_eq byte equals_sign)) is).0

no_equals : (byte : ℕ) → is_name_byte byte ≡ true → nat_eq byte equals_sign ≡ false
no_equals byte is = is_false (nat_eq byte equals_sign) (and_parts (not (nat_eq byte comma)) (not (nat_eq byte equals_sign)) is).1

abbrev names_of : List ℕ → List (List ℕ)
names_of text = slice_split (λ byte. nat_eq byte comma) text

first_name : (name rest : List ℕ) (names : List (List ℕ)) → list_all is_name_byte name ≡ true → names_of rest ≡ [] ∷ names → names_of (name ++ rest) ≡ name ∷ names
first_name [] rest names good is = is
first_name (byte ∷ name) rest names good is =
    let parts = and_parts (is_name_byte byte) (list_all is_name_byte name) good in
    rw (no_comma byte parts.0) (ap (onto_first byte) (first_name name rest names parts.1 is))

bytes_of : (name : List ℕ) → is_name name ≡ true → list_all is_name_byte name ≡ true
bytes_of name good = (and_parts (not (bytes_eq name [])) (list_all is_name_byte name) good).1

other_names : (names : List (List ℕ)) → list_all is_name names ≡ true → names_of (others_text names) ≡ [] ∷ names
other_names [] known = refl
other_names (name ∷ names) known =
    let parts = and_parts (is_name name) (list_all is_name names) known in
    ap (λ found. [] ∷ found) (first_name name (others_text names) names (bytes_of name parts.0) (other_names names parts.1))

all_names : (name : List ℕ) (names : List (List ℕ)) → list_all is_name (name ∷ names) ≡ true → names_of (name ++ others_text names) ≡ name ∷ names
all_names name names known =
    let parts = and_parts (is_name name) (list_all is_name names) known in
    first_name name (others_text names) names (bytes_of name parts.0) (other_names names parts.1)

-- ---- The methods of a text.
abbrev unmarked : List ℕ → Methods
unmarked text = cond (bytes_eq text (codes "*")) All (Only (names_of text))

abbrev methods_of : List ℕ → Methods
methods_of [] = Only []
methods_of (byte ∷ text) = cond (nat_eq 33 byte) (Except (names_of text)) (cond (nat_eq byte equals_sign) (Only (names_of text)) (unmarked (byte ∷ text)))

never : (some : Bool) → (some && false) ≡ false
never true = refl
never false = refl

first_false : (some : Bool) → (some && true) ≡ false → some ≡ false
first_false true is = is
first_false false is = refl

only_star : (byte : ℕ) (name rest : List ℕ) → bytes_eq (byte ∷ name) (codes "*") ≡ false → bytes_eq (byte ∷ name ++ rest) (codes "*") ≡ false
only_star byte [] [] none = none
only_star byte [] (next ∷ rest) none = never (nat_eq byte 42)
only_star byte (next ∷ name) rest none = never (nat_eq byte 42)

read_only : (byte : ℕ) (name : List ℕ) (names : List (List ℕ)) → list_all is_name ((byte ∷ name) ∷ names) ≡ true
    → methods_of (methods_key (Only ((byte ∷ name) ∷ names))) ≡ Only ((byte ∷ name) ∷ names)
read_only byte name names known = by (is_ambiguous (byte ∷ name)) refl
  where
    by : (ambiguous : Bool) → is_ambiguous (byte ∷ name) ≡ ambiguous
        → methods_of (cond ambiguous (codes "=") [] ++ ((byte ∷ name) ++ others_text names)) ≡ Only ((byte ∷ name) ∷ names)
    by true is = ap Only (all_names (byte ∷ name) names known)
    by false is =
        let parts = or_parts (bytes_eq (byte ∷ name) (codes "*")) (starts_with nat_eq (byte ∷ name) (codes "!")) is in
        let marks = and_parts (is_name_byte byte) (list_all is_name_byte name) (bytes_of (byte ∷ name) (and_parts (is_name (byte ∷ name)) (list_all is_name names) known).0) in
        rw (first_false (nat_eq 33 byte) parts.1, no_equals byte marks.0, only_star byte name (others_text names) parts.0) (ap Only (all_names (byte ∷ name) names known))

read_back : (methods : Methods) → have_names methods ≡ true → methods_of (methods_key methods) ≡ simplest methods
read_back All known = refl
read_back (Only []) known = refl
read_back (Only ([] ∷ names)) known = absurd (false≢true known)
read_back (Only ((byte ∷ name) ∷ names)) known = read_only byte name names known
read_back (Except []) known = refl
read_back (Except (name ∷ names)) known = ap Except (all_names name names known)

pub keys_tell : KeysTellMethods
keys_tell one other first second same =
    sym (read_back one first) ∙ ap methods_of same ∙ read_back other second
