-- The methods in the key of a finding.
use Rattle.std.specs.Prelude.{◌≡◌, ℕ, Bool, true, false, not, ◌&&◌, ◌||◌, List, [], ◌∷◌, ◌++◌, codes, nat_eq, IsTrue, if◌then◌else◌}
use Rattle.std.specs.List.{list_all, starts_with}
use Rattle.std.specs.Str.{bytes_eq}
use Rattle.sv_constraints.specs.declared.constraint.Methods.{Methods}
use Rattle.sv_constraints.specs.declared.constraint.Methods.TheVariants.{All, Only, Except}
use Rattle.sv_program.specs.Uncovered.{names_text, omission_text}

-- Whether a name begins as the text of all methods or of an omission does. `*` and `!` are bytes of tokens.
abbrev pub is_ambiguous : List ℕ → Bool
is_ambiguous name = bytes_eq name (codes "*") || starts_with nat_eq name (codes "!")

-- Whether the first of names is ambiguous.
abbrev pub begin_ambiguously : List (List ℕ) → Bool
begin_ambiguously [] = false
begin_ambiguously (name ∷ names) = is_ambiguous name

-- What precedes names. No token has `=`.
abbrev pub mark : List (List ℕ) → List ℕ
mark names = if begin_ambiguously names then codes "=" else []

-- `*` for all methods, names for only these, or `!` and names for all but these. `=` precedes names that begin ambiguously.
abbrev pub methods_key : Methods → List ℕ
methods_key All = codes "*"
methods_key (Only names) = mark names ++ names_text names
methods_key (Except names) = omission_text names

-- b','
abbrev pub comma : ℕ
comma = 44

-- b'='
abbrev pub equals_sign : ℕ
equals_sign = 61

-- Whether a byte may be in the name of a method: any byte but these two. The bytes of tokens are such (RFC 9110,
-- section 5.6.2).
abbrev pub is_name_byte : ℕ → Bool
is_name_byte byte = not (nat_eq byte comma) && not (nat_eq byte equals_sign)

-- Whether a name has such bytes alone, and at least one.
abbrev pub is_name : List ℕ → Bool
is_name text = not (bytes_eq text []) && list_all is_name_byte text

-- Whether all names are such.
abbrev pub have_names : Methods → Bool
have_names All = true
have_names (Only names) = list_all is_name names
have_names (Except names) = list_all is_name names

-- All methods but none are all methods.
abbrev pub simplest : Methods → Methods
simplest All = All
simplest (Only names) = Only names
simplest (Except []) = All
simplest (Except (name ∷ names)) = Except (name ∷ names)

-- Methods with the same key are the same.
abbrev pub KeysTellMethods : Type 0
KeysTellMethods = (one other : Methods) → IsTrue (have_names one) → IsTrue (have_names other) → methods_key one ≡ methods_key other → simplest one ≡ simplest other
