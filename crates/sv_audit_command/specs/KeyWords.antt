-- The words of keys. Separators in them are quoted, so that no two lists of names have the same text.
use Rattle.std.specs.Prelude.{ℕ, Bool, true, ◌||◌, ◌==◌, List, [], ◌∷◌, ◌++◌, chars, codes, encode_utf8, if◌then◌else◌, length}
use Rattle.std.specs.List.{flat_map, list_any}
use Rattle.std.specs.Str.{byte}
use Rattle.sv_audit.specs.declared.access.Access.{Access}
use Rattle.sv_audit.specs.declared.access.Access.TheVariants.{Roles}
use Rattle.sv_report.specs.Words.{who_text}

abbrev pub is_separator : ℕ → Bool
is_separator b = b == byte " " || (b == byte "," || b == byte "\"")

-- Whether a name is empty or has a separator.
abbrev pub is_ambiguous : List ℕ → Bool
is_ambiguous name = length name == 0 || list_any is_separator name

-- The character, or two quotation marks for one.
abbrev pub quoted_character : ℕ → List ℕ
quoted_character c = if c == byte "\"" then codes "\"\"" else encode_utf8 c

-- The name in quotation marks (RFC 4180, section 2).
abbrev pub quoted : List ℕ → List ℕ
quoted name = codes "\"" ++ flat_map quoted_character (chars name) ++ codes "\""

-- The name, in quotation marks if it is ambiguous.
abbrev pub word : List ℕ → List ℕ
word name = if is_ambiguous name then quoted name else name

abbrev pub other_role : List ℕ → List ℕ
other_role role = codes ", " ++ word role

-- The roles of an access, or why there are none.
abbrev pub roles_text : List (List ℕ) → List ℕ
roles_text [] = who_text true (Roles [])
roles_text (role ∷ others) = codes "role " ++ word role ++ flat_map other_role others

-- Whom an access lets in.
abbrev pub access_text : Access → List ℕ
access_text (Roles roles) = roles_text roles
access_text access = who_text true access
