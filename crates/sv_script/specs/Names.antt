-- Names with commas between them.
use Rattle.std.specs.Prelude.{ℕ, Bool, ◌==◌, ◌&&◌, not, nat_le, List, [], length, Option, Some, None, if◌then◌else◌}
use Rattle.std.specs.List.{list_all, slice_split}
use Rattle.std.specs.Str.{byte, is_utf8}
use Rattle.http_header.specs.Token.{is_token_byte}
use Rattle.sv_constraints.specs.declared.constraint.TheConstants.{MAX_METHOD_BYTES}
use Rattle.sv_script.specs.declared.edit_lines.TheConstants.{MAX_ROLE_BYTES}
use Rattle.sv_script.specs.declared.names.NameKind.{NameKind}
use Rattle.sv_script.specs.declared.names.NameKind.TheVariants.{Method, Role}

abbrev pub is_comma : ℕ → Bool
is_comma b = b == byte ","

-- no control character of US-ASCII
abbrev pub is_shown : ℕ → Bool
is_shown b = nat_le 32 b && not (b == 127)

-- one or more bytes, up to the limit; a method is a token, and a role has no control characters
abbrev pub has_form : NameKind → List ℕ → Bool
has_form Method name = nat_le 1 (length name) && nat_le (length name) MAX_METHOD_BYTES && list_all is_token_byte name
has_form Role name = nat_le 1 (length name) && nat_le (length name) MAX_ROLE_BYTES && list_all is_shown name

abbrev pub is_name : NameKind → List ℕ → Bool
is_name kind text = is_utf8 text && has_form kind text

-- the text as a name
abbrev pub name_of : NameKind → List ℕ → Option (List ℕ)
name_of kind text = if is_name kind text then Some text else None

-- the names, if each of them is valid
abbrev pub named : NameKind → List (List ℕ) → Option (List (List ℕ))
named kind names = if list_all (is_name kind) names then Some names else None

-- the parts between the commas, none if no text is left
abbrev pub parts_of : Option (List ℕ) → List (List ℕ)
parts_of None = []
parts_of (Some text) = slice_split is_comma text

-- the names in a text
abbrev pub names_of : NameKind → List ℕ → Option (List (List ℕ))
names_of kind text = named kind (slice_split is_comma text)
