-- The cookies that a request sends (RFC 6265, sections 4.2 and 5.4).
use Rattle.std.specs.Prelude.{ℕ, ◌+◌, ◌==◌, List, Option, Some, None, codes, drop, filter_map, flat_map, option_and_then, position, take, if◌then◌else◌}
use Rattle.std.specs.List.{slice_split}
use Rattle.std.specs.Str.{byte, bytes_eq}
use Rattle.httparse.specs.Grammar.{trim_ows}
use Rattle.sv_message.specs.Fields.{values_of}
use Rattle.sv_message.specs.declared.field.Field.{Field}

-- The text after an index, if the text before it is the name.
abbrev pub behind_name : List ℕ → List ℕ → ℕ → Option (List ℕ)
behind_name name text place = if bytes_eq (take place text) name then Some (drop (place + 1) text) else None

-- The value of a cookie with this name. The text is cut at its first `=`; a text without one is not a cookie.
abbrev pub value_of : List ℕ → List ℕ → Option (List ℕ)
value_of name text = option_and_then (behind_name name text) (position (λ b. b == byte "=") text)

-- The pieces of the value of a Cookie field, separated by semicolons.
abbrev pub pieces_of : List ℕ → List (List ℕ)
pieces_of value = slice_split (λ b. b == byte ";") value

-- The values of the cookies with this name in a Cookie field. Blanks around its pieces are removed.
abbrev pub values_in : List ℕ → List ℕ → List (List ℕ)
values_in name value = filter_map (λ piece. value_of name (trim_ows piece)) (pieces_of value)

-- The values of the cookies with this name in all fields, in order.
abbrev pub cookie_values : List ℕ → List Field → List (List ℕ)
cookie_values name fields = flat_map (values_in name) (values_of (codes "cookie") fields)
