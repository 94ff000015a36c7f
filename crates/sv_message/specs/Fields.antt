-- The fields of a head, and their values by name (RFC 9110, sections 5.1 to 5.6.1).
use Rattle.std.specs.Prelude.{ℕ, Bool, List, map, ◌==◌, bytes_eq}
use Rattle.std.specs.List.{filter, flat_map, list_any, slice_split}
use Rattle.http_header.specs.Token.{lowercase}
use Rattle.http_header.specs.FieldValue.{plain_value}
use Rattle.httparse.specs.Ascii.{comma}
use Rattle.httparse.specs.Grammar.{field_value, trim_ows, RequestHead}
use Rattle.httparse.specs.Grammar as grammar
use Rattle.sv_message.specs.declared.field.Field.{Field}

-- A field of a head: its name in lower case, and its value without the blanks around it.
abbrev pub field_of : grammar.Field → Field
field_of line = record { name = lowercase line.name; value = plain_value (field_value line) }

-- The fields of a head, in the order of their lines.
abbrev pub fields_of : RequestHead → List Field
fields_of head = map field_of head.fields

-- Whether a field has the name.
abbrev pub is_named : List ℕ → Field → Bool
is_named name field = bytes_eq field.name name

-- The values of the fields with the name.
abbrev pub values_of : List ℕ → List Field → List (List ℕ)
values_of name fields = map (λ field. field.value.bytes) (filter (is_named name) fields)

-- Whether there is a field with the name.
abbrev pub has_field : List ℕ → List Field → Bool
has_field name fields = list_any (is_named name) fields

-- The parts of a comma-separated list.
abbrev pub parts_of : List ℕ → List (List ℕ)
parts_of value = slice_split (λ b. b == comma) value

-- The parts of the lists in all fields with the name, in order.
abbrev pub parts_by_name : List ℕ → List Field → List (List ℕ)
parts_by_name name fields = flat_map parts_of (values_of name fields)

-- Whether a part of a list is the word, in any case and without the blanks around it.
abbrev pub is_member : List ℕ → List ℕ → Bool
is_member word part = bytes_eq (lowercase (trim_ows part)) word

-- Whether a comma-separated list contains the word, which is in lower case.
abbrev pub has_member : List ℕ → List ℕ → Bool
has_member word value = list_any (is_member word) (parts_of value)
