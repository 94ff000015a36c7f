-- Looking up and setting fields by name (RFC 9110, section 5; Jakarta Servlet 6.0, section 5.2).
use Rattle.std.specs.Prelude.{ℕ, Bool, not, ◌&&◌, ◌||◌, List, [], ◌∷◌, ◌++◌, length, nat_lt, nat_le, bytes_eq, codes, Option, None, Some, if◌then◌else◌}
use Rattle.std.specs.List.{filter, list_all}
use Rattle.http_header.specs.FieldValue.{plain_value}
use Rattle.http_header.specs.Token.{is_token_byte, is_value_byte, lowercase}
use Rattle.sv_message.specs.declared.field.Field.{Field}
use Rattle.sv_message.specs.Fields.{is_named}
use Rattle.sv_exchange.specs.declared.limits.TheConstants.{MAX_FIELD_NAME_LEN}

-- Whether a field has the name, in any case.
abbrev pub is_called : List ℕ → Field → Bool
is_called name field = is_named (lowercase name) field

-- The value of the first field with the name.
abbrev pub first_value : List ℕ → List Field → Option (List ℕ)
first_value name [] = None
first_value name (field ∷ fields) = if is_called name field then Some field.value.bytes else first_value name fields

-- A field as it is set, with the value as given.
abbrev pub field_of : List ℕ → List ℕ → Field
field_of name value = record { name = lowercase name; value = plain_value value }

-- The fields with other names.
abbrev pub without : List ℕ → List Field → List Field
without name fields = filter (λ field. not (is_called name field)) fields

-- Replaces the first field with the name and removes the others, or adds a field.
abbrev pub set_field : List ℕ → List ℕ → List Field → List Field
set_field name value [] = field_of name value ∷ []
set_field name value (field ∷ fields) =
    if is_called name field then field_of name value ∷ without name fields else field ∷ set_field name value fields

-- Adds a field.
abbrev pub add_field : List ℕ → List ℕ → List Field → List Field
add_field name value fields = fields ++ field_of name value ∷ []

-- The fields that only the server writes.
abbrev pub is_reserved_field : List ℕ → Bool
is_reserved_field name =
    bytes_eq (lowercase name) (codes "date") || bytes_eq (lowercase name) (codes "content-length")
    || bytes_eq (lowercase name) (codes "transfer-encoding") || bytes_eq (lowercase name) (codes "connection")

-- Whether a text is a valid field name: a token, and not too long.
abbrev pub is_field_name : List ℕ → Bool
is_field_name name = nat_lt 0 (length name) && list_all is_token_byte name && nat_le (length name) MAX_FIELD_NAME_LEN

-- Whether a field can have the name and the value.
abbrev pub is_field : List ℕ → List ℕ → Bool
is_field name value = is_field_name name && list_all is_value_byte value
