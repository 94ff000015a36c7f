-- The field that gives the end of a body (RFC 9112, sections 6.1 to 6.3).
use Rattle.std.specs.Prelude.{◌≡◌, ℕ, true, false, List, [], ◌∷◌, ◌++◌, length, codes, decimal}
use Rattle.http_header.specs.FieldValue.{plain_value}
use Rattle.sv_message.specs.declared.field.Field.{Field}
use Rattle.sv_message.specs.Fields.{is_named}
use Rattle.sv_message.specs.declared.body.Body.{Body}
use Rattle.sv_message.specs.declared.body.Body.TheVariants.{Flushed, Whole}

-- A field with this name and value.
abbrev pub field : List ℕ → List ℕ → Field
field name value = record { name = name; value = plain_value value }

-- The framing field of a body to send: its length, the coding of chunks, or none if the body ends with the connection.
abbrev pub framing_fields : Body → List Field
framing_fields (Whole bytes) = field (codes "content-length") (decimal (length bytes)) ∷ []
framing_fields (Flushed pieces true broken) = field (codes "transfer-encoding") (codes "chunked") ∷ []
framing_fields (Flushed pieces false broken) = []

-- The framing field of a body to send, among other fields.
abbrev pub framed : List Field → Body → List Field → List Field
framed before body after = before ++ framing_fields body ++ after

-- A field that does not give the end of a body.
abbrev pub SaysNoEnd : Field → Type 0
SaysNoEnd other = (is_named (codes "content-length") other ≡ false) × (is_named (codes "transfer-encoding") other ≡ false)
