-- A head, as the spans of a parser show it in its text (RFC 9112, sections 3 and 5).
use Rattle.std.specs.Prelude.{◌≡◌, ℕ, List, length, map, All}
use Rattle.http_header.specs.FieldName.{IsFieldName}
use Rattle.http_header.specs.FieldValue.{plain_value, IsFieldValue}
use Rattle.http_header.specs.Token.{lowercase, IsToken}
use Rattle.httparse.specs.Grammar.{RequestHead}
use Rattle.httparse.specs.Spans.{IsWithin, IsHeaderWithin, span_bytes}
use Rattle.httparse.specs.declared.spans.HeaderSpan.{HeaderSpan}
use Rattle.httparse.specs.declared.spans.RequestSpans.{RequestSpans}
use Rattle.sv_message.specs.declared.field.Field.{Field}
use Rattle.sv_message.specs.Fields.{fields_of}

-- The field at a span.
abbrev pub field_at : List ℕ → HeaderSpan → Field
field_at text span = record { name = lowercase (span_bytes text span.name); value = plain_value (span_bytes text span.value) }

-- The span shows a valid name and a valid value.
pub record IsFieldAt (text : List ℕ) (span : HeaderSpan) : Type 0 where
  pub within : IsHeaderWithin (length text) span
  pub name : IsFieldName (span_bytes text span.name)
  pub value : IsFieldValue (span_bytes text span.value)

-- The spans show a token, a target, and valid fields.
pub record AreHeadSpans (text : List ℕ) (spans : List HeaderSpan) (line : RequestSpans) : Type 0 where
  pub method : IsWithin (length text) line.method
  pub token : IsToken (span_bytes text line.method)
  pub target : IsWithin (length text) line.path
  pub fields : All (IsFieldAt text) spans

-- The spans show the parts of the head.
pub record ShowHead (text : List ℕ) (spans : List HeaderSpan) (line : RequestSpans) (head : RequestHead) : Type 0 where
  pub method : span_bytes text line.method ≡ head.method
  pub target : span_bytes text line.path ≡ head.target
  pub minor : line.version ≡ head.minor
  pub fields : map (field_at text) spans ≡ fields_of head
