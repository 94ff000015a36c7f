-- The codings of a body (RFC 9112, sections 6.1 and 7).
use Rattle.std.specs.Prelude.{ℕ, Bool, false, ◌&&◌, not, List, [], ◌∷◌, length, map, ◌==◌, bytes_eq, codes, if◌then◌else◌}
use Rattle.std.specs.List.{filter}
use Rattle.http_header.specs.Token.{lowercase}
use Rattle.httparse.specs.Grammar.{trim_ows}
use Rattle.sv_message.specs.declared.codings.Codings.{Codings}
use Rattle.sv_message.specs.declared.codings.Codings.TheVariants.{Chunked, Unknown, Bad}
use Rattle.sv_message.specs.declared.field.Field.{Field}
use Rattle.sv_message.specs.Fields.{parts_by_name}

-- A part of a list, in lower case and without the blanks around it.
abbrev pub plain_part : List ℕ → List ℕ
plain_part part = lowercase (trim_ows part)

-- The codings of a list in order, without its empty parts.
abbrev pub codings_in : List (List ℕ) → List (List ℕ)
codings_in parts = filter (λ coding. not (length coding == 0)) (map plain_part parts)

-- The codings that the fields name, in order.
abbrev pub codings_of : List Field → List (List ℕ)
codings_of fields = codings_in (parts_by_name (codes "transfer-encoding") fields)

abbrev pub is_chunked : List ℕ → Bool
is_chunked coding = bytes_eq coding (codes "chunked")

-- Whether the last coding is `chunked`, and no coding before it is.
abbrev pub ends_chunked : List (List ℕ) → Bool
ends_chunked [] = false
ends_chunked (coding ∷ []) = is_chunked coding
ends_chunked (coding ∷ next ∷ codings) = not (is_chunked coding) && ends_chunked (next ∷ codings)

-- The kind of the codings, for a server that knows only `chunked`.
abbrev pub kind_of : List (List ℕ) → Codings
kind_of codings = if ends_chunked codings then (if length codings == 1 then Chunked else Unknown) else Bad

abbrev pub coding_kind : List Field → Codings
coding_kind fields = kind_of (codings_of fields)
