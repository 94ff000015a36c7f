-- The length of a body (RFC 9110, section 8.6). The limit on the number of digits is this server's own.
use Rattle.std.specs.Prelude.{ℕ, Bool, ◌&&◌, List, [], ◌∷◌, length, map, ◌==◌, nat_lt, nat_le, codes, if◌then◌else◌, Option, None, Some}
use Rattle.std.specs.List.{list_all}
use Rattle.std.specs.Char.{is_ascii_digit}
use Rattle.std.specs.Str.Parse.{digits_value}
use Rattle.httparse.specs.Grammar.{trim_ows}
use Rattle.sv_message.specs.declared.field.Field.{Field}
use Rattle.sv_message.specs.declared.limits.TheConstants.{MAX_LENGTH_DIGITS}
use Rattle.sv_message.specs.Fields.{parts_by_name}

-- Whether a text is a length: at least one digit, and not too many.
abbrev pub is_length : List ℕ → Bool
is_length text = nat_lt 0 (length text) && nat_le (length text) MAX_LENGTH_DIGITS && list_all is_ascii_digit text

-- Whether a text is the given length.
abbrev pub is_number : ℕ → List ℕ → Bool
is_number number text = is_length text && digits_value 10 text == number

-- The length that all texts give, if they agree.
abbrev pub the_length : List (List ℕ) → Option ℕ
the_length [] = None
the_length (text ∷ texts) =
    if list_all (is_number (digits_value 10 text)) (text ∷ texts) then Some (digits_value 10 text) else None

-- The length in the Content-Length fields.
abbrev pub content_length : List Field → Option ℕ
content_length fields = the_length (map trim_ows (parts_by_name (codes "content-length") fields))
