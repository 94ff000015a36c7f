-- The cookies of a request without that of the session (RFC 6265, sections 4.2 and 5.4).
use Rattle.std.specs.Prelude.{ℕ, Bool, ◌&&◌, not, List, [], ◌∷◌, ◌++◌, codes, is_some, map}
use Rattle.std.specs.List.{filter, flat_map}
use Rattle.std.specs.Str.{is_utf8}
use Rattle.httparse.specs.Grammar.{trim_ows}
use Rattle.sv_login.specs.Cookies.{pieces_of, value_of}
use Rattle.sv_message.specs.Fields.{values_of}
use Rattle.sv_message.specs.declared.field.Field.{Field}

-- whether a piece of a Cookie field is UTF-8 and no cookie with the name
abbrev pub is_other : List ℕ → List ℕ → Bool
is_other name piece = is_utf8 piece && not (is_some (value_of name piece))

-- those pieces of a Cookie field's value, without the blanks around them
abbrev pub others_in : List ℕ → List ℕ → List (List ℕ)
others_in name value = filter (is_other name) (map trim_ows (pieces_of value))

-- the same for all Cookie fields, in order
abbrev pub other_cookies : List ℕ → List Field → List (List ℕ)
other_cookies name fields = flat_map (others_in name) (values_of (codes "cookie") fields)

-- cookies, each after a semicolon and a space
abbrev pub others_text : List (List ℕ) → List ℕ
others_text cookies = flat_map (λ cookie. codes "; " ++ cookie) cookies

-- cookies with a semicolon and a space between them
abbrev pub cookies_text : List (List ℕ) → List ℕ
cookies_text [] = []
cookies_text (cookie ∷ cookies) = cookie ++ others_text cookies
