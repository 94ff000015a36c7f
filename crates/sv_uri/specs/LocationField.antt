-- A path in a Location field: RFC 9110, section 10.2.2; RFC 3986, sections 2.1 (escapes) and 3.3 (the bytes of a path).
use Rattle.std.specs.Prelude.{ℕ, ◌≡◌, Bool, ◌&&◌, ◌||◌, ◌==◌, nat_le, List, [], ◌∷◌, if◌then◌else◌, codes, None, Ok}
use Rattle.std.specs.List.{list_any, flat_map}
use Rattle.std.specs.Str.{byte}
use Rattle.percent_encoding.specs.Percent.{percent_encode_byte}
use Rattle.sv_uri.specs.declared.path.Canon.{Canon}
use Rattle.sv_uri.specs.Canonical.{canonical}

-- The byte is between these two, or is one of them.
abbrev pub is_between : ℕ → ℕ → ℕ → Bool
is_between first last b = nat_le first b && nat_le b last

-- An ASCII letter or digit.
abbrev pub is_letter_or_digit : ℕ → Bool
is_letter_or_digit b = is_between (byte "A") (byte "Z") b || is_between (byte "a") (byte "z") b || is_between (byte "0") (byte "9") b

-- The bytes that are not escaped: slashes, and all that RFC 3986 allows in a segment except `;`, which begins a
-- parameter.
abbrev pub stays_in_location : ℕ → Bool
stays_in_location b = is_letter_or_digit b || list_any (λ c. b == c) (codes "/-._~!$&'()*+,=:@")

-- The path with every other byte as an escape in upper case.
unfoldable pub location : List ℕ → List ℕ
location path = flat_map (λ b. if stays_in_location b then b ∷ [] else percent_encode_byte b) path

-- Reading the location of a canonical path gives the same path, without a query.
abbrev pub LocationIsReadBack : Type 0
LocationIsReadBack = (target : List ℕ) (canon : Canon) → canonical target ≡ Ok canon
    → canonical (location canon.path) ≡ Ok (record { path = canon.path; query = None })
