-- The names of the files of sessions.
use Rattle.std.specs.Prelude.{◌≡◌, ℕ, ◌<◌, Bool, ◌||◌, ◌==◌, All, List, [], ◌∷◌, codes, drop, if◌then◌else◌}
use Rattle.std.specs.List.{flat_map}
use Rattle.std.specs.Str.{byte, bytes_eq}
use Rattle.percent_encoding.specs.Percent.{percent_encode_byte}
use Rattle.sv_uri.specs.LocationField.{is_letter_or_digit}

-- the bytes that are unchanged in a name
abbrev pub is_plain : ℕ → Bool
is_plain b = is_letter_or_digit b || (b == byte "-" || b == byte "_")

-- the text with every other byte as `%` and two hexadecimal digits (RFC 3986, section 2.1)
unfoldable pub escaped : List ℕ → List ℕ
escaped text = flat_map (λ b. if is_plain b then b ∷ [] else percent_encode_byte b) text

-- the name of the file of the context at a path, without its ending
abbrev pub session_name : List ℕ → List ℕ
session_name path =
    if bytes_eq path [] then codes "ROOT"
    else if bytes_eq path (codes "/ROOT") then codes "%52OOT"
    else escaped (drop 1 path)

-- the path of the root context, or a path that begins with a slash
abbrev pub IsPath : List ℕ → Type 0
IsPath [] = Unit {0}
IsPath (first ∷ rest) = first ≡ byte "/"

-- no two paths have the same name
abbrev pub NamesDiffer : Type 0
NamesDiffer = (one other : List ℕ) → All (λ b. b < 256) one → All (λ b. b < 256) other → IsPath one → IsPath other
    → session_name one ≡ session_name other → one ≡ other
