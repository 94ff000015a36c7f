-- Names of callers and roles as values of fields.
use Rattle.std.specs.Prelude.{ℕ, Bool, ◌||◌, ◌==◌, List, [], ◌∷◌, ◌++◌, codes, if◌then◌else◌}
use Rattle.std.specs.List.{flat_map, list_any}
use Rattle.percent_encoding.specs.Percent.{percent_encode_byte}
use Rattle.sv_uri.specs.LocationField.{is_letter_or_digit}

-- the unreserved bytes (RFC 3986, section 2.3)
abbrev pub is_unreserved : ℕ → Bool
is_unreserved b = is_letter_or_digit b || list_any (λ c. b == c) (codes "-._~")

-- the name with every other byte as an escape in upper case
unfoldable pub encoded_name : List ℕ → List ℕ
encoded_name name = flat_map (λ b. if is_unreserved b then b ∷ [] else percent_encode_byte b) name

-- a role after a comma
abbrev pub other_text : List ℕ → List ℕ
other_text role = codes "," ++ encoded_name role

abbrev pub others_text : List (List ℕ) → List ℕ
others_text roles = flat_map other_text roles

-- roles, separated by commas
abbrev pub roles_text : List (List ℕ) → List ℕ
roles_text [] = []
roles_text (role ∷ roles) = encoded_name role ++ others_text roles
