-- The cookie of a name that a client sent (RFC 6265, sections 4.2 and 5.4).
use Rattle.std.specs.Prelude.{ℕ, List, [], ◌∷◌, ◌==◌, drop, length, Option, None, Some}
use Rattle.std.specs.List.{slice_split}
use Rattle.std.specs.Str.{byte}
use Rattle.sv_login.specs.Cookies.{cookie_values}
use Rattle.sv_message.specs.declared.field.Field.{Field}

-- the first item of a list
abbrev pub first : {A : Type 0} → List A → Option A
first [] = None
first (item ∷ items) = Some item

-- the value of the first cookie of this name, in the order of the fields
abbrev pub first_cookie : List ℕ → List Field → Option (List ℕ)
first_cookie name fields = first (cookie_values name fields)

-- the pieces of the rest of a Cookie field's value, if there is a rest
abbrev pub pieces_left : Option (List ℕ) → List (List ℕ)
pieces_left None = []
pieces_left (Some text) = slice_split (λ b. b == byte ";") text
