-- The session that the cookies of a request name (Jakarta Servlet 6.0, section 7.1.1).
use Rattle.std.specs.Prelude.{ℕ, List, [], ◌∷◌, Option, None}
use Rattle.std.specs.Option.{option_or}
use Rattle.sv_message.specs.declared.field.Field.{Field}
use Rattle.sv_session.specs.Store.{Store, number_of}
use Rattle.sv_login.specs.Cookies.{cookie_values}

-- The first result that a function gives for the items, if any.
abbrev pub first_given : {A B : Type 0} → (A → Option B) → List A → Option B
first_given give [] = None
first_given give (item ∷ items) = option_or (give item) (first_given give items)

-- The number of the session that the first usable value names. Values that are not ids of live sessions are skipped.
abbrev pub held : List ℕ → List Field → Store → Option ℕ
held name fields store = first_given (λ value. number_of value store) (cookie_values name fields)
