-- Jakarta Servlet 6.0, section 7.1: the ids of the live sessions differ, and their index.
use Rattle.std.specs.Prelude.{◌≡◌, ◌≢◌, ℕ, ◌≤◌, List, [], ◌∷◌, Option}
use Rattle.std.specs.HashMap.{get_by}
use Rattle.std.specs.Option.{option_and_then}
use Rattle.std.specs.Str.{bytes_eq}
use Rattle.sv_session.specs.declared.ids.Ids.{Ids}
use Rattle.sv_session.specs.declared.index.Index.{Index}
use Rattle.sv_session.specs.Id.{id_text}
use Rattle.sv_session.specs.Store.{Session}

-- No session has the id.
abbrev pub NoneHas : List ℕ → List Session → Type 0
NoneHas id [] = Unit {0}
NoneHas id (x ∷ xs) = (x.id ≢ id) × NoneHas id xs

-- The id was made with a serial up to a bound.
abbrev pub IsGiven : ℕ → List ℕ → Type 0
IsGiven bound id = (words : ℕ × ℕ) × (serial : ℕ) × (serial ≤ bound) × (id ≡ id_text words serial)

-- Each session has such an id, and no later session has the same one.
abbrev pub IdsDiffer : ℕ → List Session → Type 0
IdsDiffer bound [] = Unit {0}
IdsDiffer bound (x ∷ xs) = IsGiven bound x.id × NoneHas x.id xs × IdsDiffer bound xs

-- The number that an index holds for an id.
abbrev pub number_at : Index → List ℕ → Option ℕ
number_at index id = get_by (λ key. bytes_eq id key.items) index.numbers

-- The same for the ids of a context, which have no index until the first id is entered.
abbrev pub number_in : Ids → List ℕ → Option ℕ
number_in ids id = option_and_then (λ index. number_at index.value id) ids.index
