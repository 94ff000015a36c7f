-- The keys of a table: the known keys, and how the value at each is read.
use Rattle.std.specs.Prelude.{ℕ, Bool, not, ◌&&◌, List, [], ◌∷◌, map, Option, Some, None, is_some, Ok}
use Rattle.std.specs.Borrow.{Bor}
use Rattle.std.specs.List.{find, list_any}
use Rattle.std.specs.Option.{option_map_or}
use Rattle.std.specs.Str.{bytes_eq}
use Rattle.toml.specs.Data.{Data, Members, no_members, member, get_member}
use Rattle.sv_text.specs.Steps.{◌>>=◌}
use Rattle.sv_descriptor.specs.Fault.{Located, refuse, within}
use Rattle.sv_descriptor.specs.Value.{Reader}
use Rattle.sv_descriptor.specs.declared.fault.FaultCode.TheVariants.{UnknownKey, MissingKey}
use Rattle.sv_descriptor.specs.declared.fault.ValueStep.TheVariants.{Key}

-- The keys of a table, in the order of their bytes.
abbrev pub keys : Members → List (List ℕ)
keys no_members = []
keys (member key value rest) = key ∷ keys rest

abbrev pub is_among : List (List ℕ) → List ℕ → Bool
is_among texts text = list_any (λ other. bytes_eq other text) texts

-- The texts of references.
abbrev pub texts : List (Bor (List ℕ)) → List (List ℕ)
texts references = map (λ text. text.now) references

abbrev pub is_other : List (List ℕ) → List (List ℕ) → List ℕ → Bool
is_other known ignored key = not (is_among known key) && not (is_among ignored key)

abbrev pub unknown_key : List ℕ → Located (Unit {0})
unknown_key key = within (Key key) (refuse UnknownKey key)

-- The table has no other keys. The fault is at the first other key.
abbrev pub only_keys : List (List ℕ) → List (List ℕ) → Members → Located (Unit {0})
only_keys known ignored table = option_map_or unknown_key (find (is_other known ignored) (keys table)) (Ok tt)

abbrev pub has_key : List ℕ → Members → Bool
has_key key table = is_some (get_member key table)

abbrev pub required_value : {A : Type 0} → Reader A → List ℕ → Option Data → Located A
required_value reads key None = refuse MissingKey key
required_value reads key (Some value) = within (Key key) (reads key value)

-- A required key.
abbrev pub required : {A : Type 0} → Reader A → List ℕ → Members → Located A
required reads key table = required_value reads key (get_member key table)

abbrev pub optional_value : {A : Type 0} → Reader A → List ℕ → Option Data → Located (Option A)
optional_value reads key None = Ok None
optional_value reads key (Some value) = within (Key key) (reads key value) >>= (λ a. Ok (Some a))

-- A key that may be missing.
abbrev pub optional : {A : Type 0} → Reader A → List ℕ → Members → Located (Option A)
optional reads key table = optional_value reads key (get_member key table)

abbrev pub or_else : {A : Type 0} → A → Option A → A
or_else other None = other
or_else other (Some a) = a

-- An optional key with a default value.
abbrev pub optional_or : {A : Type 0} → A → Reader A → List ℕ → Members → Located A
optional_or other reads key table = optional reads key table >>= (λ a. Ok (or_else other a))
