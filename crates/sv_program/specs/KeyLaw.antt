-- The keys that the readers of configuration files accept.
use Rattle.std.specs.Prelude.{◌≡◌, ℕ, true, Bool, ◌||◌, List, [], ◌++◌, codes, map, Ok}
use Rattle.std.specs.List.{list_all, list_any}
use Rattle.toml.specs.Data.{Members}
use Rattle.sv_descriptor.specs.Fault.{Located}
use Rattle.sv_descriptor.specs.Ignored.{ignored_keys}
use Rattle.sv_descriptor.specs.Table.{is_among, keys}
use Rattle.sv_program.specs.Keys.{descriptions, is_about}

-- the key of this table has a description
abbrev pub is_described : List ℕ → List ℕ → Bool
is_described table key = list_any (is_about table key) descriptions

-- or it is one of the ignored keys
abbrev pub is_known : List (List ℕ) → List ℕ → List ℕ → Bool
is_known ignored table key = is_described table key || is_among ignored key

-- each key of a table that is read without a fault has a description, or is ignored
abbrev pub AreKnown : {A : Type 0} → List (List ℕ) → List ℕ → (Members → Located A) → Type 0
AreKnown {A} ignored table reads = (members : Members) (value : A) → reads members ≡ Ok value → list_all (is_known ignored table) (keys members) ≡ true

-- of a server file or a users file, which have no ignored keys
abbrev pub AllAreDescribed : {A : Type 0} → List ℕ → (Members → Located A) → Type 0
AllAreDescribed = AreKnown []

-- of a descriptor
abbrev pub AllAreKnown : {A : Type 0} → List ℕ → (Members → Located A) → Type 0
AllAreKnown = AreKnown ignored_keys

-- the described keys, each after its table
abbrev pub places : List (List ℕ)
places = map (λ row. row.table ++ codes "." ++ row.key) descriptions
