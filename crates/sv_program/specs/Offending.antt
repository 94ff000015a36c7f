-- The value that a fault is about.
use Rattle.std.specs.Prelude.{ℕ, Bool, true, false, not, ◌||◌, List, [], ◌∷◌, codes, slice_get, Option, Some, None, if◌then◌else◌}
use Rattle.std.specs.List.{list_any}
use Rattle.std.specs.Option.{option_and_then, option_map_or}
use Rattle.std.specs.Str.{bytes_eq}
use Rattle.toml.specs.Data.{Data, Members, as_array, as_table, get_member}
use Rattle.sv_descriptor.specs.ListOf.{items_list}
use Rattle.sv_descriptor.specs.declared.fault.FaultCode.{FaultCode}
use Rattle.sv_descriptor.specs.declared.fault.FaultCode.TheVariants.{NotToml, UnknownKey, MissingKey, BothMethodLists, TooMany}
use Rattle.sv_descriptor.specs.declared.fault.LocatedFault.{LocatedFault}
use Rattle.sv_descriptor.specs.declared.fault.ValueStep.{ValueStep}
use Rattle.sv_descriptor.specs.declared.fault.ValueStep.TheVariants.{Key, Item}
use Rattle.sv_program.specs.Shown.{shown}

-- the items of a list; any other value has none
abbrev pub items : Data → List Data
items value = option_map_or items_list (as_array value) []

-- the member of a table, or the item of a list
abbrev pub next_value : ValueStep → Data → Option Data
next_value (Key key) value = option_and_then (get_member key) (as_table value)
next_value (Item number) value = slice_get (items value) number

-- the value after these steps
abbrev pub value_after : List ValueStep → Data → Option Data
value_after [] value = Some value
value_after (step ∷ rest) value = option_and_then (value_after rest) (next_value step value)

-- the member of the table of a file
abbrev pub first_value : ValueStep → Members → Option Data
first_value (Key key) file = get_member key file
first_value (Item number) file = None

-- the value after these steps from the table of a file
abbrev pub value_in : List ValueStep → Members → Option Data
value_in [] file = None
value_in (step ∷ rest) file = option_and_then (value_after rest) (first_value step file)

-- a fault of this code is about a value that the file has
abbrev pub is_about_value : FaultCode → Bool
is_about_value NotToml = false
is_about_value UnknownKey = false
is_about_value MissingKey = false
is_about_value BothMethodLists = false
is_about_value TooMany = false
is_about_value other = true

-- the keys of the seed, of the salts and digests of passwords, and of the parameters of components
abbrev pub is_secret_key : List ℕ → Bool
is_secret_key key = bytes_eq key (codes "seed") || (bytes_eq key (codes "salt") || (bytes_eq key (codes "digest") || bytes_eq key (codes "init-param")))

abbrev pub is_secret_step : ValueStep → Bool
is_secret_step (Key key) = is_secret_key key
is_secret_step (Item number) = false

-- the offending value as it is shown; a secret value is not shown
abbrev pub offending : LocatedFault → Members → Option (List ℕ)
offending found file =
    if not (is_about_value found.fault.code) || list_any is_secret_step found.steps then None
    else option_and_then shown (value_in found.steps file)
