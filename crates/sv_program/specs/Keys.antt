-- What a key of a configuration file takes.
use Rattle.std.specs.Prelude.{ℕ, Bool, true, false, ◌&&◌, List, [], ◌∷◌, codes, map, if◌then◌else◌}
use Rattle.std.specs.List.{find, flat_map}
use Rattle.std.specs.Option.{option_map_or}
use Rattle.std.specs.Str.{bytes_eq}
use Rattle.sv_descriptor.specs.declared.fault.FaultCode.{FaultCode}
use Rattle.sv_descriptor.specs.declared.fault.FaultCode.TheVariants.{WrongType, BadTimeout, BadValue, TooMany}
use Rattle.sv_descriptor.specs.declared.fault.LocatedFault.{LocatedFault}
use Rattle.sv_descriptor.specs.declared.fault.ValueStep.{ValueStep}
use Rattle.sv_descriptor.specs.declared.fault.ValueStep.TheVariants.{Key, Item}
use Rattle.sv_program.specs.declared.keys.Format.{Format}
use Rattle.sv_program.specs.declared.keys.KeyDescription.{KeyDescription}
use Rattle.sv_program.specs.declared.keys.TheConstants.{KEYS}

-- what a key of a configuration file takes and means
pub record KeyFields : Type 0 where
  pub format : Format
  pub table : List ℕ
  pub key : List ℕ
  pub takes : List ℕ
  pub means : List ℕ

-- the key of a step to a member of a table
abbrev pub step_keys : ValueStep → List (List ℕ)
step_keys (Key key) = key ∷ []
step_keys (Item number) = []

-- the keys on the way from the file to a value; the table of the file itself has an empty one
abbrev pub keys_to : List ValueStep → List (List ℕ)
keys_to steps = [] ∷ flat_map step_keys steps

-- the last key but one
abbrev pub last_but_one : List (List ℕ) → List ℕ
last_but_one (table ∷ key ∷ []) = table
last_but_one (first ∷ rest) = last_but_one rest
last_but_one [] = []

-- the key of the table in which the last key of these steps is
abbrev pub table_key : List ValueStep → List ℕ
table_key steps = last_but_one (keys_to steps)

-- the fields of a row, as texts
abbrev pub row_fields : {T : Type 0} → (T → List ℕ) → Format × T × T × T × T → KeyFields
row_fields text row = record { format = row.0; table = text row.1; key = text row.2; takes = text row.3; means = text row.4 }

-- the fields of a description, as texts
abbrev pub fields : KeyDescription → KeyFields
fields given = record { format = given.format; table = given.table.now; key = given.key.now; takes = given.takes.now; means = given.means.now }

-- the keys of all formats
abbrev pub descriptions : List KeyFields
descriptions = map (row_fields (λ text. text.now)) KEYS

-- the row is about this key of this table
abbrev pub is_about : List ℕ → List ℕ → KeyFields → Bool
is_about table key row = bytes_eq row.table table && bytes_eq row.key key

-- what the key takes, by the first row about it; parameters of components have no row, and take texts
abbrev pub takes_among : List KeyFields → List ℕ → List ℕ → List ℕ
takes_among rows table key = option_map_or (λ row. row.takes) (find (is_about table key) rows) (codes "a text")

-- what this key of this table takes
unfoldable pub takes : List ℕ → List ℕ → List ℕ
takes table key = takes_among descriptions table key

-- the value at the key is none that the key takes
abbrev pub is_value_refused : FaultCode → Bool
is_value_refused WrongType = true
is_value_refused BadTimeout = true
is_value_refused BadValue = true
is_value_refused TooMany = true
is_value_refused other = false

-- what the key of the fault takes, if the fault is that its value is none of that
abbrev pub taken : LocatedFault → List ℕ
taken found =
    if is_value_refused found.fault.code then takes (table_key found.steps) found.fault.key else codes ""
