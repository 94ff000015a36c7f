-- A list at a key: the types of all its items are checked, then its length, and then the items are read in order.
use Rattle.std.specs.Prelude.{ℕ, ◌+◌, Bool, true, false, not, nat_lt, List, map, [], ◌∷◌, length, if◌then◌else◌, Result, Ok, Err}
use Rattle.std.specs.List.{list_all}
use Rattle.toml.specs.Data.{Data, array, Items, no_items, item, Members}
use Rattle.std.specs.Borrow.{Bor}
use Rattle.toml.specs.View.{view}
use Rattle.toml.specs.declared.value.Value.{Value}
use Rattle.sv_descriptor.specs.declared.fault.LocatedReadFault.{LocatedReadFault}
use Rattle.sv_text.specs.Steps.{◌>>=◌}
use Rattle.sv_descriptor.specs.Fault.{Located, refuse, within}
use Rattle.sv_descriptor.specs.Value.{Reader, is_text, text_of, is_table, table_of}
use Rattle.sv_descriptor.specs.declared.fault.FaultCode.TheVariants.{WrongType, BadValue, TooMany}
use Rattle.sv_descriptor.specs.declared.fault.ValueStep.TheVariants.{Item}

abbrev pub items_list : Items → List Data
items_list no_items = []
items_list (item value rest) = value ∷ items_list rest

-- The items of a list whose length is within bounds and whose items all have one type.
abbrev pub sized_items : ℕ → ℕ → (Data → Bool) → List ℕ → List Data → Located (List Data)
sized_items least most fits key items =
    if not (list_all fits items) then refuse WrongType key
    else if nat_lt most (length items) then refuse TooMany key
    else if nat_lt (length items) least then refuse BadValue key
    else Ok items

abbrev pub list_items : ℕ → ℕ → (Data → Bool) → Reader (List Data)
list_items least most fits key (array items) = sized_items least most fits key (items_list items)
list_items least most fits key _ = refuse WrongType key

-- The values of the items from number `i` on, in order.
abbrev pub each_from : {A : Type 0} → ℕ → (Data → Located A) → List Data → Located (List A)
each_from i reads [] = Ok []
each_from i reads (value ∷ rest) = do
  a ← within (Item i) (reads value)
  others ← each_from (i + 1) reads rest
  Ok (a ∷ others)

abbrev pub list_of : {A : Type 0} → ℕ → ℕ → (Data → Bool) → Reader A → Reader (List A)
list_of least most fits reads key value = list_items least most fits key value >>= each_from 0 (reads key)

-- A list of texts.
abbrev pub list_of_texts : {A : Type 0} → ℕ → ℕ → (List ℕ → List ℕ → Located A) → Reader (List A)
list_of_texts least most reads = list_of least most is_text (text_of reads)

-- A list of tables.
abbrev pub list_of_tables : {A : Type 0} → ℕ → ℕ → (Members → Located A) → Reader (List A)
list_of_tables least most reads = list_of least most is_table (table_of reads)

abbrev pub is_array : Data → Bool
is_array (array _) = true
is_array _ = false

-- The items of a borrowed list, as data.
abbrev pub seen : Result (Bor (List Value)) LocatedReadFault → Result (List Data) LocatedReadFault
seen (Ok values) = Ok (map view values.now)
seen (Err e) = Err e
