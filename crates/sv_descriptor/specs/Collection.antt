-- Jakarta Servlet 6.0 section 13.8 (web-resource-collection): patterns and methods.
use Rattle.std.specs.Prelude.{ℕ, ◌+◌, ◌-◌, Bool, not, ◌&&◌, List, [], ◌∷◌, length, codes, if◌then◌else◌, Option, Some, None, is_some, Ok}
use Rattle.std.specs.List.{list_all}
use Rattle.http_header.specs.Token.{is_token_byte}
use Rattle.toml.specs.Data.{Data, Members}
use Rattle.sv_constraints.specs.declared.constraint.Collection.{Collection}
use Rattle.sv_constraints.specs.declared.constraint.Methods.{Methods}
use Rattle.sv_constraints.specs.declared.constraint.Methods.TheVariants.{All, Only, Except}
use Rattle.sv_text.specs.Steps.{◌>>=◌, ◌>>◌}
use Rattle.sv_descriptor.specs.Fault.{Located, refuse, check, within}
use Rattle.sv_descriptor.specs.ListOf.{list_items, list_of_texts}
use Rattle.sv_descriptor.specs.Table.{required, optional}
use Rattle.sv_descriptor.specs.Value.{Reader, is_within, is_text, is_table, text_of, table_of}
use Rattle.sv_descriptor.specs.declared.fault.FaultCode.TheVariants.{BothMethodLists, BadValue}
use Rattle.sv_descriptor.specs.declared.fault.ValueStep.TheVariants.{Item}
use Rattle.sv_descriptor.specs.declared.limits.TheConstants.{MAX_LIST_ITEMS}
use Rattle.sv_descriptor.specs.Ignored.{element_keys, ignored_text}
use Rattle.sv_descriptor.specs.Pattern.{patterns}
use Rattle.sv_constraints.specs.declared.constraint.TheConstants.{MAX_METHOD_BYTES, MAX_PATTERNS_OF_CONSTRAINT}

-- A token (RFC 9110 section 5.6.2).
unfoldable pub is_method_name : List ℕ → Bool
is_method_name text = is_within 1 MAX_METHOD_BYTES text && list_all is_token_byte text

abbrev pub method : List ℕ → List ℕ → Located (List ℕ)
method key text = if is_method_name text then Ok text else refuse BadValue key

abbrev pub methods : Reader (List (List ℕ))
methods = list_of_texts 1 MAX_LIST_ITEMS method

-- A list of omitted methods, which excludes a list of methods.
abbrev pub omitted_methods : Bool → Reader (List (List ℕ))
omitted_methods beside key value = do
  list_items 0 MAX_LIST_ITEMS is_text key value
  check (not beside) BothMethodLists key
  methods key value

abbrev pub covered_methods : Option (List (List ℕ)) → Option (List (List ℕ)) → Methods
covered_methods (Some listed) omitted = Only listed
covered_methods None (Some omitted) = Except omitted
covered_methods None None = All

-- The methods of a collection.
abbrev pub methods_of : Members → Located Methods
methods_of table = do
  listed ← optional methods (codes "http-method") table
  omitted ← optional (omitted_methods (is_some listed)) (codes "http-method-omission") table
  Ok (covered_methods listed omitted)

-- A collection with at most `room` patterns.
abbrev pub collection : ℕ → Members → Located Collection
collection room table = do
  element_keys (codes "web-resource-name" ∷ codes "url-pattern" ∷ codes "http-method" ∷ codes "http-method-omission" ∷ []) table
  optional (text_of ignored_text) (codes "web-resource-name") table
  its_patterns ← required (patterns 1 room) (codes "url-pattern") table
  its_methods ← methods_of table
  Ok (record { patterns = its_patterns; methods = its_methods })

-- The table of a collection with at most `room` patterns.
unfoldable pub collection_table : ℕ → Reader Collection
collection_table room = table_of (collection room)

-- Collections from number `i` on, with at most `room` patterns in all.
abbrev pub collections_within : ℕ → ℕ → List ℕ → List Data → Located (List Collection)
collections_within i room key [] = Ok []
collections_within i room key (value ∷ rest) = do
  its_first ← within (Item i) (collection_table room key value)
  others ← collections_within (i + 1) (room - length its_first.patterns) key rest
  Ok (its_first ∷ others)

abbrev pub collections : Reader (List Collection)
collections key value = list_items 1 MAX_LIST_ITEMS is_table key value >>= collections_within 0 MAX_PATTERNS_OF_CONSTRAINT key
