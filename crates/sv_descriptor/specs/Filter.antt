-- Jakarta Servlet 6.0 section 14.4 (filter, filter-mapping) and section 6.2.5 (dispatchers).
use Rattle.std.specs.Prelude.{ℕ, ◌||◌, List, [], ◌∷◌, codes, if◌then◌else◌, Ok}
use Rattle.std.specs.Str.{bytes_eq}
use Rattle.toml.specs.Data.{Members}
use Rattle.sv_text.specs.Steps.{◌>>=◌, ◌>>◌}
use Rattle.sv_descriptor.specs.Fault.{Located, refuse, check}
use Rattle.sv_descriptor.specs.ListOf.{list_of_texts}
use Rattle.sv_descriptor.specs.Table.{has_key, required, optional_or}
use Rattle.sv_descriptor.specs.Value.{name, text_of, table_of}
use Rattle.sv_descriptor.specs.declared.fault.FaultCode.TheVariants.{MissingKey, BadValue}
use Rattle.sv_descriptor.specs.declared.limits.TheConstants.{MAX_LIST_ITEMS}
use Rattle.sv_descriptor.specs.Ignored.{element_keys}
use Rattle.sv_descriptor.specs.InitParam.{init_params}
use Rattle.sv_descriptor.specs.Pattern.{patterns}
use Rattle.sv_descriptor.specs.declared.filter.FilterEntry.{FilterEntry}
use Rattle.sv_descriptor.specs.declared.filter.FilterMapping.{FilterMapping}
use Rattle.sv_mapping.specs.declared.kind.Kind.{Kind}
use Rattle.sv_mapping.specs.declared.kind.Kind.TheVariants.{Request, Forward, Include, Error}

abbrev pub filter_entry : Members → Located FilterEntry
filter_entry table = do
  element_keys (codes "filter-name" ∷ codes "filter-class" ∷ codes "init-param" ∷ []) table
  its_name ← required (text_of name) (codes "filter-name") table
  class ← required (text_of name) (codes "filter-class") table
  params ← optional_or [] (table_of init_params) (codes "init-param") table
  Ok (record { filter_name = its_name; filter_class = class; init_params = params })

abbrev pub dispatcher : List ℕ → List ℕ → Located Kind
dispatcher key text =
    if bytes_eq text (codes "REQUEST") then Ok Request
    else if bytes_eq text (codes "FORWARD") then Ok Forward
    else if bytes_eq text (codes "INCLUDE") then Ok Include
    else if bytes_eq text (codes "ERROR") then Ok Error
    else refuse BadValue key

-- The mapping of the filter of this name.
abbrev pub filter_mapping_of : List ℕ → Members → Located FilterMapping
filter_mapping_of its_name table = do
  its_patterns ← optional_or [] (patterns 0 MAX_LIST_ITEMS) (codes "url-pattern") table
  servlets ← optional_or [] (list_of_texts 0 MAX_LIST_ITEMS name) (codes "servlet-name") table
  kinds ← optional_or [] (list_of_texts 0 MAX_LIST_ITEMS dispatcher) (codes "dispatcher") table
  Ok (record { filter_name = its_name; url_patterns = its_patterns; servlet_names = servlets; dispatchers = kinds })

abbrev pub filter_mapping : Members → Located FilterMapping
filter_mapping table = do
  element_keys (codes "filter-name" ∷ codes "url-pattern" ∷ codes "servlet-name" ∷ codes "dispatcher" ∷ []) table
  its_name ← required (text_of name) (codes "filter-name") table
  check (has_key (codes "url-pattern") table || has_key (codes "servlet-name") table) MissingKey (codes "url-pattern")
  filter_mapping_of its_name table
