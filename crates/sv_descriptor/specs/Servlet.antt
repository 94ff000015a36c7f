-- Jakarta Servlet 6.0 section 14.4 (servlet, servlet-mapping).
use Rattle.std.specs.Prelude.{ℕ, ℤ, pos, negsuc, int_lt, Bool, ◌||◌, List, [], ◌∷◌, codes, if◌then◌else◌, Ok}
use Rattle.std.specs.Str.{bytes_eq}
use Rattle.toml.specs.Data.{Members}
use Rattle.sv_text.specs.Steps.{◌>>=◌, ◌>>◌}
use Rattle.sv_descriptor.specs.Fault.{Located, refuse}
use Rattle.sv_descriptor.specs.Table.{required, optional, optional_or}
use Rattle.sv_descriptor.specs.Value.{name, text_of, whole_of, table_of}
use Rattle.sv_descriptor.specs.declared.fault.FaultCode.TheVariants.{BadValue}
use Rattle.sv_descriptor.specs.declared.limits.TheConstants.{MAX_LIST_ITEMS}
use Rattle.sv_descriptor.specs.Ignored.{element_keys}
use Rattle.sv_descriptor.specs.InitParam.{init_params}
use Rattle.sv_descriptor.specs.Pattern.{patterns}
use Rattle.sv_descriptor.specs.declared.servlet.ServletEntry.{ServletEntry}
use Rattle.sv_descriptor.specs.declared.servlet.ServletMapping.{ServletMapping}

-- The reserved names: `default` for the file servlet and `*` for every servlet.
unfoldable pub is_reserved_servlet : List ℕ → Bool
is_reserved_servlet text = bytes_eq text (codes "default") || bytes_eq text (codes "*")

abbrev pub servlet_name : List ℕ → List ℕ → Located (List ℕ)
servlet_name key text = if is_reserved_servlet text then refuse BadValue key else name key text

-- A signed whole number of 32 bits.
abbrev pub startup_order : List ℕ → ℤ → Located ℤ
startup_order key number = if int_lt number (negsuc 2147483647) || int_lt (pos 2147483647) number then refuse BadValue key else Ok number

abbrev pub servlet : Members → Located ServletEntry
servlet table = do
  element_keys (codes "servlet-name" ∷ codes "servlet-class" ∷ codes "load-on-startup" ∷ codes "init-param" ∷ []) table
  its_name ← required (text_of servlet_name) (codes "servlet-name") table
  class ← required (text_of name) (codes "servlet-class") table
  order ← optional (whole_of startup_order) (codes "load-on-startup") table
  params ← optional_or [] (table_of init_params) (codes "init-param") table
  Ok (record { servlet_name = its_name; servlet_class = class; load_on_startup = order; init_params = params })

abbrev pub servlet_mapping : Members → Located ServletMapping
servlet_mapping table = do
  element_keys (codes "servlet-name" ∷ codes "url-pattern" ∷ []) table
  its_name ← required (text_of name) (codes "servlet-name") table
  its_patterns ← required (patterns 1 MAX_LIST_ITEMS) (codes "url-pattern") table
  Ok (record { servlet_name = its_name; url_patterns = its_patterns })
