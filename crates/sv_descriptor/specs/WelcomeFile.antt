-- Jakarta Servlet 6.0 section 10.10: the names of welcome files.
use Rattle.std.specs.Prelude.{ℕ, Bool, ◌||◌, nat_eq, List, [], ◌∷◌, codes, if◌then◌else◌, Ok}
use Rattle.std.specs.List.{starts_with, ends_with}
use Rattle.std.specs.Str.{bytes_eq}
use Rattle.toml.specs.Data.{Members}
use Rattle.sv_text.specs.Steps.{◌>>◌}
use Rattle.sv_descriptor.specs.Fault.{Located, refuse}
use Rattle.sv_descriptor.specs.ListOf.{list_of_texts}
use Rattle.sv_descriptor.specs.Table.{required}
use Rattle.sv_descriptor.specs.declared.fault.FaultCode.TheVariants.{BadValue}
use Rattle.sv_descriptor.specs.declared.limits.TheConstants.{MAX_LIST_ITEMS}
use Rattle.sv_descriptor.specs.Ignored.{element_keys}

-- A partial path has no slash at either end, and is not empty.
unfoldable pub is_no_partial_path : List ℕ → Bool
is_no_partial_path text = bytes_eq text [] || (starts_with nat_eq text (codes "/") || ends_with nat_eq text (codes "/"))

abbrev pub welcome_file : List ℕ → List ℕ → Located (List ℕ)
welcome_file key text = if is_no_partial_path text then refuse BadValue key else Ok text

abbrev pub welcome_file_list : Members → Located (List (List ℕ))
welcome_file_list table = do
  element_keys (codes "welcome-file" ∷ []) table
  required (list_of_texts 0 MAX_LIST_ITEMS welcome_file) (codes "welcome-file") table
