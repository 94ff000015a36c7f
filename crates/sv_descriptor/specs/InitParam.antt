-- Jakarta Servlet 6.0 section 14.4 (init-param): names and values for a component, in the order of the names' bytes.
use Rattle.std.specs.Prelude.{List, [], ◌∷◌, Ok}
use Rattle.toml.specs.Data.{Members, no_members, member}
use Rattle.sv_text.specs.Steps.{◌>>=◌}
use Rattle.sv_descriptor.specs.Fault.{Located, within}
use Rattle.sv_descriptor.specs.Value.{text_of, any_text}
use Rattle.sv_descriptor.specs.declared.fault.ValueStep.TheVariants.{Key}
use Rattle.sv_descriptor.specs.declared.init_param.InitParam.{InitParam}

abbrev pub init_params : Members → Located (List InitParam)
init_params no_members = Ok []
init_params (member name it rest) = do
  value ← within (Key name) (text_of any_text name it)
  others ← init_params rest
  Ok (record { name = name; value = value } ∷ others)
