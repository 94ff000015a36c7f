-- Jakarta Servlet 6.0 section 14.4 (security-role): the declared roles.
use Rattle.std.specs.Prelude.{ℕ, Bool, ◌||◌, List, [], ◌∷◌, codes, if◌then◌else◌}
use Rattle.std.specs.Str.{bytes_eq}
use Rattle.toml.specs.Data.{Members}
use Rattle.sv_text.specs.Steps.{◌>>◌}
use Rattle.sv_descriptor.specs.Fault.{Located, refuse}
use Rattle.sv_descriptor.specs.Table.{required}
use Rattle.sv_descriptor.specs.Value.{name, text_of}
use Rattle.sv_descriptor.specs.declared.fault.FaultCode.TheVariants.{ReservedRole}
use Rattle.sv_descriptor.specs.Ignored.{element_keys}

-- The reserved names: `*` for all declared roles and `**` for every authenticated caller (section 13.8).
unfoldable pub is_reserved_role : List ℕ → Bool
is_reserved_role text = bytes_eq text (codes "*") || bytes_eq text (codes "**")

abbrev pub role_name : List ℕ → List ℕ → Located (List ℕ)
role_name key text = if is_reserved_role text then refuse ReservedRole key else name key text

abbrev pub security_role : Members → Located (List ℕ)
security_role table = do
  element_keys (codes "role-name" ∷ []) table
  required (text_of role_name) (codes "role-name") table
