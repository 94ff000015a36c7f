-- Jakarta Servlet 6.0 section 13.6.3 (form based authentication): login-config.
use Rattle.std.specs.Prelude.{ℕ, List, [], ◌∷◌, codes, if◌then◌else◌, Ok}
use Rattle.std.specs.Str.{bytes_eq}
use Rattle.toml.specs.Data.{Members}
use Rattle.sv_text.specs.Steps.{◌>>=◌, ◌>>◌}
use Rattle.sv_descriptor.specs.Fault.{Located, refuse}
use Rattle.sv_descriptor.specs.Table.{required}
use Rattle.sv_descriptor.specs.Value.{text_of, table_of}
use Rattle.sv_descriptor.specs.declared.fault.FaultCode.TheVariants.{BadValue}
use Rattle.sv_descriptor.specs.Ignored.{element_keys}
use Rattle.sv_descriptor.specs.Location.{location}
use Rattle.sv_descriptor.specs.declared.login.FormLogin.{FormLogin}

-- The only authentication method.
abbrev pub auth_method : List ℕ → List ℕ → Located (Unit {0})
auth_method key text = if bytes_eq text (codes "FORM") then Ok tt else refuse BadValue key

abbrev pub form_login_config : Members → Located FormLogin
form_login_config table = do
  element_keys (codes "form-login-page" ∷ codes "form-error-page" ∷ []) table
  login ← required (text_of location) (codes "form-login-page") table
  error ← required (text_of location) (codes "form-error-page") table
  Ok (record { login_page = login; error_page = error })

abbrev pub login_config : Members → Located FormLogin
login_config table = do
  element_keys (codes "auth-method" ∷ codes "form-login-config" ∷ []) table
  required (text_of auth_method) (codes "auth-method") table
  required (table_of form_login_config) (codes "form-login-config") table
