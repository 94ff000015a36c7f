-- Jakarta Servlet 6.0 section 14.4 (session-config), section 7.1.1 (session cookies) and section 7.5 (session
-- timeouts).
use Rattle.std.specs.Prelude.{ℕ, ℤ, pos, negsuc, int_lt, List, [], ◌∷◌, codes, if◌then◌else◌, Ok}
use Rattle.toml.specs.Data.{Members}
use Rattle.sv_text.specs.Steps.{◌>>=◌, ◌>>◌}
use Rattle.sv_descriptor.specs.Fault.{Located, refuse}
use Rattle.sv_descriptor.specs.Table.{optional_or}
use Rattle.sv_descriptor.specs.Value.{table_of, whole_of}
use Rattle.sv_descriptor.specs.declared.fault.FaultCode.TheVariants.{BadTimeout}
use Rattle.sv_message.specs.Cookies.{standard_settings}
use Rattle.sv_descriptor.specs.CookieConfig.{cookie_config}
use Rattle.sv_descriptor.specs.Ignored.{element_keys}
use Rattle.sv_descriptor.specs.declared.limits.TheConstants.{DEFAULT_SESSION_TIMEOUT, MAX_SESSION_TIMEOUT}
use Rattle.sv_descriptor.specs.declared.session.SessionConfig.{SessionConfig}
use Rattle.sv_descriptor.specs.declared.version.Version.{Version}
use Rattle.sv_descriptor.specs.declared.version.Version.TheVariants.{One, Two}

-- The timeout in minutes. Sessions that never expire, written as 0 or less, have 0 minutes.
abbrev pub minutes : ℤ → ℕ
minutes (pos n) = n
minutes (negsuc n) = 0

abbrev pub session_timeout : List ℕ → ℤ → Located ℕ
session_timeout key number = if int_lt (pos MAX_SESSION_TIMEOUT) number then refuse BadTimeout key else Ok (minutes number)

-- Version 1 has no cookie configuration.
abbrev pub session_keys : Version → List (List ℕ)
session_keys One = codes "session-timeout" ∷ []
session_keys Two = codes "session-timeout" ∷ codes "cookie-config" ∷ []

abbrev pub session_config : Version → Members → Located SessionConfig
session_config its_version table = do
  element_keys (session_keys its_version) table
  its_timeout ← optional_or DEFAULT_SESSION_TIMEOUT (whole_of session_timeout) (codes "session-timeout") table
  its_cookie ← optional_or standard_settings (table_of cookie_config) (codes "cookie-config") table
  Ok (record { timeout = its_timeout; cookie = its_cookie })

abbrev pub default_session : SessionConfig
default_session = record { timeout = DEFAULT_SESSION_TIMEOUT; cookie = standard_settings }

-- The session configuration of a table.
abbrev pub session : Version → Members → Located SessionConfig
session its_version = optional_or default_session (table_of (session_config its_version)) (codes "session-config")
