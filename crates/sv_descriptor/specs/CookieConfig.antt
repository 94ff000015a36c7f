-- Jakarta Servlet 6.0 section 7.1.1 and section 14.4 (cookie-config); RFC 6265 section 4.1: the configuration of the
-- session cookie.
use Rattle.std.specs.Prelude.{ℕ, ℤ, pos, negsuc, int_lt, Bool, true, not, ◌&&◌, ◌||◌, ◌==◌, nat_le, nat_eq, List, [], ◌∷◌, codes, if◌then◌else◌, Option, None, Some, Ok}
use Rattle.std.specs.List.{list_all, starts_with}
use Rattle.std.specs.Str.{byte}
use Rattle.http_header.specs.Token.{is_token_byte}
use Rattle.toml.specs.Data.{Members}
use Rattle.sv_text.specs.Steps.{◌>>=◌, ◌>>◌}
use Rattle.sv_descriptor.specs.Fault.{Located, refuse}
use Rattle.sv_descriptor.specs.Table.{optional, optional_or}
use Rattle.sv_descriptor.specs.Value.{is_within, text_of, truth, whole_of}
use Rattle.sv_descriptor.specs.declared.fault.FaultCode.TheVariants.{BadValue}
use Rattle.sv_descriptor.specs.declared.limits.TheConstants.{MAX_NAME_BYTES}
use Rattle.sv_message.specs.Cookies.{standard_settings}
use Rattle.sv_message.specs.declared.cookie_settings.CookieSettings.{CookieSettings}
use Rattle.sv_descriptor.specs.Ignored.{element_keys}
use Rattle.sv_descriptor.specs.declared.limits.TheConstants.{MAX_COOKIE_AGE, MAX_COOKIE_PATH_BYTES}

-- A token.
unfoldable pub is_cookie_name : List ℕ → Bool
is_cookie_name text = is_within 1 MAX_NAME_BYTES text && list_all is_token_byte text

-- Printable ASCII bytes, except the one that ends an attribute.
abbrev pub is_path_byte : ℕ → Bool
is_path_byte b = nat_le 32 b && nat_le b 126 && not (b == byte ";")

unfoldable pub is_cookie_path : List ℕ → Bool
is_cookie_path text = is_within 1 MAX_COOKIE_PATH_BYTES text && starts_with nat_eq text (codes "/") && list_all is_path_byte text

abbrev pub cookie_name : List ℕ → List ℕ → Located (List ℕ)
cookie_name key text = if is_cookie_name text then Ok text else refuse BadValue key

abbrev pub cookie_path : List ℕ → List ℕ → Located (List ℕ)
cookie_path key text = if is_cookie_path text then Ok text else refuse BadValue key

-- The lifetime of a cookie. With -1, it has none and lasts until the client ends.
abbrev pub age_of : ℤ → Option ℕ
age_of (pos n) = Some n
age_of (negsuc n) = None

abbrev pub max_age : List ℕ → ℤ → Located (Option ℕ)
max_age key number =
    if int_lt number (negsuc 0) || int_lt (pos MAX_COOKIE_AGE) number then refuse BadValue key else Ok (age_of number)

-- Missing keys have their default values.
abbrev pub cookie_config : Members → Located CookieSettings
cookie_config table = do
  element_keys (codes "name" ∷ codes "path" ∷ codes "http-only" ∷ codes "max-age" ∷ []) table
  its_name ← optional_or standard_settings.name (text_of cookie_name) (codes "name") table
  its_path ← optional (text_of cookie_path) (codes "path") table
  its_http_only ← optional_or true truth (codes "http-only") table
  its_max_age ← optional_or None (whole_of max_age) (codes "max-age") table
  Ok (record { name = its_name; path = its_path; http_only = its_http_only; max_age = its_max_age })
