-- Session cookies of a response (RFC 6265, section 4.1; Jakarta Servlet 6.0, section 7.1.1).
use Rattle.std.specs.Prelude.{ℕ, Bool, true, false, List, [], ◌++◌, codes, decimal, Option, Some, None}
use Rattle.sv_message.specs.declared.cookie_settings.CookieSettings.{CookieSettings}
use Rattle.sv_message.specs.declared.response.Cookie.{Cookie}

-- The settings for a descriptor without a cookie configuration.
abbrev pub standard_settings : CookieSettings
standard_settings = record { name = codes "JSESSIONID"; path = None; http_only = true; max_age = None }

-- The cookie's name and the session's id.
abbrev pub cookie_pair : Cookie → List ℕ
cookie_pair cookie = cookie.name ++ codes "=" ++ cookie.id

-- The path under which the client sends the cookie back.
abbrev pub path_attribute : List ℕ → List ℕ
path_attribute path = codes "; Path=" ++ path

-- The lifetime of the cookie in seconds, if it has one.
abbrev pub max_age_attribute : Option ℕ → List ℕ
max_age_attribute None = []
max_age_attribute (Some seconds) = codes "; Max-Age=" ++ decimal seconds

-- The attribute that hides the cookie from scripts, if it is set.
abbrev pub http_only_attribute : Bool → List ℕ
http_only_attribute true = codes "; HttpOnly"
http_only_attribute false = []

-- The text that sets the cookie: the pair, and then its attributes.
abbrev pub cookie_text : Cookie → List ℕ
cookie_text cookie =
    cookie_pair cookie ++ path_attribute cookie.path ++ max_age_attribute cookie.max_age ++ http_only_attribute cookie.http_only
