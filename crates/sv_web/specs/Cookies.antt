-- Cookies that a servlet sets (RFC 6265, section 4.1; Jakarta Servlet 6.0, section 5.2).
use Rattle.std.specs.Prelude.{ℕ, Bool, true, false, ◌&&◌, ◌||◌, not, ◌==◌, nat_le, nat_eq, List, [], ◌∷◌, ◌++◌, length, codes, Option, None, Some, Result, Err}
use Rattle.std.specs.List.{list_all, starts_with}
use Rattle.std.specs.Option.{option_copied}
use Rattle.std.specs.Str.{byte}
use Rattle.http_header.specs.Token.{is_token_byte}
use Rattle.sv_exchange.specs.Changing.{AddHeader, after_all, answer}
use Rattle.sv_exchange.specs.State.{State}
use Rattle.sv_message.specs.Cookies.{http_only_attribute, max_age_attribute, path_attribute}
use Rattle.sv_web.specs.Answering.{told}
use Rattle.sv_web.specs.declared.cookies.NewCookie.{NewCookie}
use Rattle.sv_web.specs.declared.cookies.SameSite.{SameSite}
use Rattle.sv_web.specs.declared.cookies.SameSite.TheVariants.{Strict, Lax, Everywhere}
use Rattle.sv_web.specs.declared.fault.Fault.{Fault}
use Rattle.sv_web.specs.declared.fault.Fault.TheVariants.{BadCookie}

-- a name is a nonempty token
abbrev pub has_name : List ℕ → Bool
has_name name = not (length name == 0) && list_all is_token_byte name

-- the bytes of a value: visible ASCII except the quote, the comma, the semicolon and the backslash
abbrev pub is_octet : ℕ → Bool
is_octet b =
    b == 0x21 || (nat_le 0x23 b && nat_le b 0x2b) || (nat_le 0x2d b && nat_le b 0x3a)
    || (nat_le 0x3c b && nat_le b 0x5b) || (nat_le 0x5d b && nat_le b 0x7e)

-- the bytes of a path: no control, and no semicolon
abbrev pub is_path_byte : ℕ → Bool
is_path_byte b = nat_le 0x20 b && nat_le b 0x7e && not (b == byte ";")

abbrev pub is_path : List ℕ → Bool
is_path path = starts_with nat_eq path (codes "/") && list_all is_path_byte path

abbrev pub has_path : Option (List ℕ) → Bool
has_path None = true
has_path (Some path) = is_path path

-- whether a cookie follows the grammar
abbrev pub is_cookie : NewCookie → Bool
is_cookie cookie = has_name cookie.name.now && list_all is_octet cookie.value.now && has_path (option_copied cookie.path)

-- the attributes, if there are any
abbrev pub path_part : Option (List ℕ) → List ℕ
path_part None = []
path_part (Some path) = path_attribute path

abbrev pub secure_attribute : Bool → List ℕ
secure_attribute true = codes "; Secure"
secure_attribute false = []

abbrev pub same_site_attribute : Option SameSite → List ℕ
same_site_attribute None = []
same_site_attribute (Some Strict) = codes "; SameSite=Strict"
same_site_attribute (Some Lax) = codes "; SameSite=Lax"
same_site_attribute (Some Everywhere) = codes "; SameSite=None"

-- the text that sets the cookie: the pair, then its attributes
abbrev pub cookie_text : NewCookie → List ℕ
cookie_text cookie =
    (cookie.name.now ++ codes "=" ++ cookie.value.now) ++ path_part (option_copied cookie.path) ++ max_age_attribute cookie.max_age
    ++ http_only_attribute cookie.http_only ++ secure_attribute cookie.secure ++ same_site_attribute cookie.same_site

-- one more header field
abbrev pub with_cookie : NewCookie → State → State
with_cookie cookie before = after_all (AddHeader (codes "set-cookie") (cookie_text cookie) ∷ []) before

-- the result of adding the field, or a fault if the cookie is invalid
abbrev pub cookie_answer : Bool → NewCookie → State → Result Bool Fault
cookie_answer true cookie before = told (answer (AddHeader (codes "set-cookie") (cookie_text cookie)) before)
cookie_answer false cookie before = Err BadCookie
