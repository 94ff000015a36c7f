-- Redirects (Jakarta Servlet 6.0, section 5.3; RFC 9110, sections 10.2.2 and 15.4; RFC 3986, sections 2 and 4.2).
use Rattle.std.specs.Prelude.{ℕ, Bool, true, false, ◌&&◌, ◌||◌, not, ◌==◌, List, [], ◌∷◌, codes, nat_eq, Result, Err}
use Rattle.std.specs.Char.{is_ascii_alphanumeric}
use Rattle.std.specs.List.{list_all, list_any, starts_with}
use Rattle.sv_exchange.specs.Changing.{SetHeader, SetStatus, after_all, answer}
use Rattle.sv_exchange.specs.State.{State}
use Rattle.sv_web.specs.Answering.{told}
use Rattle.sv_web.specs.declared.fault.Fault.{Fault}
use Rattle.sv_web.specs.declared.fault.Fault.TheVariants.{BadLocation}
use Rattle.sv_web.specs.declared.redirects.RedirectKind.{RedirectKind}
use Rattle.sv_web.specs.declared.redirects.RedirectKind.TheVariants.{MovedPermanently, Found, SeeOther, Temporary, Permanent}

-- the status code
abbrev pub status_of : RedirectKind → ℕ
status_of MovedPermanently = 301
status_of Found = 302
status_of SeeOther = 303
status_of Temporary = 307
status_of Permanent = 308

-- the bytes of a URI: letters, digits, marks, and the `%` that begins an escape
abbrev pub is_location_byte : ℕ → Bool
is_location_byte b = is_ascii_alphanumeric b || list_any (λ mark. mark == b) (codes "-._~:/?#[]@!$&'()*+,;=%")

-- a location of this site: a path begins with one slash, and two slashes begin the name of another site
abbrev pub is_own_location : List ℕ → Bool
is_own_location location =
    starts_with nat_eq location (codes "/") && not (starts_with nat_eq location (codes "//")) && list_all is_location_byte location

-- a location of any site
abbrev pub is_location : List ℕ → Bool
is_location location =
    is_own_location location
    || ((starts_with nat_eq location (codes "http://") || starts_with nat_eq location (codes "https://")) && list_all is_location_byte location)

-- the status is set, then the location
abbrev pub redirected : RedirectKind → List ℕ → State → State
redirected kind location before = after_all (SetStatus (status_of kind) ∷ SetHeader (codes "location") location ∷ []) before

-- the result of setting the location after the status, or a fault if the text is not a location
abbrev pub redirect_answer : Bool → RedirectKind → List ℕ → State → Result Bool Fault
redirect_answer true kind location before =
    told (answer (SetHeader (codes "location") location) (after_all (SetStatus (status_of kind) ∷ []) before))
redirect_answer false kind location before = Err BadLocation
