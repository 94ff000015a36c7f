-- Header fields that restrict a page in browsers (Content Security Policy Level 3, section 3.1; Fetch, section 3.6).
use Rattle.std.specs.Prelude.{◌≡◌, List, [], ◌∷◌, codes}
use Rattle.sv_component.specs.declared.answers.Gate.TheVariants.{Pass}
use Rattle.sv_component.specs.Call.{Call, Entered}
use Rattle.sv_exchange.specs.Changing.{Change, SetHeader, after_all}
use Rattle.guestbook_components.specs.declared.shield.TheConstants.{POLICY}

abbrev pub security_fields : List Change
security_fields =
    SetHeader (codes "content-security-policy") POLICY.now
    ∷ SetHeader (codes "x-content-type-options") (codes "nosniff")
    ∷ SetHeader (codes "referrer-policy") (codes "same-origin")
    ∷ SetHeader (codes "cache-control") (codes "no-store")
    ∷ []

-- exchanges that the filter passes have all of them
abbrev pub Shields : Call → Type 0
Shields (Entered asked Pass answered) = answered ≡ after_all security_fields asked
Shields call = Unit {0}
