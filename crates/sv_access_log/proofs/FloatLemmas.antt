-- The JSON of a line has no floats.
use Rattle.std.proofs.Common.{◌≡◌, ℕ, Bool, false, ◌||◌, List, Option, None, Some, refl, ap₂, option_map}
use Rattle.serde_json.specs.Written.{has_float}
use Rattle.sv_access_log.specs.Combined.{agent_of, referer_of}
use Rattle.sv_access_log.specs.Json.{bytes_value, line_value, method_of, target_of, text_value, version_of}
use Rattle.sv_access_log.specs.declared.circumstances.Circumstances.{Circumstances}
use Rattle.sv_run.specs.declared.access.Access.{Access}
use Rattle.sv_uri.specs.ContextPath.{shown_context}

in_text : (text : Option (List ℕ)) → has_float (text_value text) ≡ false
in_text None = refl
in_text (Some text) = refl

in_bytes : (bytes : Option (List ℕ)) → has_float (bytes_value bytes) ≡ false
in_bytes None = refl
in_bytes (Some bytes) = refl

or_either : {a b : Bool} → a ≡ false → b ≡ false → (a || b) ≡ false
or_either {a} {b} first second = ap₂ (λ x y. x || y) first second

pub in_line : (access : Access) (around : Circumstances) → has_float (line_value access around) ≡ false
unfolding line_value
in_line access around =
    or_either (in_text around.address)
    (or_either (in_bytes (agent_of access.request))
    (or_either (in_text (option_map shown_context around.context))
    (or_either (in_bytes (method_of access.request))
    (or_either (in_text around.outcome)
    (or_either (in_bytes (referer_of access.request))
    (or_either (in_bytes (target_of access.request)) (or_either (in_text around.user) (or_either (in_text (version_of access.request)) refl))))))))
