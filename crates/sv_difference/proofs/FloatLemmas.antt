-- The JSON of a report has no floats.
use Rattle.std.proofs.Common.{◌≡◌, Bool, false, ◌||◌, ap, ap₂}
use Rattle.serde_json.specs.Written.{has_float}
use Rattle.sv_policy.specs.Covering.{method_names}
use Rattle.sv_audit.specs.declared.access.Access.{Access}
use Rattle.sv_difference.specs.declared.difference.Difference.{Difference}
use Rattle.sv_report.proofs.JsonLemmas.{in_strings, in_text, in_truth, no_floats}
use Rattle.sv_report.specs.JsonParts.{roles_in}
use Rattle.sv_difference.specs.DifferenceJson.{access_value, context_value, difference_value, file_in, login_in, report_value}
use Rattle.sv_difference.specs.DifferenceText.{has_login}
use Rattle.sv_difference.specs.OpenedFirst.{opened_first}
use Rattle.sv_difference.specs.declared.contexts.ContextDifference.{ContextDifference}
use Rattle.sv_difference.specs.declared.contexts.ServerDifference.{ServerDifference}

in_access : (can_log_in : Bool) (access : Access) → has_float (access_value can_log_in access) ≡ false
unfolding access_value
in_access can_log_in access = ap (λ a. a || false) (in_strings (roles_in access))

in_difference : (context : ContextDifference) (difference : Difference) → has_float (difference_value context difference) ≡ false
unfolding difference_value
in_difference context difference =
    ap₂ (λ a b. a || b) (in_access (has_login context.after) difference.becomes)
    (ap₂ (λ a b. a || b) (in_access (has_login context.before) difference.was)
    (ap₂ (λ a b. a || b) (in_strings (method_names difference.methods)) (ap₂ (λ a b. a || (b || false)) (in_text difference.after) (in_text difference.before))))

in_context : (context : ContextDifference) → has_float (context_value context) ≡ false
unfolding context_value
in_context context =
    ap₂ (λ a b. a || b) (no_floats (difference_value context) (in_difference context) context.differences)
    (ap₂ (λ a b. a || b) (in_text (file_in context.after))
    (ap₂ (λ a b. a || b) (in_text (file_in context.before)) (ap₂ (λ a b. a || (b || false)) (in_truth (login_in context.after)) (in_truth (login_in context.before)))))

pub in_report : (report : ServerDifference) → has_float (report_value report) ≡ false
unfolding report_value
in_report report = ap (λ a. a || false) (no_floats context_value in_context (opened_first report.contexts))
