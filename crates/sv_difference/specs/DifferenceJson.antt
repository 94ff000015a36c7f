-- What two servers decide differently as JSON (RFC 8259).
use Rattle.std.specs.Prelude.{ℕ, Bool, List, ◌++◌, codes, map, Option}
use Rattle.std.specs.Option.{option_map}
use Rattle.serde_json.specs.Data.{Data, Members, boolean, string, array, object, member, no_members, put as with_member}
use Rattle.serde_json.specs.View.{items_of}
use Rattle.serde_json.specs.Written.{compact_text}
use Rattle.sv_policy.specs.Covering.{method_names}
use Rattle.sv_uri.specs.ContextPath.{shown_context}
use Rattle.sv_audit.specs.declared.access.Access.{Access}
use Rattle.sv_difference.specs.declared.difference.Difference.{Difference}
use Rattle.sv_report.specs.JsonParts.{are_excepted, enters, roles_in, strings, text_value, truth_value}
use Rattle.sv_difference.specs.DifferenceText.{example_of, has_login, kind_word}
use Rattle.sv_difference.specs.OpenedFirst.{opened_first}
use Rattle.sv_difference.specs.declared.contexts.ContextDifference.{ContextDifference}
use Rattle.sv_difference.specs.declared.contexts.ContextSide.{ContextSide}
use Rattle.sv_difference.specs.declared.contexts.ServerDifference.{ServerDifference}

-- Who enters.
unfoldable pub access_value : Bool → Access → Data
access_value can_log_in access = object (member (codes "enters") (string (enters can_log_in access)) (member (codes "roles") (strings (roles_in access)) no_members))

-- The members, with the requests of a difference.
abbrev pub with_requests : List ℕ → Difference → Members → Members
with_requests context difference members =
    with_member (codes "patternBefore") (text_value difference.before)
    (with_member (codes "patternAfter") (text_value difference.after)
    (with_member (codes "others") (boolean (are_excepted difference.methods))
    (with_member (codes "methods") (strings (method_names difference.methods))
    (with_member (codes "kind") (string (kind_word difference.kind)) (with_member (codes "example") (string (example_of context difference)) members)))))

unfoldable pub difference_value : ContextDifference → Difference → Data
difference_value context difference = object
    (with_requests context.path difference
    (member (codes "after") (access_value (has_login context.after) difference.becomes)
    (member (codes "before") (access_value (has_login context.before) difference.was) no_members)))

abbrev pub file_in : Option ContextSide → Option (List ℕ)
file_in side = option_map (λ (it : ContextSide). it.file) side

abbrev pub login_in : Option ContextSide → Option Bool
login_in side = option_map (λ (it : ContextSide). it.has_login) side

abbrev pub differences_value : ContextDifference → Data
differences_value context = array (items_of (map (difference_value context) context.differences))

unfoldable pub context_value : ContextDifference → Data
context_value context = object
    (member (codes "context") (string (shown_context context.path))
    (member (codes "differences") (differences_value context)
    (member (codes "fileAfter") (text_value (file_in context.after))
    (member (codes "fileBefore") (text_value (file_in context.before))
    (member (codes "loginAfter") (truth_value (login_in context.after))
    (member (codes "loginBefore") (truth_value (login_in context.before)) no_members))))))

-- Contexts in which something may have been opened come first.
unfoldable pub report_value : ServerDifference → Data
report_value report = object (member (codes "contexts") (array (items_of (map context_value (opened_first report.contexts)))) no_members)

-- The value on one line.
abbrev pub difference_json : ServerDifference → List ℕ
difference_json report = compact_text (report_value report) ++ codes "\n"
