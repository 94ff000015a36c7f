-- The explanation of a request, by its method, target and user: RFC 9110 section 5.6.2 (tokens); Jakarta Servlet 6.0
-- sections 3.5, 10.5, 12.1 and 13.8.
use Rattle.std.specs.Prelude.{ℕ, Bool, ◌&&◌, not, List, [], Option, Some, None, Result, Ok, Err, if◌then◌else◌}
use Rattle.std.specs.List.{list_all}
use Rattle.std.specs.Option.{option_map}
use Rattle.std.specs.Str.{bytes_eq}
use Rattle.http_header.specs.Token.{is_token_byte}
use Rattle.sv_uri.specs.Canonical.{canonical}
use Rattle.sv_uri.specs.declared.fault.PathFault.{PathFault}
use Rattle.sv_uri.specs.declared.path.Canon.{Canon}
use Rattle.sv_realm.specs.Realm.{caller_named}
use Rattle.sv_realm.specs.declared.caller.Caller.{Caller}
use Rattle.sv_realm.specs.declared.account.User.{User}
use Rattle.sv_constraints.specs.Verdict.{verdict}
use Rattle.sv_policy.specs.Context.{context_of}
use Rattle.sv_mapping.specs.Within.{path_within}
use Rattle.sv_mapping.specs.Protected.{is_protected}
use Rattle.sv_policy.specs.declared.explained_context.ContextPolicy.{ContextPolicy}
use Rattle.sv_policy.specs.declared.explanation.Explanation.{Explanation}
use Rattle.sv_policy.specs.declared.explanation.Explanation.TheVariants.{Refused, Hidden, Decided}
use Rattle.sv_policy.specs.declared.explanation.HiddenCause.TheVariants.{NoContext, Protected}
use Rattle.sv_policy.specs.declared.explain_fault.ExplainFault.{ExplainFault}
use Rattle.sv_policy.specs.declared.explain_fault.ExplainFault.TheVariants.{BadMethod, NoSuchUser}

abbrev pub Answer : Type 0
Answer = Result Explanation ExplainFault

-- A token of any length.
abbrev pub is_token : List ℕ → Bool
is_token text = not (bytes_eq text []) && list_all is_token_byte text

-- The caller with the name of the user, or no caller if no user is named.
abbrev pub caller_as : List User → Option (List ℕ) → Option (Option Caller)
caller_as users None = Some None
caller_as users (Some name) = option_map Some (caller_named users name)

-- The verdict of the current constraints of the context.
abbrev pub decided : ContextPolicy → List ℕ → List ℕ → Option Caller → Explanation
decided context method path caller =
    Decided context.path path (verdict context.policy.constraints context.policy.rules method path caller)

-- The explanation for a path within the context and a caller, if the context has the user.
abbrev pub explanation_for : ContextPolicy → List ℕ → List ℕ → Option (Option Caller) → Answer
explanation_for context method path None = Err NoSuchUser
explanation_for context method path (Some caller) = Ok (if is_protected path then Hidden Protected else decided context method path caller)

-- The explanation for a path that the context serves.
abbrev pub explanation_within : ContextPolicy → List ℕ → List ℕ → Option (List ℕ) → Answer
explanation_within context method path user =
    explanation_for context method (path_within context.path path) (caller_as context.realm user)

-- The explanation for a canonical path and its context, if any.
abbrev pub explanation_in : Option ContextPolicy → List ℕ → List ℕ → Option (List ℕ) → Answer
explanation_in None method path user = Ok (Hidden NoContext)
explanation_in (Some context) method path user = explanation_within context method path user

-- The explanation for the canonical path of a target, if it has one.
abbrev pub explanation_at : List ContextPolicy → List ℕ → Result Canon PathFault → Option (List ℕ) → Answer
explanation_at contexts method (Err fault) user = Ok (Refused fault)
explanation_at contexts method (Ok canon) user = explanation_in (context_of contexts canon.path) method canon.path user

-- The explanation for a target.
abbrev pub explanation : List ContextPolicy → List ℕ → List ℕ → Option (List ℕ) → Answer
explanation contexts method target user =
    if is_token method then explanation_at contexts method (canonical target) user else Err BadMethod
