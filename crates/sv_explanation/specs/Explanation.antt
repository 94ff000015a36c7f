-- The explanation of a request, by its method and target (RFC 9112, sections 3 and 3.2; Jakarta Servlet 6.0, sections
-- 3.5 and 12.1).
use Rattle.std.specs.Prelude.{ℕ, Bool, ◌&&◌, ◌==◌, not, List, length, map, option_and_then, position, slice_get, Option, None, Some, Result, Ok, Err, if◌then◌else◌}
use Rattle.std.specs.List.{list_all}
use Rattle.httparse.specs.Grammar.{is_uri_byte}
use Rattle.sv_mapping.specs.Chosen.{is_chosen}
use Rattle.sv_mapping.specs.Within.{path_within}
use Rattle.sv_message.specs.TargetForm.{path_of, target_form}
use Rattle.sv_message.specs.declared.target.TargetForm.{TargetForm}
use Rattle.sv_message.specs.declared.target.TargetForm.TheVariants.{Origin, Absolute, Star, Unknown}
use Rattle.sv_policy.specs.Explanation.{is_token}
use Rattle.sv_policy.specs.declared.explain_fault.ExplainFault.{ExplainFault}
use Rattle.sv_policy.specs.declared.explain_fault.ExplainFault.TheVariants.{BadMethod}
use Rattle.sv_uri.specs.Canonical.{canonical}
use Rattle.sv_uri.specs.declared.fault.PathFault.{PathFault}
use Rattle.sv_uri.specs.declared.path.Canon.{Canon}
use Rattle.sv_wire.specs.declared.wire_fault.WireFault.TheVariants.{BadHead, BadTarget, HeadTooLarge}
use Rattle.sv_explanation.specs.Heads.{is_too_long}
use Rattle.sv_explanation.specs.Treatment.{treatment}
use Rattle.sv_explanation.specs.declared.explanation.Explanation.{Explanation}
use Rattle.sv_explanation.specs.declared.explanation.Explanation.TheVariants.{Unread, OfServer, BadPath, NoContext, InContext}
use Rattle.sv_explanation.specs.declared.explanation.ServedRequest.{ServedRequest}
use Rattle.sv_explanation.specs.declared.site_context.SiteContext.{SiteContext}

-- The place of the first context with the longest path that serves a path.
abbrev pub context_place : List SiteContext → List ℕ → Option ℕ
context_place contexts path = position (λ context. is_chosen (map (λ other. other.path) contexts) path context.path) contexts

-- The path within a context, with the query of the target.
abbrev pub within : SiteContext → Canon → Canon
within context canon = record { path = path_within context.path canon.path; query = canon.query }

-- The explanation of a request with this canonical path in the context that serves it.
abbrev pub served : List ℕ → Canon → SiteContext → ServedRequest
served method canon context = record {
  canonical = canon.path;
  context = context.path;
  file = context.file;
  path = path_within context.path canon.path;
  treatment = treatment context method (within context canon);
}

abbrev pub in_context : List ℕ → Canon → Option SiteContext → Explanation
in_context method canon None = NoContext canon.path
in_context method canon (Some context) = InContext (served method canon context)

-- The explanation of a request with a canonical path, or with the fault of a target without one.
abbrev pub at_canon : List SiteContext → List ℕ → Result Canon PathFault → Explanation
at_canon contexts method (Err fault) = BadPath fault
at_canon contexts method (Ok canon) = in_context method canon (option_and_then (slice_get contexts) (context_place contexts canon.path))

-- The explanation by the form of the target. An absolute form asks for its path, as the origin form does.
abbrev pub at_form : List SiteContext → List ℕ → List ℕ → TargetForm → Explanation
at_form contexts method target Origin = at_canon contexts method (canonical target)
at_form contexts method target (Absolute len) = at_canon contexts method (canonical (path_of target))
at_form contexts method target Star = OfServer
at_form contexts method target Unknown = Unread BadTarget

-- Whether a request line can hold the target.
abbrev pub is_writable : List ℕ → Bool
is_writable target = not (length target == 0) && list_all is_uri_byte target

-- The explanation for a method and a target. The end of a head is found before its request line is read, and the
-- request line is read before the form of its target is judged.
abbrev pub explanation_of : List SiteContext → List ℕ → List ℕ → Explanation
explanation_of contexts method target =
    if is_too_long method target then Unread HeadTooLarge
    else if is_writable target then at_form contexts method target (target_form method target)
    else Unread BadHead

abbrev pub explanation : List SiteContext → List ℕ → List ℕ → Result Explanation ExplainFault
explanation contexts method target =
    if is_token method then Ok (explanation_of contexts method target) else Err BadMethod
