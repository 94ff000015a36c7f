-- The explanations of heads that are too large.
use Rattle.std.proofs.Common.{◌≡◌, ◌≢◌, ℕ, Bool, true, false, List, Option, Some, None, refl, cond}
use Rattle.std.specs.Prelude.{Ok, Err, Result, option_and_then, slice_get}
use Rattle.sv_message.specs.TargetForm.{path_of, target_form}
use Rattle.sv_message.specs.declared.target.TargetForm.{TargetForm}
use Rattle.sv_message.specs.declared.target.TargetForm.TheVariants.{Origin, Absolute, Star, Unknown}
use Rattle.sv_uri.specs.Canonical.{canonical}
use Rattle.sv_uri.specs.declared.fault.PathFault.{PathFault}
use Rattle.sv_uri.specs.declared.path.Canon.{Canon}
use Rattle.sv_wire.specs.declared.wire_fault.WireFault.TheVariants.{BadHead, HeadTooLarge}
use Rattle.sv_explanation.specs.Explanation.{at_canon, at_form, context_place, explanation_of, in_context, is_writable}
use Rattle.sv_explanation.specs.Heads.{is_too_long}
use Rattle.sv_explanation.specs.declared.explanation.Explanation.{Explanation}
use Rattle.sv_explanation.specs.declared.explanation.Explanation.TheVariants.{Unread}
use Rattle.sv_explanation.specs.declared.site_context.SiteContext.{SiteContext}

in_context_other : (method : List ℕ) (canon : Canon) (context : Option SiteContext) → in_context method canon context ≢ Unread HeadTooLarge
in_context_other method canon None same = cc
in_context_other method canon (Some context) same = cc

at_canon_other : (contexts : List SiteContext) (method : List ℕ) (target : Result Canon PathFault) → at_canon contexts method target ≢ Unread HeadTooLarge
at_canon_other contexts method (Err fault) same = cc
at_canon_other contexts method (Ok canon) same = in_context_other method canon (option_and_then (slice_get contexts) (context_place contexts canon.path)) same

at_form_other : (contexts : List SiteContext) (method target : List ℕ) (form : TargetForm) → at_form contexts method target form ≢ Unread HeadTooLarge
at_form_other contexts method target Origin same = at_canon_other contexts method (canonical target) same
at_form_other contexts method target (Absolute len) same = at_canon_other contexts method (canonical (path_of target)) same
at_form_other contexts method target Star same = cc
at_form_other contexts method target Unknown same = cc

by_tests : (too_long writable : Bool) (found : Explanation) → found ≢ Unread HeadTooLarge
    → cond too_long (Unread HeadTooLarge) (cond writable found (Unread BadHead)) ≡ Unread HeadTooLarge → too_long ≡ true
by_tests true writable found other is = refl
by_tests false true found other is = absurd (other is)
by_tests false false found other is = cc

-- Only a head that is too long is explained so.
pub is_long : (contexts : List SiteContext) (method target : List ℕ) → explanation_of contexts method target ≡ Unread HeadTooLarge → is_too_long method target ≡ true
is_long contexts method target is =
    by_tests (is_too_long method target) (is_writable target) (at_form contexts method target (target_form method target))
    (at_form_other contexts method target (target_form method target)) is

by_length : (too_long : Bool) (found : Explanation) → cond too_long (Unread HeadTooLarge) found ≢ Unread HeadTooLarge → too_long ≡ false
by_length true found other = absurd (other refl)
by_length false found other = refl

-- Any other head is not too long.
pub is_short : (contexts : List SiteContext) (method target : List ℕ) → explanation_of contexts method target ≢ Unread HeadTooLarge → is_too_long method target ≡ false
is_short contexts method target other = by_length (is_too_long method target) _ other
