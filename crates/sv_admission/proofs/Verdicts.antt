-- Judging a message in the code.
use Rattle.std.proofs.Common.{◌≡◌, Bool, true, false, refl, Option, None, Some}
use Rattle.std.specs.Prelude.{is_some}
use Rattle.std.specs.Option.{option_map}
use Rattle.sv_constraints.specs.declared.owned_decision.OwnedDecision.{OwnedDecision}
use Rattle.sv_login.specs.declared.step.LoginOutcome.{LoginOutcome}
use Rattle.sv_login.specs.Outcome.{login_outcome, outcome, verdict_outcome}

-- The verdict decides a message that is no login post.
pub decided_so : {Pages Store : Type 0} (hidden : Bool) (pages : Option Pages) (step : Pages → LoginOutcome × Store) (decision : OwnedDecision) → hidden ≡ false → is_some pages ≡ true
    → ((its_pages : Pages) → login_outcome (step its_pages).0 ≡ None)
    → verdict_outcome (is_some pages) decision ≡ outcome (record { is_protected = hidden; login = option_map (λ answered. answered.0) (option_map step pages); verdict = decision })
decided_so hidden None step decision shown some none = cc
decided_so hidden (Some pages) step decision shown some none = rw (shown, none pages) refl
