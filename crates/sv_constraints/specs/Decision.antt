-- The decisions on a request, their values in contracts and their texts (Jakarta Servlet 6.0, section 13.8).
use Rattle.std.specs.Prelude.{ℕ, List, ◌++◌, codes, unwrap_or}
use Rattle.std.specs.Option.{option_copied, option_map_or}
use Rattle.std.specs.Fmt.{decimal}
use Rattle.sv_constraints.specs.declared.cause.Cause.{Cause}
use Rattle.sv_constraints.specs.declared.cause.Cause.TheVariants.{NoPattern, Uncovered, Precluded, Transport, Unauthenticated, NeedsCaller, Role, NoRole}
use Rattle.sv_constraints.specs.declared.decision.Decision.{Decision}
use Rattle.sv_constraints.specs.declared.decision.Decision.TheVariants as borrowed
use Rattle.sv_constraints.specs.declared.decision.Why.{Why}
use Rattle.sv_constraints.specs.declared.owned_decision.OwnedDecision.{OwnedDecision}
use Rattle.sv_constraints.specs.declared.owned_decision.OwnedDecision.TheVariants.{Open, Login, Denied}
use Rattle.sv_constraints.specs.declared.owned_decision.OwnedWhy.{OwnedWhy}

-- The value of a decision in contracts: a borrowed pattern is its text.
abbrev pub seen_why : Why → OwnedWhy
seen_why why = record { pattern = option_copied why.pattern; number = why.number; cause = why.cause }

abbrev pub seen : Decision → OwnedDecision
seen (borrowed.Open why) = Open (seen_why why)
seen (borrowed.Login why) = Login (seen_why why)
seen (borrowed.Denied why) = Denied (seen_why why)

abbrev pub why_of : OwnedDecision → OwnedWhy
why_of (Open why) = why
why_of (Login why) = why
why_of (Denied why) = why

abbrev pub cause_text : Cause → List ℕ
cause_text NoPattern = codes "NoPattern"
cause_text Uncovered = codes "Uncovered"
cause_text Precluded = codes "Precluded"
cause_text Transport = codes "Transport"
cause_text Unauthenticated = codes "Unauthenticated"
cause_text NeedsCaller = codes "NeedsCaller"
cause_text Role = codes "Role"
cause_text NoRole = codes "NoRole"

-- `pattern=P constraint=N cause=NAME`, with `-` for none
abbrev pub why_text : OwnedWhy → List ℕ
why_text why =
    codes "pattern=" ++ unwrap_or why.pattern (codes "-")
    ++ codes " constraint=" ++ option_map_or decimal why.number (codes "-")
    ++ codes " cause=" ++ cause_text why.cause

abbrev pub word : OwnedDecision → List ℕ
word (Open why) = codes "open"
word (Login why) = codes "login"
word (Denied why) = codes "denied"

-- The word of the decision, a blank, and the reason.
abbrev pub decision_text : OwnedDecision → List ℕ
decision_text decision = word decision ++ codes " " ++ why_text (why_of decision)
