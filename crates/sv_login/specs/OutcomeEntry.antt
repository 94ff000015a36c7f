-- The journal entry of a message that has reached its context (Jakarta Servlet 6.0, sections 10.5, 13.6.3 and 13.8).
use Rattle.std.specs.Prelude.{ℕ, List}
use Rattle.sv_journal.specs.declared.entry.Entry.{Entry}
use Rattle.sv_journal.specs.declared.entry.Entry.TheVariants as entries
use Rattle.sv_journal.specs.declared.refusal_cause.RefusalCause.TheVariants as causes
use Rattle.sv_login.specs.declared.outcome.Outcome.{Outcome}
use Rattle.sv_login.specs.declared.outcome.Outcome.TheVariants as outcomes

-- The entry of each outcome. The path is that within the context.
abbrev pub outcome_entry : List ℕ → List ℕ → Outcome → Entry
outcome_entry context path outcomes.Protected = entries.Hidden causes.Protected
outcome_entry context path (outcomes.LoggedIn number target) = entries.Refused causes.LoggedIn
outcome_entry context path outcomes.LoginFailed = entries.Refused causes.LoginFailed
outcome_entry context path outcomes.NoSession = entries.Refused causes.NoSession
outcome_entry context path outcomes.Entered = entries.Entered context path
outcome_entry context path (outcomes.SentToLogin why) = entries.SentToLogin context why
outcome_entry context path (outcomes.NoLogin why) = entries.Refused (causes.NoLogin why)
outcome_entry context path (outcomes.Denied why) = entries.Refused (causes.Denied why)
