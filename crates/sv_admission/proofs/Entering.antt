-- The entry of an outcome.
use Rattle.std.proofs.Common.{◌≡◌, ℕ, List, refl}
use Rattle.sv_login.specs.OutcomeEntry.{outcome_entry}
use Rattle.sv_journal.specs.declared.entry.Entry.TheVariants as entries
use Rattle.sv_login.specs.declared.outcome.Outcome.{Outcome}
use Rattle.sv_login.specs.declared.outcome.Outcome.TheVariants as outcomes

pub entered_by : (context path : List ℕ) (outcome : Outcome) → outcome_entry context path outcome ≡ entries.Entered context path → outcome ≡ outcomes.Entered
entered_by context path outcomes.Protected h = cc
entered_by context path (outcomes.LoggedIn number target) h = cc
entered_by context path outcomes.LoginFailed h = cc
entered_by context path outcomes.NoSession h = cc
entered_by context path outcomes.Entered h = refl
entered_by context path (outcomes.SentToLogin why) h = cc
entered_by context path (outcomes.NoLogin why) h = cc
entered_by context path (outcomes.Denied why) h = cc
