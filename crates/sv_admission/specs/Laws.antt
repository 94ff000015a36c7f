-- Laws of every message in its context (Jakarta Servlet 6.0, sections 7.5, 10.5, 13.6.3 and 13.8).
use Rattle.std.specs.Prelude.{◌≡◌, ◌↔◌, List}
use Rattle.sv_admission.specs.Admission.{admission, settled_in, store_accessed}
use Rattle.sv_exchange.specs.Asked.{Asked}
use Rattle.sv_admission.specs.Held.{session_held}
use Rattle.sv_admission.specs.Judged.{findings}
use Rattle.sv_constraints.specs.declared.owned_decision.OwnedDecision.TheVariants as decisions
use Rattle.sv_constraints.specs.declared.owned_decision.OwnedWhy.{OwnedWhy}
use Rattle.sv_journal.specs.declared.entry.Entry.TheVariants as entries
use Rattle.sv_login.specs.OutcomeLaws.{IsOrdinary}
use Rattle.sv_login.specs.Outcome.{Findings}
use Rattle.sv_policy.specs.Compiled.{Standing}
use Rattle.sv_realm.specs.declared.account.User.{User}
use Rattle.sv_session.specs.Expiry.{HasNoneExpired}
use Rattle.sv_session.specs.Store.{Store}
use Rattle.sv_tree.specs.SiteOfDescriptor.{Content}

-- The findings about a message.
abbrev pub message_findings : Content → Standing → List User → Asked → Store → Findings
message_findings content standing users asked store =
    findings content.app standing users asked (session_held content.app asked store) (store_accessed content standing users asked store)

-- The journal entry of a message says that it entered exactly if its path is not hidden, it is no login post, and the
-- verdict is open.
abbrev pub EntersExactlyByAnOpenVerdict : Type 0
EntersExactlyByAnOpenVerdict = (content : Content) (standing : Standing) (users : List User) (asked : Asked) (store : Store)
    → ((admission content standing users asked store).entry ≡ entries.Entered content.context_path asked.canon.path)
    ↔ (IsOrdinary (message_findings content standing users asked store) × ((why : OwnedWhy) × ((message_findings content standing users asked store).verdict ≡ decisions.Open why)))

-- If no session has expired at the time of a message, it leaves none that has.
abbrev pub LeavesNoneExpired : Type 0
LeavesNoneExpired = (content : Content) (standing : Standing) (users : List User) (asked : Asked) (store : Store)
    → HasNoneExpired asked.moment store → HasNoneExpired asked.moment (settled_in content standing users asked store).store
