-- The admission of a message to its context, before any component is called. The session that it holds is accessed, it
-- is judged, and the sessions are settled (Jakarta Servlet 6.0, chapters 7 and 13).
use Rattle.std.specs.Prelude.{List}
use Rattle.sv_login.specs.declared.outcome.Outcome.{Outcome}
use Rattle.sv_login.specs.OutcomeEntry.{outcome_entry}
use Rattle.sv_policy.specs.Compiled.{Standing}
use Rattle.sv_realm.specs.declared.account.User.{User}
use Rattle.sv_session.specs.Store.{Store}
use Rattle.sv_tree.specs.SiteOfDescriptor.{Content}
use Rattle.sv_admission.specs.Answer.{answer_to}
use Rattle.sv_exchange.specs.Asked.{Asked}
use Rattle.sv_admission.specs.Held.{accessed, session_held}
use Rattle.sv_admission.specs.Judged.{left_by_login, outcome_of}
use Rattle.sv_admission.specs.Settled.{Settled, session_of, settled_by}
use Rattle.sv_admission.specs.declared.admission.Admission.{Admission}

module _ (content : Content) (standing : Standing) (users : List User) (asked : Asked) (store : Store) where
  -- The sessions after the access.
  abbrev pub store_accessed : Store
  store_accessed = accessed (session_held content.app asked store) asked.moment store

  -- The outcome of the message.
  abbrev pub outcome_in : Outcome
  outcome_in = outcome_of content.app standing users asked (session_held content.app asked store) store_accessed

  -- The sessions after the message is judged.
  abbrev pub settled_in : Settled
  settled_in = settled_by content.context_path asked (session_held content.app asked store) outcome_in
      (left_by_login content.app users asked (session_held content.app asked store) store_accessed)

  abbrev pub admission : Admission
  admission = record {
    entry = outcome_entry content.context_path asked.canon.path outcome_in;
    answer = answer_to content outcome_in;
    session = session_of users settled_in;
    event = settled_in.event;
  }
