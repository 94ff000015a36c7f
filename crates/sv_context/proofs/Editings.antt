-- Edits of a context, and refused edits.
use Rattle.std.proofs.Common.{◌≡◌, ℕ, List, Result, Ok, Err, refl, ap, ◌∙◌, subst}
use Rattle.sv_live.specs.Standing.{LiveState}
use Rattle.sv_context.specs.Editing.{Edits}
use Rattle.sv_context.specs.State.{ContextState, context_of}
use Rattle.sv_policy.specs.Compiled.{Standing}
use Rattle.sv_policy.specs.Edits.{GivesOutcome, edit_outcome}
use Rattle.sv_policy.specs.declared.edit.Edit.{Edit}
use Rattle.sv_policy.specs.declared.edit_fault.EditFault.{EditFault}
use Rattle.sv_realm.specs.declared.account.User.{User}
use Rattle.sv_session.specs.Store.{Store}
use Rattle.sv_tree.specs.SiteOfDescriptor.{Content}

-- A refused edit leaves the constraints unchanged.
policy_stays : (old new : Standing) (answer : Result ℕ EditFault) (fault : EditFault) (outcome : Result (ℕ × Standing) EditFault)
    → GivesOutcome old new answer outcome → answer ≡ Err fault → new ≡ old
policy_stays old new answer fault (Err cause) gives is = gives.1
policy_stays old new (Err cause) fault (Ok done) gives is = gives.1
policy_stays old new (Ok number) fault (Ok done) gives is = cc

-- An edit of the constraints is one of the context.
pub edits_so : {S F L : Type 0} (content : Content) (old new : Standing) (users : List User) (live : LiveState S F L) (store : Store) (before : ContextState S F L)
    (edit : Edit) (answer : Result ℕ EditFault)
    → context_of content old users live store ≡ before → GivesOutcome old new answer (edit_outcome old edit)
    → Edits before edit answer (context_of content new users live store)
edits_so content old new users live store before edit answer is outcome =
    subst (λ context. Edits context edit answer (context_of content new users live store)) is (record { outcome = outcome; stays = refl })

-- A refused edit leaves the context unchanged.
pub refused_stays : {S F L : Type 0} (before after : ContextState S F L) (edit : Edit) (answer : Result ℕ EditFault) (fault : EditFault)
    → Edits before edit answer after → answer ≡ Err fault → after ≡ before
refused_stays before after edit answer fault edits is =
    edits.stays ∙ ap (λ (standing : Standing). record before { policy = standing })
    (policy_stays before.policy after.policy answer fault (edit_outcome before.policy edit) edits.outcome is)
