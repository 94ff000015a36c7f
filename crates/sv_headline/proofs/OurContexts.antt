-- Our contexts meet the requirements of runs.
use Rattle.std.proofs.Common.{◌≡◌, ℕ, ◌*◌, List, [], ◌∷◌, ◌++◌, Some, Result, Ok, Err, refl, sym, ap, ◌∙◌, subst, inl, inr}
use Rattle.std.specs.List.{filter}
use Rattle.sv_admission.specs.Admission.{outcome_in}
use Rattle.sv_exchange.specs.Asked.{Asked}
use Rattle.sv_admission.specs.Judged.{post_in}
use Rattle.sv_admission.specs.Laws.{LeavesNoneExpired}
use Rattle.sv_component.specs.Laws.{RunsAreJournalled}
use Rattle.sv_component.specs.Steps.{ComponentSteps}
use Rattle.sv_context.specs.Conduct.{asked_of}
use Rattle.sv_context.specs.Deployment.{deployed, no_sessions}
use Rattle.sv_context.specs.Handled.{GivesResponse, admitted, exchange_begun, state_in}
use Rattle.sv_context.specs.Laws.{ExpiryLeavesNone, ExpiryOfNoneIsNothing}
use Rattle.sv_context.specs.State.{ContextState, world_of}
use Rattle.sv_lifecycle.specs.declared.deployment.Deployment.{Deployment}
use Rattle.sv_context.specs.declared.deployment.TheConstants.{SECONDS_OF_MINUTE}
use Rattle.sv_descriptor.specs.Version.{max_sessions}
use Rattle.sv_journal.specs.Journal.{JournalState, new_journal, with_entry}
use Rattle.sv_live.specs.Standing.{LiveState}
use Rattle.sv_lifecycle.specs.declared.start_fault.StartFault.{StartFault}
use Rattle.sv_login.specs.Post.{user_sent}
use Rattle.sv_run.specs.Effect.{whole}
use Rattle.sv_run.specs.Lawful.{ChangesConstraintsByEdits, ChangesSessionsByCalls, EndsExpired, GivesCallersByLogin, TellsOutcomes, is_outcome}
use Rattle.sv_session.specs.Calls.{HoldsCaller, left_by_expiry}
use Rattle.sv_session.specs.Expiry.{HasNoneExpired}
use Rattle.sv_session.specs.Laws.{CallersAreEntered, CallsLeaveOrder, EmptyIsOrderly, MovesLeaveOrder}
use Rattle.sv_session.proofs.MoveLemmas.{left-append}
use Rattle.sv_session.specs.Runs.{ChangedByCalls, Expire, Expires, left_after}
use Rattle.sv_session.specs.Store.{IsOrderly, Store}
use Rattle.sv_session.specs.declared.ended_sessions.EndedSession.{EndedSession}
use Rattle.sv_tree.specs.SiteOfDescriptor.{Content, site_of}
use Rattle.sv_tree.specs.Laws.{AnswersMoveSessions, MovedGiveNoCaller, MovedLeaveNoneExpired, MovesJoin, StepsMoveSessions}
use Rattle.sv_tree.specs.Moving.{IsMoved}
use Rattle.sv_tree.specs.Site.{Site}
use Rattle.sv_message.specs.declared.response.Response.{Response}
use Rattle.sv_headline.proofs.Admitting.{IsLoginAs, left_by_admission, left_holds, left_orderly}
use Rattle.sv_headline.proofs.Answers.{answered_moves}
use Rattle.sv_headline.proofs.Outcomes.{growth_is_silent, run_is_silent}
use Rattle.sv_headline.specs.Order.{SessionsStayInOrder}
use Rattle.sv_context.specs.Theory.{theory}

-- dispatches and the steps around them move the sessions as components may
pub record Moves : Type 0 where
  pub dispatches : (site : Site) → AnswersMoveSessions site
  pub steps : StepsMoveSessions
  pub join : MovesJoin

-- a caller that is held after an expiry was held before it
held_through : CallersAreEntered → (number caller moment : ℕ) (ended : List EndedSession) (before after : Store) → Expires moment before ended after
    → HoldsCaller number caller after → HoldsCaller number caller before
held_through law number caller moment [] before after expires holds = subst (HoldsCaller number caller) expires.1 holds
held_through law number caller moment (session ∷ ended) before after expires holds =
    elim (law (Expire moment) before number caller (held_through law number caller moment ended (left_by_expiry moment before) after expires.1 holds)) [
      | inl held ↦ held
      | inr enters ↦ absurd (cc)
    ]

-- an expiry keeps the order of the sessions
ordered_through : CallsLeaveOrder → (moment : ℕ) (ended : List EndedSession) (before after : Store) → Expires moment before ended after
    → IsOrderly before → IsOrderly after
ordered_through law moment [] before after expires orderly = subst IsOrderly (sym expires.1) orderly
ordered_through law moment (session ∷ ended) before after expires orderly =
    ordered_through law moment ended (left_by_expiry moment before) after expires.1 (law (Expire moment) before orderly)

-- an expiry changes the sessions by calls
expired_by_calls : (moment : ℕ) (ended : List EndedSession) (before after : Store) → Expires moment before ended after → ChangedByCalls before after
expired_by_calls moment [] before after expires = ([], expires.1)
expired_by_calls moment (session ∷ ended) before after expires =
    let rest = expired_by_calls moment ended (left_by_expiry moment before) after expires.1 in (Expire moment ∷ rest.0, rest.1)

module _ {S F L : Type 0} (moving : ComponentSteps S F L) where
  -- after its admission, the response to a message moves the sessions as components may
  handled_moves : Moves → (asked : Asked) (context after : ContextState S F L) (response : Response) (noted_after : JournalState)
      (handled : GivesResponse moving asked context new_journal response after noted_after) → IsMoved (exchange_begun context asked) handled.exchange
  handled_moves moves asked context after response noted_after handled =
      answered_moves (site_of context.content) (moves.dispatches (site_of context.content)) moves.steps moves.join
      asked.canon (admitted context asked).event (admitted context asked).answer
      (state_in context (exchange_begun context asked)) (state_in after handled.exchange) handled.is_answered.made (Some tt) handled.is_answered.answers

  deployed_empty : (deployment : Deployment S F L) (started : Result (LiveState S F L) (StartFault S F L)) (context : ContextState S F L)
      → Ok context ≡ deployed deployment started → context.store ≡ no_sessions deployment.descriptor
  deployed_empty deployment (Ok live) context is = cc
  deployed_empty deployment (Err fault) context is = cc

  pub in_order : EmptyIsOrderly → CallsLeaveOrder → MovesLeaveOrder → Moves → SessionsStayInOrder moving
  in_order empty call moved_calls moves = record {
    begins = λ deployment context noted noted_after deploys.
        let store = deployed_empty deployment deploys.started context deploys.is in
        (ap (λ (its : Store). its.sessions) store, subst IsOrderly (sym store) (empty (max_sessions deployment.descriptor.version) (deployment.descriptor.session.timeout * SECONDS_OF_MINUTE)));
    handles = λ handling handles orderly.
        let context = handling.context in
        let asked = asked_of context handling.request in
        let moved = handled_moves moves asked context handling.after handling.response (whole handling.entries) handles in
        let left = left_by_admission context.content context.policy context.users asked context.store in
        let admitted = subst IsOrderly (sym left.is) (left_orderly call left.calls context.store orderly) in
        subst IsOrderly (sym handles.store) (moved_calls asked.moment (exchange_begun context asked).store handles.exchange.store moved.sessions admitted);
    expires = λ context after moment told expires orderly. ordered_through call moment expires.ended context.store after.store expires.ends orderly;
  }

  module _ {Words : Type 0} (draws : Words → ℕ × ℕ → Words → Type 0) where
    pub ends_expired : ExpiryLeavesNone moving → ExpiryOfNoneIsNothing moving → LeavesNoneExpired → MovedLeaveNoneExpired → Moves
        → EndsExpired (theory moving draws)
    ends_expired leaves_none none_is_nothing admission leave moves = record {
      settles = λ context after moment told expires. leaves_none moment context after new_journal (whole told) expires;
      stays = λ context moment none. (none_is_nothing moment context new_journal none).0;
      ends_nothing = λ context after moment told none expires.
          let same = (none_is_nothing moment context new_journal none).1 after (whole told) expires in
          (ap (λ (journal : JournalState). journal.entries) same.1, same.0);
      keeps = λ handling handles none.
          let context = handling.context in
          let asked = asked_of context handling.request in
          let moved = handled_moves moves asked context handling.after handling.response (whole handling.entries) handles in
          let kept = leave (exchange_begun context asked) handles.exchange moved (admission context.content context.policy context.users asked context.store none) in
          subst (HasNoneExpired asked.moment) (sym handles.store) (subst (λ now. HasNoneExpired now handles.exchange.store) moved.moment kept);
    }

    pub changes_by_calls : Moves → ChangesSessionsByCalls (theory moving draws)
    changes_by_calls moves = record {
      by_request = λ handling handles.
          let context = handling.context in
          let asked = asked_of context handling.request in
          let moved = (handled_moves moves asked context handling.after handling.response (whole handling.entries) handles).sessions in
          let left = left_by_admission context.content context.policy context.users asked context.store in
          (left.calls ++ moved.0, handles.store ∙ moved.2 ∙ ap (left_after moved.0) left.is ∙ sym (left-append left.calls moved.0 context.store));
      by_expiry = λ context after moment told expires. expired_by_calls moment expires.ended context.store after.store expires.ends;
    }

    pub tells_outcomes : RunsAreJournalled moving → TellsOutcomes (theory moving draws)
    tells_outcomes law = record {
      tells = λ handling handles.
          let asked = asked_of handling.context handling.request in
          let entry = (admitted handling.context asked).entry in
          let gains = run_is_silent moving law (world_of handling.context (with_entry entry new_journal)) (world_of handling.after (whole handling.entries))
          handles.is_answered.made handles.is_answered.runs refl in
          record {
            behind = gains.behind;
            are = gains.are;
            no_other = gains.no_outcome;
          };
      ends_silently = λ context after moment told expires.
          let gains = growth_is_silent moving law (world_of context new_journal) (world_of after (whole told)) _ expires.told refl in
          subst (λ entries. filter is_outcome entries ≡ []) (sym gains.are) gains.no_outcome;
    }

    pub gives_callers : CallersAreEntered → MovedGiveNoCaller → Moves → GivesCallersByLogin (theory moving draws)
    gives_callers entered give_none moves = record {
      by_login = λ handling number caller handles holds.
          let context = handling.context in
          let asked = asked_of context handling.request in
          let moved = handled_moves moves asked context handling.after handling.response (whole handling.entries) handles in
          let held = give_none (exchange_begun context asked) handles.exchange moved number caller (subst (HoldsCaller number caller) handles.store holds) in
          let left = left_by_admission context.content context.policy context.users asked context.store in
          elim (left_holds (IsLoginAs (outcome_in context.content context.policy context.users asked context.store) (user_sent context.users (post_in asked)))
          entered number caller left.calls context.store left.enter (subst (HoldsCaller number caller) left.is held)) [
            | inl before ↦ inl before
            | inr login ↦ inr record { target = login.0; passed = login.1; fits = login.2 }
          ];
      not_by_expiry = λ context after moment told number caller expires holds.
          held_through entered number caller moment expires.ended context.store after.store expires.ends holds;
    }

    pub changes_constraints : ChangesConstraintsByEdits (theory moving draws)
    changes_constraints = record {
      edits = λ before after edit answer edits. edits.outcome;
      by_request = λ handling handles. record {
        path = ap (λ (content : Content). content.context_path) handles.is_answered.stays.content;
        policy = handles.is_answered.stays.policy;
      };
      by_expiry = λ context after moment told expires. record {
        path = ap (λ (content : Content). content.context_path) expires.stays.content;
        policy = expires.stays.policy;
      };
    }
