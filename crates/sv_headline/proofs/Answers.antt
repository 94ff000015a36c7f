-- The response to a message moves the sessions as components may.
use Rattle.std.proofs.Common.{ℕ, List, inl, inr, Option, None, Some}
use Rattle.std.specs.Prelude.{codes}
use Rattle.sv_admission.specs.declared.answer.Answer.{Answer}
use Rattle.sv_admission.specs.declared.answer.Answer.TheVariants as answers
use Rattle.sv_admission.specs.declared.answer.TheConstants.{SEE_OTHER}
use Rattle.sv_context.specs.Answered.{Answered, Answers, Requested, SendsTo, Tells}
use Rattle.sv_exchange.specs.Changing.{SetHeader, SetStatus}
use Rattle.sv_session.specs.declared.event.Event.{Event}
use Rattle.sv_session.specs.declared.event.Event.TheVariants.{RequestDestroyed, RequestInitialized}
use Rattle.sv_mapping.specs.declared.kind.Kind.TheVariants as kinds
use Rattle.sv_tree.specs.Does.{Does, ◌>>=◌, ◌>>◌, makes}
use Rattle.sv_tree.specs.Laws.{AnswersMoveSessions, MovesJoin, StepsMoveSessions}
use Rattle.sv_tree.specs.Moving.{MovesSessions}
use Rattle.sv_tree.specs.Served.{Served, ShowsError}
use Rattle.sv_tree.specs.Site.{Site}
use Rattle.sv_tree.specs.Telling.{hears}
use Rattle.sv_uri.specs.declared.path.Canon.{Canon}

then_moves : {A B : Type 0} → MovesJoin → (first : Does A) (next : A → Does B) → MovesSessions first → ((given : A) → MovesSessions (next given))
    → MovesSessions (◌>>=◌ first next)
then_moves join first next one other before after calls result (inl behind) =
    join before.exchange behind.between.exchange after.exchange
    (one before behind.between behind.front (Some behind.given) behind.begins)
    (other behind.given behind.between after behind.back result behind.goes_on)
then_moves join first next one other before after calls result (inr stopped) = one before after calls None stopped.0

module _ (site : Site) (dispatches : AnswersMoveSessions site) (steps : StepsMoveSessions) (join : MovesJoin) where
  hears_moves : (event : Event) → MovesSessions (hears site.listeners event)
  hears_moves = steps.2 site.listeners

  tells_moves : (event : Option Event) → MovesSessions (Tells site event)
  tells_moves None = steps.0
  tells_moves (Some event) = hears_moves event

  sends_moves : (location : List ℕ) → MovesSessions (SendsTo location)
  sends_moves location =
      then_moves join (makes (SetStatus SEE_OTHER)) (λ _. makes (SetHeader (codes "location") location))
      (steps.1 (SetStatus SEE_OTHER)) (λ _. steps.1 (SetHeader (codes "location") location))

  requested_moves : (its : Does (Unit {0})) → MovesSessions its → MovesSessions (Requested site its)
  requested_moves its moves =
      then_moves join (hears site.listeners RequestInitialized) (λ _. its >> hears site.listeners RequestDestroyed) (hears_moves RequestInitialized)
      (λ _. then_moves join its (λ _. hears site.listeners RequestDestroyed) moves (λ _. hears_moves RequestDestroyed))

  answers_move : (canon : Canon) (answer : Answer) → MovesSessions (Answers site canon answer)
  answers_move canon answers.Entered = requested_moves (Served site kinds.Request canon) (dispatches.1 kinds.Request canon)
  answers_move canon (answers.Page page) = requested_moves (Served site kinds.Forward page) (dispatches.1 kinds.Forward page)
  answers_move canon (answers.Error status None) = dispatches.2 status None
  answers_move canon (answers.Error status (Some page)) = requested_moves (ShowsError site status (Some page)) (dispatches.2 status (Some page))
  answers_move canon (answers.SeeOther location) = sends_moves location

  pub answered_moves : (canon : Canon) (event : Option Event) (answer : Answer) → MovesSessions (Answered site canon event answer)
  answered_moves canon event answer = then_moves join (Tells site event) (λ _. Answers site canon answer) (tells_moves event) (λ _. answers_move canon answer)
