-- Runs of a started container: they begin without sessions, and are lawful if all events are accepted.
use Rattle.std.proofs.Common.{◌≡◌, ℕ, Bool, true, false, List, [], ◌∷◌, ◌++◌, map, Ok, Err, refl, sym, ap, ◌∙◌, subst}
use Rattle.std.specs.Bool.{MatchBool}
use Rattle.std.specs.List.{AllByRecursion}
use Rattle.sv_component.specs.Steps.{ComponentSteps}
use Rattle.sv_headline.specs.Order.{SessionsStayInOrder}
use Rattle.sv_headline.specs.Record.{IsLawfulRun}
use Rattle.sv_headline.specs.Start.{CallersLoggedInSinceTheStart}
use Rattle.sv_headline.specs.Until.{EveryRunIsLawfulUntilRefused, IsLawfulUpTo}
use Rattle.sv_container.specs.Container.{state_of}
use Rattle.sv_context.specs.Several.{DeploysAll}
use Rattle.sv_container.specs.Starting.{Starts}
use Rattle.sv_container.specs.declared.container.Container.{Container}
use Rattle.sv_context.specs.State.{ContextState}
use Rattle.sv_context.specs.Theory.{theory}
use Rattle.sv_lifecycle.specs.declared.deployment.Deployment.{Deployment}
use Rattle.sv_headline.specs.Callers.{CallersOfAStartedContainerHaveLoggedIn}
use Rattle.sv_headline.specs.Headline.{RunsLawfully}
use Rattle.sv_journal.specs.Journal.{JournalState}
use Rattle.sv_script.specs.Asked.{events_of}
use Rattle.sv_script.specs.Replay.{Played}
use Rattle.sv_run.specs.Events.{Happening}
use Rattle.sv_run.specs.Reacting.{answer_shown}
use Rattle.sv_run.specs.Runs.{Answer, Run}
use Rattle.sv_run.specs.State.{State}
use Rattle.sv_run.specs.declared.happening.Reaction.{Reaction}
use Rattle.sv_run.specs.declared.step_fault.StepFault.TheVariants.{NoMemory}
use Rattle.sv_script.specs.WholeLaws.{PlaysALawfulRun}
use Rattle.sv_container.specs.Running.{StepsOf, run_of}
use Rattle.sv_container.specs.Script as scripts
use Rattle.sv_container.specs.declared.running.Running.{Running}
use Rattle.sv_run.specs.declared.counted_words.CountedWords.{CountedWords}

-- if each event was accepted, none ran out of memory
none_wanted : {Context : Type 0} (answered refused : List (Answer Context)) (reactions : List Reaction)
    → map Ok reactions ≡ map answer_shown (answered ++ Err NoMemory ∷ refused) → ⊥
none_wanted [] refused [] same = absurd (cc)
none_wanted [] refused (reaction ∷ reactions) same = absurd (cc)
none_wanted (answer ∷ answered) refused [] same = absurd (cc)
none_wanted (answer ∷ answered) refused (reaction ∷ reactions) same = none_wanted answered refused reactions (cc)

module _ {S F L W : Type 0} (moving : ComponentSteps S F L) (draws : W → ℕ × ℕ → W → Type 0) where
  none_at_first : SessionsStayInOrder moving → (deployments : List (Deployment S F L)) (before after : JournalState) (contexts : List (ContextState S F L))
      → DeploysAll moving deployments before contexts after → AllByRecursion (λ context. context.store.sessions ≡ []) contexts
  none_at_first order [] before after contexts deploys = subst (AllByRecursion (λ context. context.store.sessions ≡ [])) (sym deploys.0) tt
  none_at_first order (deployment ∷ deployments) before after contexts deploys =
      subst (AllByRecursion (λ context. context.store.sessions ≡ [])) (sym deploys.5) (
        (order.begins deployment deploys.0 before deploys.2 deploys.3).0,
        none_at_first order deployments deploys.2 after deploys.1 deploys.4,
      )

  pub logged_in : SessionsStayInOrder moving → CallersLoggedInSinceTheStart (theory moving draws) → CallersOfAStartedContainerHaveLoggedIn moving draws
  logged_in order since deployments words noted noted_after container happenings answers after starts run runs place number caller holds =
      since (state_of container) after happenings answers place number caller
      (subst (AllByRecursion (λ context. context.store.sessions ≡ [])) (sym (ap (λ (state : State (ContextState S F L) W). state.world.contexts) starts.3))
      (none_at_first order deployments noted noted_after starts.0 starts.1))
      run runs holds

  -- a run of a running container is lawful if each event was accepted
  all_accepted : EveryRunIsLawfulUntilRefused moving draws → (before after : State (ContextState S F L) W) (happenings : List Happening)
      (answers : List (Answer (ContextState S F L))) (reactions : List Reaction) → before.stopped ≡ false
      → Run (theory moving draws) before happenings answers after → map Ok reactions ≡ map answer_shown answers
      → IsLawfulRun moving draws before happenings answers after × (after.stopped ≡ false)
  all_accepted every before after happenings answers reactions runs run shown = by_stop after.stopped refl (every before after happenings answers runs run)
    where
      by_stop : (stopped : Bool) → after.stopped ≡ stopped
          → MatchBool stopped (IsLawfulUpTo moving draws before happenings answers after) (IsLawfulRun moving draws before happenings answers after)
          → IsLawfulRun moving draws before happenings answers after × (after.stopped ≡ false)
      by_stop true is up_to = absurd (none_wanted up_to.answered up_to.refused reactions (shown ∙ ap (map answer_shown) up_to.are_answered))
      by_stop false is lawful = (lawful, is)

module _ {S F L : Type 0} (moving : ComponentSteps S F L)
    (every : EveryRunIsLawfulUntilRefused moving scripts.draws) (callers : CallersOfAStartedContainerHaveLoggedIn moving scripts.draws) where
  pub runs_lawfully : (deployments : List (Deployment S F L)) (words : CountedWords) (noted noted_after : JournalState) (container : Container S F L CountedWords)
      → Starts moving deployments words noted (Ok container) noted_after → (played : Played (Running S F L CountedWords))
      → PlaysALawfulRun (StepsOf moving scripts.draws) (theory moving scripts.draws) run_of (record { container = container }) played
      → RunsLawfully moving container played
  runs_lawfully deployments words noted noted_after container starts its_played its_plays =
      let both = all_accepted moving scripts.draws every (state_of container) (run_of its_played.handler) (events_of 0 its_played.said) its_plays.answers
      its_played.reactions (ap (λ (state : State (ContextState S F L) CountedWords). state.stopped) starts.3) its_plays.runs its_plays.are_shown in
      record {
        plays = its_plays;
        lawful = both.0;
        callers = callers deployments words noted noted_after container (events_of 0 its_played.said) its_plays.answers (run_of its_played.handler) starts
            its_plays.runs both.1;
      }
