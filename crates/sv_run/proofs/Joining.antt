-- Runs one after another, and refused events.
use Rattle.std.proofs.Common.{◌≡◌, true, List, [], ◌∷◌, Ok, Err, refl, ap, ◌∙◌, subst}
use Rattle.std.specs.List.{AllByRecursion}
use Rattle.sv_run.specs.Contexts.{Theory}
use Rattle.sv_run.specs.Events.{Happening}
use Rattle.sv_run.specs.Laws.{RefusedEventsChangeNothing, RunsJoin, RunsSplit, WantOfMemoryStops}
use Rattle.sv_run.specs.Runs.{Answer, Run}
use Rattle.sv_run.specs.State.{State}
use Rattle.sv_run.proofs.Tracing.{runs_on}
use Rattle.sv_run.specs.declared.step_fault.StepFault.TheVariants.{Stopped, BadConnection, TooManyConnections, NoMemory}

module _ {Context Words : Type 0} (theory : Theory Context Words) where
  pub refused_events_change_nothing : RefusedEventsChangeNothing theory
  refused_events_change_nothing before after happening Stopped refuses other = refuses.1
  refused_events_change_nothing before after happening BadConnection refuses other = refuses.stays
  refused_events_change_nothing before after happening TooManyConnections refuses other = refuses.stays
  refused_events_change_nothing before after happening NoMemory refuses other = absurd (other refl)

  -- a stopped container refuses every event as Stopped
  all_stopped : (before after : State Context Words) (happenings : List Happening) (answers : List (Answer Context)) → before.stopped ≡ true
      → Run theory before happenings answers after → AllByRecursion (λ answer. answer ≡ Err Stopped) answers × (after ≡ before)
  all_stopped before after [] [] stopped run = (tt, run)
  all_stopped before after [] (answer ∷ answers) stopped run = absurd run
  all_stopped before after (happening ∷ happenings) [] stopped run = absurd run
  all_stopped before after (happening ∷ happenings) (Ok effect ∷ answers) stopped run = absurd (runs_on stopped run.1.runs)
  all_stopped before after (happening ∷ happenings) (Err Stopped ∷ answers) stopped run =
      let later = all_stopped run.0 after happenings answers (ap (λ (s : State Context Words). s.stopped) run.1.1 ∙ stopped) run.2 in
      ((refl, later.0), later.1 ∙ run.1.1)
  all_stopped before after (happening ∷ happenings) (Err BadConnection ∷ answers) stopped run = absurd (runs_on stopped run.1.runs)
  all_stopped before after (happening ∷ happenings) (Err TooManyConnections ∷ answers) stopped run = absurd (runs_on stopped run.1.runs)
  all_stopped before after (happening ∷ happenings) (Err NoMemory ∷ answers) stopped run = absurd (runs_on stopped run.1.runs)

  pub want_of_memory_stops : WantOfMemoryStops theory
  want_of_memory_stops before between after happening happenings answers breaks run = all_stopped between after happenings answers breaks.stops run

  pub runs_join : RunsJoin theory
  runs_join before between after [] second [] more first later = subst (λ s. Run theory s second more after) first later
  runs_join before between after [] second (answer ∷ answers) more first later = absurd first
  runs_join before between after (happening ∷ happenings) second [] more first later = absurd first
  runs_join before between after (happening ∷ happenings) second (answer ∷ answers) more first later =
      (first.0, first.1, runs_join first.0 between after happenings second answers more first.2 later)

  pub runs_split : RunsSplit theory
  runs_split before after [] second answers run =
      record { front = []; back = answers; between = before; begins = refl; goes_on = run; are = refl }
  runs_split before after (happening ∷ happenings) second [] run = absurd run
  runs_split before after (happening ∷ happenings) second (answer ∷ answers) run =
      let later = runs_split run.0 after happenings second answers run.2 in
      record {
        front = answer ∷ later.front;
        back = later.back;
        between = later.between;
        begins = (run.0, run.1, later.begins);
        goes_on = later.goes_on;
        are = ap (λ given. answer ∷ given) later.are;
      }
