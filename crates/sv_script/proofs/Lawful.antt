-- The events that a script asks for, as a run.
use Rattle.std.proofs.Common.{◌≡◌, List, [], ◌∷◌, ◌++◌, Ok, Err, Result, filter, map, sym, refl, ap, ◌∙◌}
use Rattle.sv_journal.specs.declared.entry.Entry.{Entry}
use Rattle.sv_script.specs.Asked.{events_of}
use Rattle.sv_script.specs.Replay.{Played, Plays}
use Rattle.sv_run.specs.Contexts.{Theory}
use Rattle.sv_run.specs.Lawful.{is_outcome}
use Rattle.sv_run.specs.Laws.{RequestsEnterExactlyWhereAllowed}
use Rattle.sv_run.specs.Reacting.{Reacting, StepsLike, answer_shown}
use Rattle.sv_run.specs.Runs.{Answer, journal_of}
use Rattle.sv_run.specs.State.{State}
use Rattle.sv_run.specs.declared.happening.Reaction.{Reaction}
use Rattle.sv_run.specs.declared.step_fault.StepFault.{StepFault}
use Rattle.sv_script.specs.WholeLaws.{PlaysALawfulRun, entries_of}
use Rattle.sv_run.proofs.Reactions.{run_of}

-- the entries of the visible answers
abbrev entries_shown : List (Result Reaction StepFault) → List Entry
entries_shown [] = []
entries_shown (Ok reaction ∷ answers) = reaction.journal.entries ++ entries_shown answers
entries_shown (Err fault ∷ answers) = entries_shown answers

shown_of_reactions : (reactions : List Reaction) → entries_shown (map Ok reactions) ≡ entries_of reactions
shown_of_reactions [] = refl
shown_of_reactions (reaction ∷ reactions) = ap (λ entries. reaction.journal.entries ++ entries) (shown_of_reactions reactions)

shown_of_answers : {Context : Type 0} (answers : List (Answer Context)) → entries_shown (map answer_shown answers) ≡ journal_of answers
shown_of_answers [] = refl
shown_of_answers (Ok effect ∷ answers) = ap (λ entries. effect.journal ++ entries) (shown_of_answers answers)
shown_of_answers (Err fault ∷ answers) = shown_of_answers answers

pub lawful : {R Context Words : Type 0} (steps : Reacting R) (theory : Theory Context Words) (state_of : R → State Context Words) → StepsLike steps theory state_of
    → RequestsEnterExactlyWhereAllowed theory → (before : R) (played : Played R) → Plays steps before played → PlaysALawfulRun steps theory state_of before played
lawful steps theory state_of like enters before played plays =
    let found = run_of steps theory state_of like before played.handler (events_of 0 played.said) (map Ok played.reactions) plays.reacts in
    let told : entries_of played.reactions ≡ journal_of found.0 =
    sym (shown_of_reactions played.reactions) ∙ ap entries_shown found.2 ∙ shown_of_answers found.0 in
    let holds = enters (state_of before) (state_of played.handler) (events_of 0 played.said) found.0 found.1 in
    record {
      answers = found.0;
      runs = found.1;
      are_shown = found.2;
      outcomes = ap (λ entries. filter is_outcome entries) told ∙ holds.0;
      entered = holds.1;
    }
