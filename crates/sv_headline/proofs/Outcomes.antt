-- The entry of a message's outcome, and the entries after it.
use Rattle.std.proofs.Common.{◌≡◌, ℕ, true, false, List, [], ◌∷◌, ◌++◌, map, refl, ap, ◌∙◌, subst, append-nil}
use Rattle.std.specs.List.{filter}
use Rattle.sv_component.specs.Call.{Call, Destroyed, Entered, Heard, Inited, Left, Serviced}
use Rattle.sv_component.specs.Laws.{RunsAreJournalled}
use Rattle.sv_component.specs.Noted.{filter_entry, servlet_entry}
use Rattle.sv_component.specs.Runs.{IsRun, OfFilter, OfListener, OfServlet, Record, Runs, record_entry}
use Rattle.sv_component.specs.World.{World, name_at}
use Rattle.sv_component.specs.Steps.{ComponentSteps}
use Rattle.sv_journal.specs.Journal.{JournalState}
use Rattle.sv_journal.specs.declared.entry.Entry.{Entry}
use Rattle.sv_run.specs.Lawful.{is_outcome}

servlet_silent : (context name : List ℕ) (call : Call) → is_outcome (servlet_entry context name call) ≡ false
servlet_silent context name (Inited config answer) = refl
servlet_silent context name (Serviced before turn step after) = refl
servlet_silent context name (Entered before gate after) = refl
servlet_silent context name (Left before done after) = refl
servlet_silent context name (Heard event) = refl
servlet_silent context name Destroyed = refl

filter_silent : (context name : List ℕ) (call : Call) → is_outcome (filter_entry context name call) ≡ false
filter_silent context name (Inited config answer) = refl
filter_silent context name (Serviced before turn step after) = refl
filter_silent context name (Entered before gate after) = refl
filter_silent context name (Left before done after) = refl
filter_silent context name (Heard event) = refl
filter_silent context name Destroyed = refl

module _ {S F L : Type 0} (world : World S F L) where
  -- calls and notifications are not outcomes
  pub record_silent : (made : Record) → is_outcome (record_entry world made) ≡ false
  record_silent (OfServlet place call) = servlet_silent world.context (name_at world.servlets place) call
  record_silent (OfFilter place call) = filter_silent world.context (name_at world.filters place) call
  record_silent (OfListener place event) = refl

  none_told : (made : List Record) → filter is_outcome (map (record_entry world) made) ≡ []
  none_told [] = refl
  none_told (first ∷ others) = rw (record_silent first) (none_told others)

-- a journal that is whole after a run has gained only the entries of the run, and so no outcome
pub record GainsSilently (before after : JournalState) : Type 0 where
  pub behind : List Entry
  pub are : after.entries ≡ before.entries ++ behind
  pub no_outcome : filter is_outcome behind ≡ []

module _ {S F L : Type 0} (moving : ComponentSteps S F L) (law : RunsAreJournalled moving) where
  pub run_is_silent : (from to : World S F L) (made : List Record) → IsRun moving from made to → to.journal.whole ≡ true
      → GainsSilently from.journal to.journal
  run_is_silent from to made runs whole =
      let gains = law from to made runs in
      let all : map (record_entry from) made ≡ gains.front = gains.are ∙ ap (λ rest. gains.front ++ rest) (gains.all whole).1 ∙ append-nil gains.front in
      record {
        behind = gains.front;
        are = gains.gained;
        no_outcome = subst (λ told. filter is_outcome told ≡ []) all (none_told from made);
      }

  run_of_none : (world : World S F L) → IsRun moving world [] world
  unfolding IsRun
  run_of_none world = refl

  pub growth_is_silent : (from to : World S F L) (records : List Record) → Runs moving from records to → to.journal.whole ≡ true
      → GainsSilently from.journal to.journal
  growth_is_silent from to records grows whole = run_is_silent from to ([] ++ records) (grows from [] (run_of_none from)) whole
