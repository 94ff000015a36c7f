-- A call of a named component and its journal entry form one record.
use Rattle.std.proofs.Common.{◌≡◌, ℕ, ◌<◌, List, [], length, get_or, set, Option, refl, sym, ◌∙◌, ap, subst}
use Rattle.std.specs.Prelude.{unwrap_or}
use Rattle.std.specs.Option.{option_map}
use Rattle.std.proofs.lemmas.Option.{slice_get-get_or}
use Rattle.sv_component.specs.Call.{Call}
use Rattle.sv_component.specs.Noted.{filter_entry, servlet_entry}
use Rattle.sv_component.specs.Runs.{Moves, MovesAt, NamedStep, OfFilter, OfServlet, Record}
use Rattle.sv_component.specs.World.{World, name_at}
use Rattle.sv_component.specs.declared.components.Named.{Named}
use Rattle.sv_component.specs.Steps.{ComponentSteps}
use Rattle.sv_journal.specs.Journal.{JournalState, Takes}

-- The component's new state, under the same name.
abbrev pub renewed : {C : Type 0} → Named C → C → Named C
renewed old moved = record { name = old.name; component = moved }

moves_named : {C : Type 0} (step : C → Call → C → Type 0) (before : List (Named C)) (place : ℕ) (call : Call) (old : Named C) (moved : C)
    → place < length before → old ≡ get_or before place old → step old.component call moved
    → MovesAt (NamedStep step) before place call (set before place (renewed old moved))
moves_named step before place call its_old its_moved is_there is_it its_steps = record {
  old = its_old;
  moved = renewed its_old its_moved;
  there = is_there;
  is_old = is_it;
  steps = record { steps = its_steps; name = refl };
  is = refl;
}

name_of : {C : Type 0} → Option (Named C) → List ℕ
name_of found = unwrap_or (option_map (λ named. named.name) found) []

named_at : {C : Type 0} (before : List (Named C)) (place : ℕ) (old : Named C) (text : List ℕ) → place < length before → old ≡ get_or before place old → text ≡ old.name
    → text ≡ name_at before place
unfolding name_of
named_at before place old text there is_old named =
    named ∙ ap (λ n. n.name) is_old ∙ sym (ap name_of (slice_get-get_or before place old there))

module _ {S F L : Type 0} (moving : ComponentSteps S F L) where
  pub moves_servlet : (before : World S F L) (place : ℕ) (call : Call) (old : Named S) (moved : S) (text : List ℕ) (noted : JournalState)
      → place < length before.servlets → old ≡ get_or before.servlets place old → moving.servlet old.component call moved → text ≡ old.name
      → Takes before.journal (servlet_entry before.context text call) noted
      → Moves moving before (OfServlet place call) (record before { servlets = set before.servlets place (renewed old moved); journal = noted })
  moves_servlet before place call old moved text noted there is_old steps named takes = record {
    component = (moves_named moving.servlet before.servlets place call old moved there is_old steps, refl, refl);
    journal = subst (λ name. Takes before.journal (servlet_entry before.context name call) noted) (named_at before.servlets place old text there is_old named) takes;
    context = refl;
  }

  pub moves_filter : (before : World S F L) (place : ℕ) (call : Call) (old : Named F) (moved : F) (text : List ℕ) (noted : JournalState)
      → place < length before.filters → old ≡ get_or before.filters place old → moving.filter old.component call moved → text ≡ old.name
      → Takes before.journal (filter_entry before.context text call) noted
      → Moves moving before (OfFilter place call) (record before { filters = set before.filters place (renewed old moved); journal = noted })
  moves_filter before place call old moved text noted there is_old steps named takes = record {
    component = (moves_named moving.filter before.filters place call old moved there is_old steps, refl, refl);
    journal = subst (λ name. Takes before.journal (filter_entry before.context name call) noted) (named_at before.filters place old text there is_old named) takes;
    context = refl;
  }

  -- Equal records make the same move.
  pub moves_same : (before after : World S F L) (made other : Record) → made ≡ other → Moves moving before other after → Moves moving before made after
  moves_same before after made other same moves = subst (λ record_made. Moves moving before record_made after) (sym same) moves
