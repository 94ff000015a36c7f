-- The same run with two different journals.
use Rattle.std.proofs.Common.{◌≡◌, ◌⊎◌, Bool, true, false, inl, inr, List, [], ◌∷◌, refl, sym, ap, ap₂, ◌∙◌, subst, append_assoc, append-nil}
use Rattle.std.specs.Prelude.{cond}
use Rattle.sv_component.specs.Runs.{IsRun, Moves, OfFilter, OfListener, OfServlet, Record, record_entry}
use Rattle.sv_component.specs.World.{World}
use Rattle.sv_component.specs.Steps.{ComponentSteps}
use Rattle.sv_journal.specs.Journal.{JournalState, Takes, broken, with_entry}
use Rattle.sv_journal.specs.declared.entry.Entry.{Entry}
use Rattle.sv_run.specs.Effect.{noting}
use Rattle.sv_context.specs.Conduct.{unnoted}

-- The components with another journal.
abbrev pub over : {S F L : Type 0} → JournalState → World S F L → World S F L
over journal world = record world { journal = journal }

-- A whole journal takes the entry.
pub takes_whole : (journal : JournalState) (entry : Entry) → journal.whole ≡ true → Takes journal entry (with_entry entry journal)
takes_whole journal entry is_whole =
    subst (λ test. cond test ((with_entry entry journal ≡ with_entry entry journal) ⊎ (with_entry entry journal ≡ broken journal)) (with_entry entry journal ≡ journal))
    (sym is_whole) (inl refl)

-- A journal that is whole after an entry was whole before it, and contains it.
pub taken : (before after : JournalState) (entry : Entry) (test : Bool) → before.whole ≡ test → cond test ((after ≡ with_entry entry before) ⊎ (after ≡ broken before)) (after ≡ before)
    → after.whole ≡ true → after ≡ with_entry entry before
taken before after entry true is (inl took) is_whole = took
taken before after entry true is (inr broke) is_whole = let no : false ≡ true = sym (ap (λ j. j.whole) broke) ∙ is_whole in cc
taken before after entry false is same is_whole = let no : false ≡ true = sym is ∙ (sym (ap (λ j. j.whole) same) ∙ is_whole) in cc

-- Logging one more entry, ahead of a list.
pub noting_more : (entry : Entry) (entries : List Entry) (journal : JournalState) → noting entries (with_entry entry journal) ≡ noting (entry ∷ entries) journal
noting_more entry entries journal =
    ap (λ (all : List Entry). record { entries = all; whole = journal.whole }) (append_assoc journal.entries (entry ∷ []) entries)

module _ {S F L : Type 0} (moving : ComponentSteps S F L) where
  -- The entry of a record does not depend on the journal.
  same_entry : (world : World S F L) (journal : JournalState) (made : Record) → record_entry (over journal world) made ≡ record_entry world made
  same_entry world journal (OfServlet place call) = refl
  same_entry world journal (OfFilter place call) = refl
  same_entry world journal (OfListener place event) = refl

  moves_over : (before after : World S F L) (made : Record) (journal journal' : JournalState) → Moves moving before made after
      → Takes journal (record_entry before made) journal' → Moves moving (over journal before) made (over journal' after)
  moves_over before after (OfServlet place call) journal journal' moves takes = record { component = moves.component; journal = takes; context = moves.context }
  moves_over before after (OfFilter place call) journal journal' moves takes = record { component = moves.component; journal = takes; context = moves.context }
  moves_over before after (OfListener place event) journal journal' moves takes = record { component = moves.component; journal = takes; context = moves.context }

  -- The entries that a run logs if its journal stays whole. The run logs the same in any whole journal.
  pub record NotesSo (before : World S F L) (records : List Record) (after : World S F L) : Type 0 where
    pub entries : List Entry
    pub journal : after.journal.whole ≡ true → after.journal ≡ noting entries before.journal
    pub elsewhere : (journal : JournalState) → journal.whole ≡ true → IsRun moving (over journal before) records (over (noting entries journal) after)

  none_noted : (before after : World S F L) → after ≡ before → NotesSo before [] after
  unfolding IsRun
  none_noted before after same = record {
    entries = [];
    journal = λ is_whole. ap (λ w. w.journal) same ∙ sym (nothing_noted before.journal);
    elsewhere = λ journal is_whole. ap₂ over (nothing_noted journal) same;
  }
    where
      nothing_noted : (journal : JournalState) → noting [] journal ≡ journal
      nothing_noted journal = ap (λ (all : List Entry). record { entries = all; whole = journal.whole }) (append-nil journal.entries)

  one_noted : (before middle after : World S F L) (made : Record) (others : List Record) → Moves moving before made middle
      → NotesSo middle others after → NotesSo before (made ∷ others) after
  unfolding IsRun
  one_noted before middle after made others moves rest =
      let entry = record_entry before made in
      record {
        entries = entry ∷ rest.entries;
        journal = λ is_whole.
            let whole_then : middle.journal.whole ≡ true = sym (ap (λ j. j.whole) (rest.journal is_whole)) ∙ is_whole in
            let took = taken before.journal middle.journal entry before.journal.whole refl moves.journal whole_then in
            rest.journal is_whole ∙ (ap (noting rest.entries) took ∙ noting_more entry rest.entries before.journal);
        elsewhere = λ journal is_whole. (
          over (with_entry entry journal) middle,
          moves_over before middle made journal (with_entry entry journal) moves (takes_whole journal entry is_whole),
          subst (λ its_journal. IsRun moving (over (with_entry entry journal) middle) others (over its_journal after)) (noting_more entry rest.entries journal)
              (rest.elsewhere (with_entry entry journal) is_whole),
        );
      }

  pub runs_note : (before : World S F L) (records : List Record) (after : World S F L) → IsRun moving before records after → NotesSo before records after
  unfolding IsRun
  runs_note before [] after ran = none_noted before after ran
  runs_note before (made ∷ others) after ran = one_noted before ran.0 after made others ran.1 (runs_note ran.0 others after ran.2)

  -- The same run with a journal that records nothing.
  pub runs_unnoted : (before : World S F L) (records : List Record) (after : World S F L) → IsRun moving before records after
      → IsRun moving (over unnoted before) records (over unnoted after)
  unfolding IsRun
  runs_unnoted before [] after ran = ap (over unnoted) ran
  runs_unnoted before (made ∷ others) after ran = (
    over unnoted ran.0,
    moves_over before ran.0 made unnoted unnoted ran.1 refl,
    runs_unnoted ran.0 others after ran.2,
  )
