-- The entries that a journal gains from one record and from a run.
use Rattle.std.proofs.Common.{◌≡◌, Bool, true, false, ◌⊎◌, inl, inr, List, [], ◌∷◌, ◌++◌, map, refl, sym, ◌∙◌, ap, subst}
use Rattle.std.specs.Prelude.{cond}
use Rattle.std.proofs.lemmas.Bool.{cases_Bool}
use Rattle.std.proofs.lemmas.List.{append_assoc, append-nil}
use Rattle.sv_component.specs.Runs.{IsRun, Moves, Record, record_entry}
use Rattle.sv_component.specs.World.{World}
use Rattle.sv_component.proofs.Moving.{same_entries}
use Rattle.sv_component.specs.Steps.{ComponentSteps}
use Rattle.sv_journal.specs.Journal.{Gains, JournalState, Takes, broken, with_entry}
use Rattle.sv_journal.specs.declared.entry.Entry.{Entry}

true_or_false : (b : Bool) {P : Type 0} → b ≡ true → b ≡ false → P
true_or_false b is_true is_false = absurd (cc)

gains_none : (journal : JournalState) → Gains journal [] journal
gains_none journal = record { front = []; rest = []; are = refl; gained = sym (append-nil journal.entries); all = λ whole. (whole, refl); none = λ _. refl }

-- The entries gained if this entry was recorded.
gains_noted : (before middle after : JournalState) (entry : Entry) (entries : List Entry) → before.whole ≡ true → middle ≡ with_entry entry before
    → Gains middle entries after → Gains before (entry ∷ entries) after
gains_noted before middle after entry entries whole is gains = record {
  front = entry ∷ gains.front;
  rest = gains.rest;
  are = ap (λ rest. entry ∷ rest) gains.are;
  gained = gains.gained ∙ ap (λ j. j.entries ++ gains.front) is ∙ append_assoc before.entries (entry ∷ []) gains.front;
  all = λ after_whole. (whole, (gains.all after_whole).1);
  none = λ not_whole. true_or_false before.whole whole not_whole;
}

-- The entries gained if the journal breaks without recording this entry.
gains_broken : (before middle after : JournalState) (entry : Entry) (entries : List Entry) → middle.entries ≡ before.entries → middle.whole ≡ false
    → Gains middle entries after → Gains before (entry ∷ entries) after
gains_broken before middle after entry entries same not_whole gains = record {
  front = [];
  rest = entry ∷ entries;
  are = refl;
  gained = gains.gained ∙ ap (λ front. middle.entries ++ front) (gains.none not_whole) ∙ ap (λ all. all ++ []) same;
  all = λ after_whole. true_or_false middle.whole (gains.all after_whole).0 not_whole;
  none = λ _. refl;
}

pub gains_one : (before middle after : JournalState) (entry : Entry) (entries : List Entry) → Takes before entry middle → Gains middle entries after
    → Gains before (entry ∷ entries) after
gains_one before middle after entry entries takes gains = elim (cases_Bool before.whole) [
  | inl whole ↦ elim (subst (λ b. cond b ((middle ≡ with_entry entry before) ⊎ (middle ≡ broken before)) (middle ≡ before)) whole takes) [
    | inl noted ↦ gains_noted before middle after entry entries whole noted gains
    | inr breaks ↦ gains_broken before middle after entry entries (ap (λ j. j.entries) breaks) (ap (λ j. j.whole) breaks) gains
  ]
  | inr not_whole ↦
      let same : middle ≡ before = subst (λ b. cond b ((middle ≡ with_entry entry before) ⊎ (middle ≡ broken before)) (middle ≡ before)) not_whole takes in
      gains_broken before middle after entry entries (ap (λ j. j.entries) same) (ap (λ j. j.whole) same ∙ not_whole) gains
]

module _ {S F L : Type 0} (moving : ComponentSteps S F L) where
  pub run_gains : (from to : World S F L) (records : List Record) → IsRun moving from records to → Gains from.journal (map (record_entry from) records) to.journal
  unfolding IsRun
  run_gains from to [] ran = subst (λ w. Gains from.journal [] w.journal) (sym ran) (gains_none from.journal)
  run_gains from to (made ∷ others) ran =
      let moves : Moves moving from made ran.0 = ran.1 in
      gains_one from.journal ran.0.journal to.journal (record_entry from made) (map (record_entry from) others) moves.journal
      (subst (λ entries. Gains ran.0.journal entries to.journal) (same_entries moving from made ran.0 moves others) (run_gains ran.0 to others ran.2))
