-- The slots without gaps, and one more session at their end.
use Rattle.std.proofs.Common.{◌≡◌, ℕ, suc, ◌+◌, ◌<◌, ◌≤◌, true, cond, inl, inr, List, [], ◌∷◌, ◌++◌, length, map, None, Some, refl, sym, ◌∙◌, ap, subst, arith}
use Rattle.std.specs.List.{AllByRecursion, filter}
use Rattle.std.specs.Str.{bytes_eq}
use Rattle.std.proofs.lemmas.Bool.{cases_Bool, cond-false, cond-true}
use Rattle.std.proofs.lemmas.List.{length_push}
use Rattle.sv_session.specs.declared.due.Due.{Due}
use Rattle.sv_session.specs.declared.ids.Ids.{Ids}
use Rattle.sv_session.specs.declared.slot.Slot.{Slot}
use Rattle.sv_session.specs.Ids.{IdsDiffer, IsGiven, NoneHas, number_in}
use Rattle.sv_session.specs.Order.{Waiting}
use Rattle.sv_session.specs.Restoring.{CanFollow, with_last}
use Rattle.sv_session.specs.Slots.{AreKept, SlotsRise, due_of, living, number_among}
use Rattle.sv_session.specs.Store.{Session, Store}
use Rattle.sv_session.proofs.KeptLemmas.{among_more, kept_gathered, kept_ids, living_filtered, living_more, none_found, slots_below, waits_more}
use Rattle.sv_session.proofs.LiveIdLemmas.{none_has_more}

abbrev pub without_gaps : List Slot → List Slot
without_gaps slots = filter (λ (s : Slot). s.live) slots

-- ---- no gaps
fewer_live : (slots : List Slot) → length (living slots) ≤ length slots
fewer_live [] = omega arith
fewer_live (x ∷ xs) = let more = fewer_live xs in elim (cases_Bool x.live) [
  | inl lives ↦ rw lives (omega (arith, more))
  | inr dead ↦ rw dead (omega (arith, more))
]

cons_live : (x : Slot) (xs : List Slot) → x.live ≡ true → without_gaps (x ∷ xs) ≡ x ∷ without_gaps xs
cons_live x xs lives = cond-true x.live (x ∷ without_gaps xs) (without_gaps xs) lives

pub all_live : (slots : List Slot) → length slots ≡ length (living slots) → slots ≡ without_gaps slots
all_live [] same = refl
all_live (x ∷ xs) same = elim (cases_Bool x.live) [
  | inl lives ↦
      let equal : suc (length xs) ≡ suc (length (living xs)) = rw lives at same in
      ap (λ rest. x ∷ rest) (all_live xs (omega (arith, equal))) ∙ sym (cons_live x xs lives)
  | inr dead ↦
      let equal : suc (length xs) ≡ length (living xs) = rw dead at same in
      absurd (omega (arith, equal, fewer_live xs))
]

length_living : (slots : List Slot) → length (living (without_gaps slots)) ≡ length (without_gaps slots)
length_living [] = refl
length_living (x ∷ xs) = elim (cases_Bool x.live) [
  | inl lives ↦
      let here : length (living (x ∷ without_gaps xs)) ≡ length (x ∷ without_gaps xs) = rw lives (ap suc (length_living xs)) in
      ap (λ all. length (living all)) (cons_live x xs lives) ∙ (here ∙ sym (ap length (cons_live x xs lives)))
  | inr dead ↦ rw dead (length_living xs)
]

-- ---- one more
rise_follow : (low high : ℕ) (slots : List Slot) (new : Slot) → AllByRecursion (λ (s : Session). s.number < new.kept.number) (living slots)
    → low < new.kept.number → new.kept.number ≤ high → SlotsRise low high slots → SlotsRise low high (without_gaps slots ++ new ∷ [])
rise_follow low high [] new all over under rise = (over, under)
rise_follow low high (x ∷ xs) new all over under rise = elim (cases_Bool x.live) [
  | inl lives ↦
      let both : AllByRecursion (λ (s : Session). s.number < new.kept.number) (x.kept ∷ living xs) = rw lives at all in
      rw lives (rise.0, rise_follow x.kept.number high xs new both.1 both.0 under rise.1)
  | inr dead ↦
      let rest : AllByRecursion (λ (s : Session). s.number < new.kept.number) (living xs) = rw dead at all in
      rw dead (rise_follow low high xs new rest over under (slots_below low x.kept.number high xs (omega (arith, rise.0)) rise.1))
]

differ_follow : (bound : ℕ) (sessions : List Session) (new : Session) → IsGiven bound new.id → NoneHas new.id sessions → IdsDiffer bound sessions
    → IdsDiffer bound (sessions ++ new ∷ [])
differ_follow bound [] new given none differ = (given, tt, tt)
differ_follow bound (x ∷ xs) new given none differ =
    (differ.0, none_has_more x.id xs new differ.1 (λ same. none.0 (sym same)), differ_follow bound xs new given none.1 differ.2)

-- ---- the stored sessions
module _ (limit interval serial count : ℕ) (slots : List Slot) (ids : Ids) (queue : Waiting) (store : Store)
    (view : record { limit = limit; interval = interval; serial = serial; sessions = living slots } ≡ store) (kept : AreKept serial count slots ids queue)
    (session : Session) (follows : CanFollow store session) (closed : List Slot) (is_closed : closed ≡ without_gaps slots) (waiting : Waiting)
    (waits : waiting ≡ map due_of (without_gaps slots)) where
  seen : CanFollow (record { limit = limit; interval = interval; serial = serial; sessions = living slots }) session
  seen = subst (λ (s : Store). CanFollow s session) (sym view) follows

  -- Only the gaps are gone.
  pub closed_kept : AreKept serial count closed ids waiting
  closed_kept = kept_gathered serial count slots closed ids queue waiting kept is_closed waits

  pub same_kept : (others : Ids) → ((other : List ℕ) → number_in others other ≡ number_in ids other) → AreKept serial count closed others waiting
  same_kept others same = kept_ids serial count closed ids others waiting closed_kept same

  pub closed_store : record { limit = limit; interval = interval; serial = serial; sessions = living closed } ≡ store
  closed_store = ap (λ all. record { limit = limit; interval = interval; serial = serial; sessions = all }) (ap living is_closed ∙ living_filtered slots) ∙ view

  module _ (entered : Ids) (id : List ℕ) (number : ℕ) (is_id : id ≡ session.id) (is_number : number ≡ session.number)
      (enters : (other : List ℕ) → number_in entered other ≡ cond (bytes_eq id other) (Some number) (number_in ids other)) where
    came : (other : List ℕ) → number_in entered other ≡ cond (bytes_eq session.id other) (Some session.number) (number_in ids other)
    came other =
        enters other ∙ (ap (λ bs. cond (bytes_eq bs other) (Some number) (number_in ids other)) is_id
        ∙ ap (λ n. cond (bytes_eq session.id other) (Some n) (number_in ids other)) is_number)

    -- The id of a session that could not be added is removed again.
    pub put_back : (grown : List Slot) → grown ≡ closed → (left : Ids) (gone : List ℕ) → gone ≡ session.id
        → ((other : List ℕ) → number_in left other ≡ cond (bytes_eq gone other) None (number_in entered other))
        → (after : Waiting) → after ≡ waiting → AreKept serial count grown left after
    put_back grown same left gone is_gone leaves after still =
        subst (λ all. AreKept serial count all left after) (sym same)
        (subst (λ w. AreKept serial count closed left w) (sym still) (same_kept left back))
      where
        went : (other : List ℕ) → number_in left other ≡ cond (bytes_eq session.id other) None (number_in entered other)
        went other = leaves other ∙ ap (λ bs. cond (bytes_eq bs other) None (number_in entered other)) is_gone

        back : (other : List ℕ) → number_in left other ≡ number_in ids other
        back other = elim (cases_Bool (bytes_eq session.id other)) [
          | inl has ↦ went other ∙ (cond-true (bytes_eq session.id other) None (number_in entered other) has
              ∙ (sym (none_found session.id other (living slots) seen.differs has) ∙ sym (kept.named other)))
          | inr differs ↦ went other ∙ (cond-false (bytes_eq session.id other) None (number_in entered other) differs
              ∙ (came other ∙ cond-false (bytes_eq session.id other) (Some session.number) (number_in ids other) differs))
        ]

    abbrev last : Slot
    last = record { live = true; kept = session }

    living_last : living (without_gaps slots ++ last ∷ []) ≡ living slots ++ session ∷ []
    living_last = living_more (without_gaps slots) session ∙ ap (λ all. all ++ session ∷ []) (living_filtered slots)

    more_kept : (after : Waiting) → after ≡ waiting ++ Some (record { last_access = session.last_access; number = session.number }) ∷ []
        → AreKept serial (length (without_gaps slots ++ last ∷ [])) (without_gaps slots ++ last ∷ []) entered after
    more_kept after grows = record {
      fits = kept.fits;
      rise = rise_follow 0 serial slots last seen.above seen.positive seen.used kept.rise;
      differ = subst (IdsDiffer serial) (sym living_last) (differ_follow serial (living slots) session seen.given seen.differs kept.differ);
      named = λ other. came other ∙ (ap (cond (bytes_eq session.id other) (Some session.number)) (kept.named other)
          ∙ (among_more session (living slots) other seen.differs ∙ ap (λ all. number_among all other) (sym living_last)));
      wait = grows ∙ (ap (λ places. places ++ Some (record { last_access = session.last_access; number = session.number }) ∷ []) waits
          ∙ sym (waits_more (without_gaps slots) last));
      counted = length_push (without_gaps slots) last ∙ (ap (λ n. n + 1) (sym (length_living slots))
          ∙ (sym (length_push (living (without_gaps slots)) session) ∙ ap length (sym (living_more (without_gaps slots) session))));
    }

    pub appended : (grown items : List Slot) → grown ≡ closed → items ≡ grown ++ last ∷ []
        → (due : Due) → due ≡ record { last_access = session.last_access; number = session.number }
        → (after : Waiting) → after ≡ waiting ++ Some due ∷ [] → (n : ℕ) → n ≡ length items → AreKept serial n items entered after
    appended grown items same more due is_due after grows n counts =
        subst (λ m. AreKept serial m items entered after) (sym counts)
        (subst (λ all. AreKept serial (length all) all entered after) (sym (more ∙ ap (λ all. all ++ last ∷ []) (same ∙ is_closed)))
        (more_kept after (grows ∙ ap (λ d. waiting ++ Some d ∷ []) is_due)))

  pub appended_store : (grown items : List Slot) → grown ≡ closed → items ≡ grown ++ record { live = true; kept = session } ∷ []
      → record { limit = limit; interval = interval; serial = serial; sessions = living items } ≡ with_last session store
  appended_store grown items same more =
      ap (λ all. record { limit = limit; interval = interval; serial = serial; sessions = living all }) (more ∙ ap (λ all. all ++ record { live = true; kept = session } ∷ []) (same ∙ is_closed))
      ∙ (ap (λ all. record { limit = limit; interval = interval; serial = serial; sessions = all }) (living_more (without_gaps slots) session ∙ ap (λ all. all ++ session ∷ []) (living_filtered slots))
      ∙ ap (with_last session) view)
