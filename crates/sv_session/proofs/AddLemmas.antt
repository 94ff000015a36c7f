-- The sessions after one is added.
use Rattle.std.proofs.Common.{◌≡◌, ℕ, ◌+◌, ◌<◌, ◌≤◌, true, cond, inl, inr, List, [], ◌∷◌, ◌++◌, length, None, Some, sym, ◌∙◌, ap, subst, leb, arith}
use Rattle.std.specs.Str.{bytes_eq}
use Rattle.std.proofs.lemmas.Bool.{cases_Bool, leb-false}
use Rattle.sv_session.specs.declared.due.Due.{Due}
use Rattle.sv_session.specs.Order.{Waiting}
use Rattle.sv_session.specs.declared.ids.Ids.{Ids}
use Rattle.sv_session.specs.declared.slot.Slot.{Slot}
use Rattle.sv_session.specs.declared.limits.TheConstants.{GREATEST_SERIAL}
use Rattle.sv_text.specs.Faults.{when}
use Rattle.sv_session.specs.declared.session_fault.SessionFault.TheVariants.{SerialSpent, TooMany}
use Rattle.sv_session.specs.Calls.{is_spent, opening_faults, session_opened}
use Rattle.sv_session.specs.Id.{id_text}
use Rattle.sv_session.specs.Ids.{number_in}
use Rattle.sv_session.specs.Slots.{AreKept, living}
use Rattle.sv_session.specs.Store.{Session, Store}
use Rattle.sv_session.proofs.IdLemmas.{nothing_behind, rises_unspent}
use Rattle.sv_session.proofs.KeptLemmas.{kept_back, kept_ids, kept_more, living_more}

pub room_below : (store : Store) → opening_faults store ≡ [] → length store.sessions < store.limit
room_below store none = elim (cases_Bool (leb store.limit (length store.sessions))) [
  | inr room ↦ leb-false store.limit (length store.sessions) room
  | inl full ↦ let wrong = rw full at none in absurd (cc)
]

pub serial_below : (store : Store) → store.serial ≤ GREATEST_SERIAL → opening_faults store ≡ [] → store.serial + 1 ≤ GREATEST_SERIAL
serial_below store fits none =
    (rises_unspent store.serial fits (nothing_behind (when (leb store.limit (length store.sessions)) TooMany) (is_spent store) SerialSpent none)).0

module _ (limit interval serial count : ℕ) (slots : List Slot) (ids : Ids) (queue : Waiting) (store : Store)
    (view : record { limit = limit; interval = interval; serial = serial; sessions = living slots } ≡ store) (kept : AreKept serial count slots ids queue)
    (words : ℕ × ℕ) (now : ℕ) (session : Session) (opens : session ≡ session_opened words (store.serial + 1) now) (none : opening_faults store ≡ []) where
  is : session ≡ session_opened words (serial + 1) now
  is = opens ∙ ap (λ (s : Store). session_opened words (s.serial + 1) now) (sym view)

  none_seen : opening_faults (record { limit = limit; interval = interval; serial = serial; sessions = living slots }) ≡ []
  none_seen = subst (λ s. opening_faults s ≡ []) (sym view) none

  small : serial + 1 ≤ GREATEST_SERIAL
  small = serial_below (record { limit = limit; interval = interval; serial = serial; sessions = living slots }) kept.fits none_seen

  pub count_below : count < limit
  count_below =
      let room = room_below (record { limit = limit; interval = interval; serial = serial; sessions = living slots }) none_seen in omega (arith, room, kept.counted)

  module _ (entered : Ids) (id : List ℕ) (number : ℕ) (is_id : id ≡ session.id) (is_number : number ≡ session.number)
      (enters : (other : List ℕ) → number_in entered other ≡ cond (bytes_eq id other) (Some number) (number_in ids other)) where
    came : (other : List ℕ) → number_in entered other ≡ cond (bytes_eq (id_text words (serial + 1)) other) (Some (serial + 1)) (number_in ids other)
    came other =
        enters other ∙ (ap (λ bs. cond (bytes_eq bs other) (Some number) (number_in ids other)) (is_id ∙ ap (λ (s : Session). s.id) is)
        ∙ ap (λ n. cond (bytes_eq (id_text words (serial + 1)) other) (Some n) (number_in ids other)) (is_number ∙ ap (λ (s : Session). s.number) is))

    pub added : (grown items : List Slot) → grown ≡ slots → items ≡ grown ++ record { live = true; kept = session } ∷ []
        → (due : Due) → due ≡ record { last_access = session.last_access; number = session.number }
        → (after : Waiting) → after ≡ queue ++ Some due ∷ [] → AreKept (serial + 1) (count + 1) items entered after
    added grown items same more due is_due after waits =
        subst (λ all. AreKept (serial + 1) (count + 1) all entered after)
        (sym (more ∙ (ap (λ all. all ++ record { live = true; kept = session } ∷ []) same ∙ ap (λ s. slots ++ record { live = true; kept = s } ∷ []) is)))
        (kept_more serial count slots ids queue kept words now small entered came after
        (waits ∙ ap (λ d. queue ++ Some d ∷ [])
        (is_due ∙ ap (λ (s : Session). record { last_access = s.last_access; number = s.number }) is)))

    pub put_back : (grown : List Slot) → grown ≡ slots → (left : Ids) (gone : List ℕ) → gone ≡ session.id
        → ((other : List ℕ) → number_in left other ≡ cond (bytes_eq gone other) None (number_in entered other))
        → (after : Waiting) → after ≡ queue → AreKept serial count grown left after
    put_back grown same left gone is_gone leaves after waits =
        subst (λ all. AreKept serial count all left after) (sym same)
        (subst (λ w. AreKept serial count slots left w) (sym waits)
        (kept_ids serial count slots ids left queue kept
        (kept_back serial count slots ids queue kept words now small entered left came
        (λ other. leaves other ∙ ap (λ bs. cond (bytes_eq bs other) None (number_in entered other)) (is_gone ∙ ap (λ (s : Session). s.id) is)))))

  pub added_store : (grown items : List Slot) → grown ≡ slots → items ≡ grown ++ record { live = true; kept = session } ∷ []
      → record { limit = limit; interval = interval; serial = serial + 1; sessions = living items }
      ≡ record store { serial = store.serial + 1; sessions = store.sessions ++ session ∷ [] }
  added_store grown items same more =
      ap (λ all. record { limit = limit; interval = interval; serial = serial + 1; sessions = living all }) (more ∙ ap (λ all. all ++ record { live = true; kept = session } ∷ []) same)
      ∙ (ap (λ all. record { limit = limit; interval = interval; serial = serial + 1; sessions = all }) (living_more slots session)
      ∙ ap (λ (s : Store). record s { serial = s.serial + 1; sessions = s.sessions ++ session ∷ [] }) view)
