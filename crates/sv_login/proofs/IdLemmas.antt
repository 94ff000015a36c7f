-- The id of a login differs from all ids that the context gave before.
use Rattle.std.proofs.Common.{◌≡◌, ◌≢◌, ℕ, zero, suc, ◌+◌, ◌<◌, ◌==◌, false, not, inl, inr, List, [], ◌∷◌, ◌++◌, length, get_or, Option, Some, None, refl, sym, ◌∙◌, ap, subst, append_assoc, length-append, arith}
use Rattle.std.specs.List.{All, AllPairs}
use Rattle.std.specs.Option.{option_map_or}
use Rattle.std.proofs.lemmas.Bool.{cases_Bool, eqb-true, true≢false}
use Rattle.sv_session.specs.declared.session_fault.SessionFault.{SessionFault}
use Rattle.sv_session.specs.Calls.{opening_faults, renaming_faults}
use Rattle.sv_session.specs.Id.{id_text}
use Rattle.sv_session.specs.Laws.{CallsLeaveOrder, NoIdIsGivenTwice}
use Rattle.sv_session.specs.Runs.{Call, Open, Rename, id_given, ids_given, left_after, left_by, unless}
use Rattle.sv_session.specs.Store.{IsOrderly, Store, empty_store}
use Rattle.sv_login.specs.Login.{has_no_session}
use Rattle.sv_login.specs.Session.{living}

-- ---- The last item of a list.
front_at : (xs : List (List ℕ)) (y : List ℕ) (k : ℕ) (d : List ℕ) → k < length xs → get_or (xs ++ y ∷ []) k d ≡ get_or xs k d
front_at [] y k d within = absurd (omega arith)
front_at (x ∷ xs) y zero d within = refl
front_at (x ∷ xs) y (suc k) d within = front_at xs y k d (omega (arith, within))

last_at : (xs : List (List ℕ)) (y : List ℕ) (d : List ℕ) → get_or (xs ++ y ∷ []) (length xs) d ≡ y
last_at [] y d = refl
last_at (x ∷ xs) y d = last_at xs y d

last_differs : (ids : List (List ℕ)) (id : List ℕ) → AllPairs (λ a b. a ≢ b) (ids ++ id ∷ []) → All (λ earlier. earlier ≢ id) ids
last_differs ids id pairs k d within = λ same.
    pairs k (length ids) d within (omega (arith, length-append ids (id ∷ []))) (front_at ids id k d within ∙ same ∙ sym (last_at ids id d))

-- ---- One more call.
given_last : (calls : List Call) (call : Call) (id : List ℕ) (store : Store) → id_given call (left_after calls store) ≡ id ∷ []
    → ids_given (calls ++ call ∷ []) store ≡ ids_given calls store ++ id ∷ []
given_last [] call id store gives = ap (λ (ids : List (List ℕ)). ids ++ []) gives
given_last (first ∷ calls) call id store gives =
    ap (λ (ids : List (List ℕ)). id_given first store ++ ids) (given_last calls call id (left_by first store) gives)
    ∙ sym (append_assoc (id_given first store) (ids_given calls (left_by first store)) (id ∷ []))

pub orderly_after : CallsLeaveOrder → (calls : List Call) (store : Store) → IsOrderly store → IsOrderly (left_after calls store)
orderly_after order [] store orderly = orderly
orderly_after order (call ∷ calls) store orderly = orderly_after order calls (left_by call store) (order call store orderly)

-- ---- The call that gives a login its id.
none_faults : (faults : List SessionFault) → not (length faults == 0) ≡ false → faults ≡ []
none_faults [] none = refl
none_faults (fault ∷ faults) none = elim (cases_Bool (length (fault ∷ faults) == 0)) [
  | inl empty ↦ absurd (omega (arith, eqb-true (length (fault ∷ faults)) 0 empty))
  | inr other ↦ absurd (true≢false (rw other at none))
]

module _ (held : Option ℕ) (words : ℕ × ℕ) (now : ℕ) (store : Store) where
  gives_by_living : (found : Option ℕ)
      → not (length (option_map_or (λ number. renaming_faults number store) found (opening_faults store)) == 0) ≡ false
      → (call : Call) × (id_given call store ≡ id_text words (store.serial + 1) ∷ [])
  gives_by_living None free = (Open words now, ap (λ faults. unless faults (id_text words (store.serial + 1) ∷ []) []) (none_faults (opening_faults store) free))
  gives_by_living (Some number) free = (Rename number words, ap (λ faults. unless faults (id_text words (store.serial + 1) ∷ []) []) (none_faults (renaming_faults number store) free))

  gives : has_no_session held store ≡ false → (call : Call) × (id_given call store ≡ id_text words (store.serial + 1) ∷ [])
  gives free = gives_by_living (living held store) free

pub is_new : NoIdIsGivenTwice → (limit interval : ℕ) (calls : List Call) (held : Option ℕ) (words : ℕ × ℕ) (now : ℕ)
    → has_no_session held (left_after calls (empty_store limit interval)) ≡ false
    → All (λ earlier. earlier ≢ id_text words ((left_after calls (empty_store limit interval)).serial + 1)) (ids_given calls (empty_store limit interval))
is_new once limit interval calls held words now free =
    let store = left_after calls (empty_store limit interval) in
    let id = id_text words (store.serial + 1) in
    let call = gives held words now store free in
    last_differs (ids_given calls (empty_store limit interval)) id
    (subst (AllPairs (λ a b. a ≢ b)) (given_last calls call.0 id (empty_store limit interval) call.1) (once limit interval (calls ++ call.0 ∷ [])))
