-- The changes that components make to the sessions at a time.
use Rattle.std.proofs.Common.{◌≡◌, ℕ, inl, inr, List, [], ◌∷◌, ◌++◌, refl, sym, ◌∙◌, ap, subst}
use Rattle.std.specs.List.{AllByRecursion}
use Rattle.sv_session.specs.Calls.{HoldsCaller}
use Rattle.sv_session.specs.Expiry.{HasNoneExpired}
use Rattle.sv_session.specs.Runs.{Call, EntersNone, IsOfComponent, MovedByComponents, left_after, left_by}
use Rattle.sv_session.specs.Store.{IsOrderly, Store}
use Rattle.sv_session.proofs.CallerLemmas.{call_enters}
use Rattle.sv_session.proofs.RunLemmas.{call_leaves_none, call_leaves_order}

pub left-append : (front back : List Call) (store : Store) → left_after (front ++ back) store ≡ left_after back (left_after front store)
left-append [] back store = refl
left-append (call ∷ front) back store = left-append front back (left_by call store)

all-append : (now : ℕ) (front back : List Call) → AllByRecursion (IsOfComponent now) front → AllByRecursion (IsOfComponent now) back
    → AllByRecursion (IsOfComponent now) (front ++ back)
all-append now [] back one two = two
all-append now (call ∷ front) back one two = (one.0, all-append now front back one.1 two)

pub moves_join : (now : ℕ) (before between after : Store)
    → MovedByComponents now before between → MovedByComponents now between after → MovedByComponents now before after
moves_join now before between after one two = (
  one.0 ++ two.0,
  all-append now one.0 two.0 one.1 two.1,
  two.2 ∙ ap (left_after two.0) one.2 ∙ sym (left-append one.0 two.0 before),
)

module _ (now : ℕ) where
  calls_leave_order : (calls : List Call) (store : Store) → IsOrderly store → IsOrderly (left_after calls store)
  calls_leave_order [] store orderly = orderly
  calls_leave_order (call ∷ calls) store orderly = calls_leave_order calls (left_by call store) (call_leaves_order call store orderly)

  calls_leave_none : (calls : List Call) (store : Store) → AllByRecursion (IsOfComponent now) calls → HasNoneExpired now store
      → HasNoneExpired now (left_after calls store)
  calls_leave_none [] store all none = none
  calls_leave_none (call ∷ calls) store all none = calls_leave_none calls (left_by call store) all.1 (call_leaves_none now call store all.0.0 none)

  calls_give_none : (number caller : ℕ) (calls : List Call) (store : Store) → AllByRecursion (IsOfComponent now) calls
      → HoldsCaller number caller (left_after calls store) → HoldsCaller number caller store
  calls_give_none number caller [] store all h = h
  calls_give_none number caller (call ∷ calls) store all h =
      elim (call_enters number caller call store (calls_give_none number caller calls (left_by call store) all.1 h)) [
        | inl was ↦ was
        | inr is ↦ absurd (subst EntersNone is all.0.1)
      ]

  pub moves_leave_order : (before after : Store) → MovedByComponents now before after → IsOrderly before → IsOrderly after
  moves_leave_order before after moved orderly = subst IsOrderly (sym moved.2) (calls_leave_order moved.0 before orderly)

  pub moves_leave_none : (before after : Store) → MovedByComponents now before after → HasNoneExpired now before → HasNoneExpired now after
  moves_leave_none before after moved none = subst (HasNoneExpired now) (sym moved.2) (calls_leave_none moved.0 before moved.1 none)

  pub moves_give_none : (before after : Store) → MovedByComponents now before after
      → (number caller : ℕ) → HoldsCaller number caller after → HoldsCaller number caller before
  moves_give_none before after moved number caller h =
      calls_give_none number caller moved.0 before moved.1 (subst (HoldsCaller number caller) moved.2 h)
