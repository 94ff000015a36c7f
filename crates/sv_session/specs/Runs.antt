-- Jakarta Servlet 6.0, chapter 7: the effect of successive calls, and the ids that they give.
use Rattle.std.specs.Prelude.{◌≡◌, ℕ, ◌+◌, List, [], ◌∷◌, ◌++◌, Option, Some, None}
use Rattle.std.specs.List.{AllByRecursion}
use Rattle.sv_session.specs.declared.ended_sessions.EndedSession.{EndedSession}
use Rattle.sv_session.specs.declared.session_fault.SessionFault.{SessionFault}
use Rattle.sv_session.specs.Calls.{expiring, left_by_expiry, opened, opening_faults, renamed, renaming_faults, setting_faults, touched, with_attribute, with_caller, with_saved, without, without_attribute}
use Rattle.sv_session.specs.Id.{id_text}
use Rattle.sv_session.specs.Store.{Store}

-- A call that may change the sessions, with its arguments.
pub data Call : Type 0 where
  Open : ℕ × ℕ → ℕ → Call
  Touch : ℕ → ℕ → Call
  Expire : ℕ → Call
  End : ℕ → Call
  Rename : ℕ → ℕ × ℕ → Call
  EnterCaller : ℕ → Option ℕ → Call
  Save : ℕ → List ℕ → Call
  TakeSaved : ℕ → Call
  Set : ℕ → List ℕ → List ℕ → Call
  Remove : ℕ → List ℕ → Call

-- The first alternative if there is no fault, else the second.
abbrev pub unless : {A : Type 0} → List SessionFault → A → A → A
unless [] done refused = done
unless (fault ∷ faults) done refused = refused

-- The sessions after a call, provided that memory does not run out.
abbrev pub left_by : Call → Store → Store
left_by (Open words now) store = unless (opening_faults store) (opened words now store) store
left_by (Touch number now) store = touched number now store
left_by (Expire now) store = left_by_expiry now store
left_by (End number) store = without number store
left_by (Rename number words) store = unless (renaming_faults number store) (renamed number words store) store
left_by (EnterCaller number caller) store = with_caller number caller store
left_by (Save number target) store = with_saved number (Some target) store
left_by (TakeSaved number) store = with_saved number None store
left_by (Set number name value) store = unless (setting_faults number name value store) (with_attribute number name value store) store
left_by (Remove number name) store = without_attribute number name store

-- The sessions after successive calls.
abbrev pub left_after : List Call → Store → Store
left_after [] store = store
left_after (call ∷ calls) store = left_after calls (left_by call store)

-- Only calls change the sessions.
abbrev pub ChangedByCalls : Store → Store → Type 0
ChangedByCalls before after = (calls : List Call) × (after ≡ left_after calls before)

-- The id that a call gives, if any.
abbrev pub id_given : Call → Store → List (List ℕ)
id_given (Open words now) store = unless (opening_faults store) (id_text words (store.serial + 1) ∷ []) []
id_given (Rename number words) store = unless (renaming_faults number store) (id_text words (store.serial + 1) ∷ []) []
id_given call store = []

-- The ids that successive calls give.
abbrev pub ids_given : List Call → Store → List (List ℕ)
ids_given [] store = []
ids_given (call ∷ calls) store = id_given call store ++ ids_given calls (left_by call store)

-- The call opens or accesses a session at this time, or does neither.
abbrev pub IsAt : ℕ → Call → Type 0
IsAt now (Open words moment) = moment ≡ now
IsAt now (Touch number moment) = moment ≡ now
IsAt now call = Unit {0}

-- The call enters no caller. It may clear one.
abbrev pub EntersNone : Call → Type 0
EntersNone (EnterCaller number (Some caller)) = ⊥
EntersNone call = Unit {0}

-- A call that a component can make at a time.
abbrev pub IsOfComponent : ℕ → Call → Type 0
IsOfComponent now call = IsAt now call × EntersNone call

-- Only such calls change the sessions.
abbrev pub MovedByComponents : ℕ → Store → Store → Type 0
MovedByComponents now before after = (calls : List Call) × AllByRecursion (IsOfComponent now) calls × (after ≡ left_after calls before)

-- `expire` is called at one time until it ends none: the ended sessions in order, and the sessions after it.
abbrev pub Expires : ℕ → Store → List EndedSession → Store → Type 0
Expires now before [] after = (expiring now before ≡ None) × (after ≡ before)
Expires now before (session ∷ sessions) after =
    (expiring now before ≡ Some session) × Expires now (left_by_expiry now before) sessions after
