-- Until a message is answered, only calls change the sessions, and only the calls of a login enter a caller.
use Rattle.std.proofs.Common.{◌≡◌, ◌⊎◌, ℕ, ◌+◌, Bool, true, false, cond, not, List, [], ◌∷◌, ◌++◌, length, eqb, arith, refl, sym, ap, ◌∙◌, subst, inl, inr, Option, None, Some}
use Rattle.std.specs.List.{AllByRecursion}
use Rattle.std.specs.Option.{option_map, option_map_or}
use Rattle.std.specs.Prelude.{codes, is_none, if◌then◌else◌}
use Rattle.std.specs.Str.{bytes_eq}
use Rattle.std.proofs.lemmas.Bool.{cases_Bool, eqb-true, not-false}
use Rattle.sv_admission.proofs.Saving.{no_fault}
use Rattle.sv_admission.specs.Admission.{outcome_in, settled_in, store_accessed}
use Rattle.sv_exchange.specs.Asked.{Asked}
use Rattle.sv_admission.specs.Held.{accessed, caller_held, session_held}
use Rattle.sv_admission.specs.Judged.{left_by_login, post_in}
use Rattle.sv_admission.specs.Settled.{interrupted, opened_with, saved_in, settled_by, unchanged}
use Rattle.sv_constraints.specs.Verdict.{verdict}
use Rattle.sv_constraints.specs.declared.owned_decision.OwnedDecision.{OwnedDecision}
use Rattle.sv_mapping.specs.Protected.{is_protected}
use Rattle.sv_descriptor.specs.declared.login.FormLogin.{FormLogin}
use Rattle.sv_login.specs.Login.{has_no_session, login}
use Rattle.sv_login.specs.Post.{Post, is_login, user_sent}
use Rattle.sv_login.specs.Session.{living, logged_in, saved_target, session_faults, session_number, with_session}
use Rattle.sv_login.specs.declared.step.LoginOutcome.{LoginOutcome}
use Rattle.sv_login.specs.declared.step.LoginOutcome.TheVariants.{NoSession, NotLogin, Passed, WrongUser}
use Rattle.sv_login.specs.Outcome.{outcome}
use Rattle.sv_login.specs.declared.outcome.Outcome.{Outcome}
use Rattle.sv_login.specs.declared.outcome.Outcome.TheVariants as outcomes
use Rattle.sv_policy.specs.Compiled.{Standing}
use Rattle.sv_realm.specs.declared.account.User.{User}
use Rattle.sv_session.specs.Calls.{HoldsCaller, opened, opening_faults, renamed, renaming_faults, with_saved}
use Rattle.sv_session.specs.Laws.{CallersAreEntered, CallsLeaveOrder}
use Rattle.sv_session.proofs.MoveLemmas.{left-append}
use Rattle.sv_session.specs.Runs.{Call, EnterCaller, Open, Rename, Save, TakeSaved, Touch, left_after, left_by, unless}
use Rattle.sv_session.specs.Store.{IsOrderly, Store}
use Rattle.sv_session.specs.declared.session_fault.SessionFault.{SessionFault}
use Rattle.sv_tree.specs.FileServlet.{sent_to}
use Rattle.sv_tree.specs.SiteOfDescriptor.{Content}

none_from_length : (faults : List SessionFault) → not (eqb (length faults) 0) ≡ false → faults ≡ []
none_from_length [] h = refl
none_from_length (fault ∷ faults) h = let none = eqb-true (length (fault ∷ faults)) 0 (not-false _ h) in absurd (omega (arith, none))

-- a call enters only callers that `May` allows
abbrev pub EntersOnly : (ℕ → ℕ → Type 0) → Call → Type 0
EntersOnly May (EnterCaller number (Some caller)) = May number caller
EntersOnly May call = Unit {0}

-- one store results from the other by such calls
pub record IsLeft (May : ℕ → ℕ → Type 0) (before after : Store) : Type 0 where
  pub calls : List Call
  pub enter : AllByRecursion (EntersOnly May) calls
  pub is : after ≡ left_after calls before

-- a caller that is held afterwards was held before, or was entered
pub left_holds : (May : ℕ → ℕ → Type 0) → CallersAreEntered → (number caller : ℕ) (calls : List Call) (store : Store) → AllByRecursion (EntersOnly May) calls
    → HoldsCaller number caller (left_after calls store) → HoldsCaller number caller store ⊎ May number caller
left_holds May law number caller [] store enter holds = inl holds
left_holds May law number caller (call ∷ calls) store enter holds = elim (left_holds May law number caller calls (left_by call store) enter.1 holds) [
  | inl held ↦ elim (law call store number caller held) [ inl before ↦ inl before | inr is ↦ inr (subst (EntersOnly May) is enter.0) ]
  | inr may ↦ inr may
]

-- calls keep the order
pub left_orderly : CallsLeaveOrder → (calls : List Call) (store : Store) → IsOrderly store → IsOrderly (left_after calls store)
left_orderly law [] store orderly = orderly
left_orderly law (call ∷ calls) store orderly = left_orderly law calls (left_by call store) (law call store orderly)

module _ (May : ℕ → ℕ → Type 0) where
  left_same : (before after : Store) → after ≡ before → IsLeft May before after
  left_same before after same = record { calls = []; enter = tt; is = same }

  left_once : (call : Call) (before after : Store) → EntersOnly May call → left_by call before ≡ after → IsLeft May before after
  left_once call before after may is = record { calls = call ∷ []; enter = (may, tt); is = sym is }

  all_both : (front back : List Call) → AllByRecursion (EntersOnly May) front → AllByRecursion (EntersOnly May) back → AllByRecursion (EntersOnly May) (front ++ back)
  all_both [] back one other = other
  all_both (call ∷ front) back one other = (one.0, all_both front back one.1 other)

  left_then : (before between after : Store) → IsLeft May before between → IsLeft May between after → IsLeft May before after
  left_then before between after one other = record {
    calls = one.calls ++ other.calls;
    enter = all_both one.calls other.calls one.enter other.enter;
    is = other.is ∙ ap (left_after other.calls) one.is ∙ sym (left-append one.calls other.calls before);
  }

  left_by_access : (session : Option ℕ) (moment : ℕ) (store : Store) → IsLeft May store (accessed session moment store)
  left_by_access None moment store = left_same store store refl
  left_by_access (Some at) moment store = left_once (Touch at moment) store (accessed (Some at) moment store) tt refl

  left_by_opening : (words : ℕ × ℕ) (moment : ℕ) (store : Store) → opening_faults store ≡ [] → IsLeft May store (opened words moment store)
  left_by_opening words moment store none =
      left_once (Open words moment) store (opened words moment store) tt (no_fault (opening_faults store) (opened words moment store) store none)

  -- a new or renamed session for a login
  left_with_session : (words : ℕ × ℕ) (moment : ℕ) (store : Store) (found : Option ℕ)
      → option_map_or (λ at. renaming_faults at store) found (opening_faults store) ≡ []
      → IsLeft May store (option_map_or (λ at. renamed at words store) found (opened words moment store))
  left_with_session words moment store None none = left_by_opening words moment store none
  left_with_session words moment store (Some at) none =
      left_once (Rename at words) store (renamed at words store) tt (no_fault (renaming_faults at store) (renamed at words store) store none)

  entering : (at : ℕ) (sent : Option ℕ) → ((caller : ℕ) → sent ≡ Some caller → May at caller) → EntersOnly May (EnterCaller at sent)
  entering at None may = tt
  entering at (Some caller) may = may caller refl

  left_logged_in : (sent held : Option ℕ) (words : ℕ × ℕ) (moment : ℕ) (store : Store) → session_faults held store ≡ []
      → ((caller : ℕ) → sent ≡ Some caller → May (session_number held store) caller) → IsLeft May store (logged_in sent held words moment store)
  left_logged_in sent held words moment store none may =
      let number = session_number held store in
      let opens = with_session held words moment store in
      let taken = with_saved number None opens in
      left_then store opens (logged_in sent held words moment store)
      (left_with_session words moment store (living held store) none)
      (left_then opens taken (logged_in sent held words moment store)
      (left_once (TakeSaved number) opens taken tt refl)
      (left_once (EnterCaller number sent) taken (logged_in sent held words moment store) (entering number sent may) refl))

  module _ (asked : Asked) where
    left_by_target : (target : List ℕ) (store : Store) (faults : List SessionFault) → opening_faults store ≡ faults
        → IsLeft May store (unless faults (opened_with asked target store) (unchanged None store)).store
    left_by_target target store [] is =
        let opens = opened asked.words asked.moment store in
        let saves = with_saved (store.serial + 1) (Some target) opens in
        left_then store opens saves (left_by_opening asked.words asked.moment store is) (left_once (Save (store.serial + 1) target) opens saves tt refl)
    left_by_target target store (fault ∷ faults) is = left_same store store refl

    left_by_saving : (target : List ℕ) (session : Option ℕ) (store : Store) → IsLeft May store (saved_in asked target session store).store
    left_by_saving target None store = left_by_target target store (opening_faults store) refl
    left_by_saving target (Some at) store = left_once (Save at target) store (with_saved at (Some target) store) tt refl

    left_by_interruption : (context_path : List ℕ) (session : Option ℕ) (store : Store) → IsLeft May store (interrupted context_path asked session store).store
    left_by_interruption context_path session store =
        elim (cases_Bool (bytes_eq asked.message.method (codes "GET"))) [
          | inl e ↦ rw e (left_by_saving (sent_to context_path asked.canon.path asked.canon.query) session store)
          | inr e ↦ rw e (left_same store store refl)
        ]

    left_by_settling : (context_path : List ℕ) (session : Option ℕ) (outcome : Outcome) (store : Store) → IsLeft May store (settled_by context_path asked session outcome store).store
    left_by_settling context_path session outcomes.Protected store = left_same store store refl
    left_by_settling context_path session (outcomes.LoggedIn at target) store = left_same store store refl
    left_by_settling context_path session outcomes.LoginFailed store = left_same store store refl
    left_by_settling context_path session outcomes.NoSession store = left_same store store refl
    left_by_settling context_path session outcomes.Entered store = left_same store store refl
    left_by_settling context_path session (outcomes.SentToLogin why) store = left_by_interruption context_path session store
    left_by_settling context_path session (outcomes.NoLogin why) store = left_same store store refl
    left_by_settling context_path session (outcomes.Denied why) store = left_same store store refl

  -- the first row of a login step whose test holds, or the last if none does
  first_left : (Left : LoginOutcome × Store → Type 0) (one two three : Bool) (first second third last : LoginOutcome × Store)
      → Left first → Left second → Left third → (three ≡ false → Left last) → Left (cond one first (cond two second (cond three third last)))
  first_left Left true two three first second third last its_first its_second its_third its_last = its_first
  first_left Left false true three first second third last its_first its_second its_third its_last = its_second
  first_left Left false false true first second third last its_first its_second its_third its_last = its_third
  first_left Left false false false first second third last its_first its_second its_third its_last = its_last refl

  -- a login step enters only the user who was sent, in the session that it names, and only if it passes
  abbrev Steps : Option ℕ → Store → LoginOutcome × Store → Type 0
  Steps sent store step =
      ((number caller : ℕ) (target : Option (List ℕ)) → step.0 ≡ Passed number target → sent ≡ Some caller → May number caller) → IsLeft May store step.1

  left_by_step : (users : List User) (post : Post) (held : Option ℕ) (words : ℕ × ℕ) (moment : ℕ) (store : Store)
      → Steps (user_sent users post) store (login users post held words moment store)
  left_by_step users post held words moment store =
      let sent = user_sent users post in
      first_left (Steps sent store) (not (is_login post)) (is_none sent) (has_no_session held store) (NotLogin, store) (WrongUser, store) (NoSession, store)
      (Passed (session_number held store) (saved_target held words moment store), logged_in sent held words moment store)
      (λ may. left_same store store refl) (λ may. left_same store store refl) (λ may. left_same store store refl)
      (λ has may. left_logged_in sent held words moment store (none_from_length (session_faults held store) has)
      (λ caller is. may (session_number held store) caller (saved_target held words moment store) refl is))

-- the message is a login to the session with this number, as the user whose name and password it sends
abbrev pub IsLoginAs : Outcome → Option ℕ → ℕ → ℕ → Type 0
IsLoginAs found sent number caller = (target : Option (List ℕ)) × (found ≡ outcomes.LoggedIn number target) × (sent ≡ Some caller)

left_by_found : (hidden : Bool) (pages : Option FormLogin) (step : LoginOutcome × Store) (verdict : OwnedDecision) (sent : Option ℕ) (store : Store)
    → let found = outcome (record { is_protected = hidden; login = option_map (λ taken. taken.0) (option_map (λ its. step) pages); verdict = verdict }) in
    Steps (IsLoginAs found sent) sent store step
    → IsLeft (IsLoginAs found sent) store (if hidden then store else option_map_or (λ taken. taken.1) (option_map (λ its. step) pages) store)
left_by_found true pages step verdict sent store steps = left_same (IsLoginAs _ sent) store store refl
left_by_found false None step verdict sent store steps = left_same (IsLoginAs _ sent) store store refl
left_by_found false (Some pages) step verdict sent store steps = steps (λ number caller target passed is. (target, rw passed refl, is))

-- the admission of a message
pub left_by_admission : (content : Content) (standing : Standing) (users : List User) (asked : Asked) (store : Store)
    → IsLeft (IsLoginAs (outcome_in content standing users asked store) (user_sent users (post_in asked))) store (settled_in content standing users asked store).store
left_by_admission content standing users asked store =
    let session = session_held content.app asked store in
    let touched = store_accessed content standing users asked store in
    let found = outcome_in content standing users asked store in
    let sent = user_sent users (post_in asked) in
    let entered = left_by_login content.app users asked session touched in
    let settled = (settled_in content standing users asked store).store in
    left_then (IsLoginAs found sent) store touched settled (left_by_access (IsLoginAs found sent) session asked.moment store)
    (left_then (IsLoginAs found sent) touched entered settled
    (left_by_found (is_protected asked.canon.path) content.app.login (login users (post_in asked) session asked.words asked.moment touched)
    (verdict standing.constraints standing.rules asked.message.method asked.canon.path (caller_held users session touched)) sent touched
    (left_by_step (IsLoginAs found sent) users (post_in asked) session asked.words asked.moment touched))
    (left_by_settling (IsLoginAs found sent) asked content.context_path session found entered))
