-- A message changes the sessions only by calls at its time. If none had expired, it leaves none that has.
use Rattle.std.proofs.Common.{◌≡◌, ℕ, ◌+◌, false, not, List, [], ◌∷◌, length, eqb, arith, refl, subst, Option, None, Some, inl, inr}
use Rattle.std.specs.Option.{option_map, option_map_or}
use Rattle.std.proofs.lemmas.Bool.{cases_Bool, eqb-true, not-false}
use Rattle.sv_admission.specs.Admission.{outcome_in, settled_in, store_accessed}
use Rattle.sv_exchange.specs.Asked.{Asked}
use Rattle.sv_admission.specs.Held.{accessed, session_held}
use Rattle.sv_admission.specs.Judged.{left_by_login, post_in}
use Rattle.sv_admission.proofs.Saving.{no_fault}
use Rattle.sv_admission.specs.Settled.{interrupted, opened_with, saved_in, settled_by, unchanged}
use Rattle.sv_mapping.specs.Protected.{is_protected}
use Rattle.sv_descriptor.specs.declared.login.FormLogin.{FormLogin}
use Rattle.sv_descriptor.specs.declared.web_app.WebApp.{WebApp}
use Rattle.sv_login.specs.Login.{has_no_session, login}
use Rattle.sv_login.specs.Post.{Post, is_login, user_sent}
use Rattle.sv_login.specs.Session.{living, session_faults, session_number, with_session}
use Rattle.sv_login.specs.declared.outcome.Outcome.{Outcome}
use Rattle.sv_login.specs.declared.outcome.Outcome.TheVariants as outcomes
use Rattle.sv_policy.specs.Compiled.{Standing}
use Rattle.sv_realm.specs.declared.account.User.{User}
use Rattle.sv_session.specs.Calls.{opened, opening_faults, renamed, renaming_faults, with_saved}
use Rattle.sv_session.specs.Expiry.{HasNoneExpired}
use Rattle.sv_session.specs.Laws.{CallsLeaveNoneExpired}
use Rattle.sv_session.specs.Runs.{Call, EnterCaller, IsAt, Open, Rename, Save, TakeSaved, Touch, left_by, unless}
use Rattle.sv_session.specs.Store.{Store}
use Rattle.sv_session.specs.declared.session_fault.SessionFault.{SessionFault}
use Rattle.sv_tree.specs.FileServlet.{sent_to}
use Rattle.sv_tree.specs.SiteOfDescriptor.{Content}
use Rattle.std.specs.Str.{bytes_eq}
use Rattle.std.specs.Prelude.{codes, is_none}

none_from_length : (faults : List SessionFault) → not (eqb (length faults) 0) ≡ false → faults ≡ []
none_from_length [] h = refl
none_from_length (fault ∷ faults) h = let none = eqb-true (length (fault ∷ faults)) 0 (not-false _ h) in absurd (omega (arith, none))

-- Assuming the law that no call leaves an expired session.
module _ (law : CallsLeaveNoneExpired) (now : ℕ) where
  by_call : (call : Call) (store after : Store) → left_by call store ≡ after → IsAt now call → HasNoneExpired now store → HasNoneExpired now after
  by_call call store after is at fresh = subst (HasNoneExpired now) is (law now call store at fresh)

  fresh_access : (session : Option ℕ) (store : Store) → HasNoneExpired now store → HasNoneExpired now (accessed session now store)
  fresh_access None store fresh = fresh
  fresh_access (Some number) store fresh = by_call (Touch number now) store _ refl refl fresh

  -- A session for a login.
  fresh_session : (held : Option ℕ) (words : ℕ × ℕ) (store : Store) (found : Option ℕ) → living held store ≡ found
      → option_map_or (λ number. renaming_faults number store) found (opening_faults store) ≡ []
      → HasNoneExpired now store → HasNoneExpired now (option_map_or (λ number. renamed number words store) found (opened words now store))
  fresh_session held words store None is none fresh = by_call (Open words now) store _ (no_fault (opening_faults store) _ store none) refl fresh
  fresh_session held words store (Some number) is none fresh = by_call (Rename number words) store _ (no_fault (renaming_faults number store) _ store none) tt fresh

  fresh_login : (users : List User) (post : Post) (held : Option ℕ) (words : ℕ × ℕ) (store : Store) → HasNoneExpired now store
      → HasNoneExpired now (login users post held words now store).1
  fresh_login users post held words store fresh =
      elim (cases_Bool (not (is_login post))) [
        | inl e ↦ rw e fresh
        | inr e ↦ rw e (elim (cases_Bool (is_none (user_sent users post))) [
          | inl f ↦ rw f fresh
          | inr f ↦ rw f (elim (cases_Bool (has_no_session held store)) [
            | inl k ↦ rw k fresh
            | inr k ↦ rw k (
                let session = fresh_session held words store (living held store) refl (none_from_length (session_faults held store) k) fresh in
                let taken = by_call (TakeSaved (session_number held store)) (with_session held words now store) _ refl tt session in
                by_call (EnterCaller (session_number held store) (user_sent users post)) (with_saved (session_number held store) None (with_session held words now store)) _ refl tt taken)
          ])
        ])
      ]

module _ (law : CallsLeaveNoneExpired) (users : List User) (asked : Asked) where
  fresh_step : (pages : Option FormLogin) (session : Option ℕ) (store : Store) → HasNoneExpired asked.moment store
      → HasNoneExpired asked.moment (option_map_or (λ step. step.1) (option_map (λ pages. login users (post_in asked) session asked.words asked.moment store) pages) store)
  fresh_step None session store fresh = fresh
  fresh_step (Some pages) session store fresh = fresh_login law asked.moment users (post_in asked) session asked.words store fresh

  fresh_behind_login : (app : WebApp) (session : Option ℕ) (store : Store) → HasNoneExpired asked.moment store
      → HasNoneExpired asked.moment (left_by_login app users asked session store)
  fresh_behind_login app session store fresh =
      elim (cases_Bool (is_protected asked.canon.path)) [ inl e ↦ rw e fresh | inr e ↦ rw e (fresh_step app.login session store fresh) ]

  fresh_opened : (target : List ℕ) (store : Store) (faults : List SessionFault) → opening_faults store ≡ faults → HasNoneExpired asked.moment store
      → HasNoneExpired asked.moment (unless faults (opened_with asked target store) (unchanged None store)).store
  fresh_opened target store [] is fresh =
      let begun = by_call law asked.moment (Open asked.words asked.moment) store _ (no_fault (opening_faults store) _ store is) refl fresh in
      by_call law asked.moment (Save (store.serial + 1) target) (opened asked.words asked.moment store) _ refl tt begun
  fresh_opened target store (fault ∷ faults) is fresh = fresh

  fresh_saved : (target : List ℕ) (session : Option ℕ) (store : Store) → HasNoneExpired asked.moment store
      → HasNoneExpired asked.moment (saved_in asked target session store).store
  fresh_saved target None store fresh = fresh_opened target store (opening_faults store) refl fresh
  fresh_saved target (Some number) store fresh = by_call law asked.moment (Save number target) store _ refl tt fresh

  fresh_interrupted : (context_path : List ℕ) (session : Option ℕ) (store : Store) → HasNoneExpired asked.moment store
      → HasNoneExpired asked.moment (interrupted context_path asked session store).store
  fresh_interrupted context_path session store fresh =
      elim (cases_Bool (bytes_eq asked.message.method (codes "GET"))) [
        | inl e ↦ rw e (fresh_saved (sent_to context_path asked.canon.path asked.canon.query) session store fresh)
        | inr e ↦ rw e fresh
      ]

  fresh_settled : (context_path : List ℕ) (session : Option ℕ) (outcome : Outcome) (store : Store) → HasNoneExpired asked.moment store
      → HasNoneExpired asked.moment (settled_by context_path asked session outcome store).store
  fresh_settled context_path session outcomes.Protected store fresh = fresh
  fresh_settled context_path session (outcomes.LoggedIn number target) store fresh = fresh
  fresh_settled context_path session outcomes.LoginFailed store fresh = fresh
  fresh_settled context_path session outcomes.NoSession store fresh = fresh
  fresh_settled context_path session outcomes.Entered store fresh = fresh
  fresh_settled context_path session (outcomes.SentToLogin why) store fresh = fresh_interrupted context_path session store fresh
  fresh_settled context_path session (outcomes.NoLogin why) store fresh = fresh
  fresh_settled context_path session (outcomes.Denied why) store fresh = fresh

  pub fresh_admission : (content : Content) (standing : Standing) (store : Store) → HasNoneExpired asked.moment store → HasNoneExpired asked.moment (settled_in content standing users asked store).store
  fresh_admission content standing store fresh =
      let touched = fresh_access law asked.moment (session_held content.app asked store) store fresh in
      fresh_settled content.context_path (session_held content.app asked store) (outcome_in content standing users asked store) _
      (fresh_behind_login content.app (session_held content.app asked store) (store_accessed content standing users asked store) touched)
