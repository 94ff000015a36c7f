-- A login step that passes.
use Rattle.std.proofs.Common.{◌≡◌, ℕ, ◌+◌, Bool, true, false, not, List, [], ◌∷◌, Option, Some, None, refl, sym, ◌∙◌, ap, subst}
use Rattle.std.specs.Option.{is_none, option_and_then, option_map}
use Rattle.sv_realm.specs.declared.account.User.{User}
use Rattle.sv_session.specs.Calls.{caller_of, id_of}
use Rattle.sv_session.specs.Id.{id_text}
use Rattle.sv_session.specs.Store.{IsOrderly, Session, Store}
use Rattle.sv_login.specs.declared.step.LoginOutcome.{LoginOutcome}
use Rattle.sv_login.specs.declared.step.LoginOutcome.TheVariants.{NotLogin, Passed, WrongUser, NoSession}
use Rattle.sv_login.specs.Login.{first_case, has_no_session, login}
use Rattle.sv_login.specs.Post.{Post, is_login, user_sent}
use Rattle.sv_login.specs.Session.{logged_in, saved_target, session_number}
use Rattle.sv_login.proofs.SessionLemmas.{entered, renewed_id}

abbrev IsPassed : LoginOutcome → Type 0
IsPassed (Passed number target) = Unit {0}
IsPassed outcome = ⊥

abbrev number_in : LoginOutcome → ℕ
number_in (Passed number target) = number
number_in outcome = 0

-- A login passes only by the last row of the table.
record Passes (is_post : Bool) (user : Option ℕ) (refused : Bool) : Type 0 where
  someone : ℕ
  user_is : user ≡ Some someone
  session : refused ≡ false
  last_row : (store : Store) (last : LoginOutcome × Store)
      → first_case ((not is_post, (NotLogin, store)) ∷ (is_none user, (WrongUser, store)) ∷ (refused, (NoSession, store)) ∷ []) last ≡ last

passes : (is_post : Bool) (user : Option ℕ) (refused : Bool) (store : Store) (last : LoginOutcome × Store)
    → IsPassed (first_case ((not is_post, (NotLogin, store)) ∷ (is_none user, (WrongUser, store)) ∷ (refused, (NoSession, store)) ∷ []) last).0
    → Passes is_post user refused
passes false user refused store last passed = absurd passed
passes true None refused store last passed = absurd passed
passes true (Some user) true store last passed = absurd passed
passes true (Some user) false store last passed = record { someone = user; user_is = refl; session = refl; last_row = λ store last. refl }

module _ (users : List User) (post : Post) (held : Option ℕ) (words : ℕ × ℕ) (now : ℕ) (store : Store) (number : ℕ) (target : Option (List ℕ))
    (passed : (login users post held words now store).0 ≡ Passed number target) where
  passing : Passes (is_login post) (user_sent users post) (has_no_session held store)
  passing = passes (is_login post) (user_sent users post) (has_no_session held store) store
      (Passed (session_number held store) (saved_target held words now store), logged_in (user_sent users post) held words now store)
      (subst IsPassed (sym passed) tt)

  whole : login users post held words now store
      ≡ (Passed (session_number held store) (saved_target held words now store), logged_in (user_sent users post) held words now store)
  whole = passing.last_row store (Passed (session_number held store) (saved_target held words now store), logged_in (user_sent users post) held words now store)

  number_is : session_number held store ≡ number
  number_is = ap number_in (sym (ap (λ (step : LoginOutcome × Store). step.0) whole) ∙ passed)

  pub session_is_free : has_no_session held store ≡ false
  session_is_free = passing.session

  left_is : (login users post held words now store).1 ≡ logged_in (user_sent users post) held words now store
  left_is = ap (λ (step : LoginOutcome × Store). step.1) whole

  pub holds_user : (user : ℕ) × (user_sent users post ≡ Some user) × (caller_of number (login users post held words now store).1 ≡ Some user)
  holds_user =
      let session = entered held words now store (user_sent users post) in (
        passing.someone,
        passing.user_is,
        subst (λ (n : ℕ). caller_of n (login users post held words now store).1 ≡ Some passing.someone) number_is
            (ap (caller_of (session_number held store)) left_is
            ∙ ap (option_and_then (λ (s : Session). s.caller)) session.1 ∙ session.2 ∙ passing.user_is),
      )

  pub has_next_id : IsOrderly store → id_of number (login users post held words now store).1 ≡ Some (id_text words (store.serial + 1))
  has_next_id orderly =
      let session = renewed_id held words now store orderly (user_sent users post) in
      subst (λ (n : ℕ). id_of n (login users post held words now store).1 ≡ Some (id_text words (store.serial + 1))) number_is
      (ap (id_of (session_number held store)) left_is
      ∙ ap (option_map (λ (s : Session). s.id)) session.1 ∙ ap Some session.2)
