-- The outcome of a login step, and the sessions after it (Jakarta Servlet 6.0, section 13.6.3).
use Rattle.std.specs.Prelude.{ℕ, Bool, not, cond, List, [], ◌∷◌, Option, is_none, length, ◌==◌}
use Rattle.sv_realm.specs.declared.account.User.{User}
use Rattle.sv_session.specs.Store.{Store}
use Rattle.sv_login.specs.declared.step.LoginOutcome.{LoginOutcome}
use Rattle.sv_login.specs.declared.step.LoginOutcome.TheVariants.{NotLogin, Passed, WrongUser, NoSession}
use Rattle.sv_login.specs.Post.{Post, is_login, user_sent}
use Rattle.sv_login.specs.Session.{logged_in, saved_target, session_faults, session_number}

-- The answer of the first row whose test holds, or the last answer if none does.
abbrev pub first_case : {A : Type 0} → List (Bool × A) → A → A
first_case [] last = last
first_case (row ∷ rows) last = cond row.0 row.1 (first_case rows last)

-- Whether the live session cannot get a new id, or there is none and none can be opened.
abbrev pub has_no_session : Option ℕ → Store → Bool
has_no_session held store = not (length (session_faults held store) == 0)

-- The outcome, and the sessions after the step. The credentials are checked before the session is looked up.
abbrev pub login : List User → Post → Option ℕ → ℕ × ℕ → ℕ → Store → LoginOutcome × Store
login users post held words now store = first_case
    ((not (is_login post), (NotLogin, store))
    ∷ (is_none (user_sent users post), (WrongUser, store))
    ∷ (has_no_session held store, (NoSession, store))
    ∷ [])
    (Passed (session_number held store) (saved_target held words now store), logged_in (user_sent users post) held words now store)
