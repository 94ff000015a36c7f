-- Theorems about the login step (Jakarta Servlet 6.0, sections 7.1 and 13.6.3).
use Rattle.std.specs.Prelude.{◌≡◌, ◌≢◌, ℕ, List, Option, Some, All}
use Rattle.sv_realm.specs.declared.account.User.{User}
use Rattle.sv_session.specs.Calls.{caller_of, id_of}
use Rattle.sv_session.specs.Runs.{Call, ids_given, left_after}
use Rattle.sv_session.specs.Store.{Store, empty_store}
use Rattle.sv_login.specs.declared.step.LoginOutcome.{LoginOutcome}
use Rattle.sv_login.specs.declared.step.LoginOutcome.TheVariants.{Passed}
use Rattle.sv_login.specs.Login.{login}
use Rattle.sv_login.specs.Post.{Post, user_sent}

-- A step that does not pass leaves the sessions unchanged.
abbrev pub IsRefusal : LoginOutcome → Type 0
IsRefusal (Passed number target) = ⊥
IsRefusal outcome = Unit {0}

abbrev pub RefusalChangesNothing : Type 0
RefusalChangesNothing = (users : List User) (post : Post) (held : Option ℕ) (words : ℕ × ℕ) (now : ℕ) (store : Store)
    → IsRefusal (login users post held words now store).0 → (login users post held words now store).1 ≡ store

-- After any earlier calls, a step that passes gives its session an id that the context has never given before.
abbrev pub PassedHasANewId : Type 0
PassedHasANewId = (limit interval : ℕ) (calls : List Call) (users : List User) (post : Post) (held : Option ℕ) (words : ℕ × ℕ) (now : ℕ)
    (number : ℕ) (target : Option (List ℕ))
    → (login users post held words now (left_after calls (empty_store limit interval))).0 ≡ Passed number target
    → (id : List ℕ) × (id_of number (login users post held words now (left_after calls (empty_store limit interval))).1 ≡ Some id)
    × All (λ earlier. earlier ≢ id) (ids_given calls (empty_store limit interval))

-- The session of a step that passes holds the user whose name and password were sent.
abbrev pub PassedHoldsTheUser : Type 0
PassedHoldsTheUser = (users : List User) (post : Post) (held : Option ℕ) (words : ℕ × ℕ) (now : ℕ) (store : Store)
    (number : ℕ) (target : Option (List ℕ))
    → (login users post held words now store).0 ≡ Passed number target
    → (user : ℕ) × (user_sent users post ≡ Some user) × (caller_of number (login users post held words now store).1 ≡ Some user)
