-- Theorems about realms (Jakarta Servlet 6.0 section 13.6; FIPS 180-4 section 6.2).
use Rattle.std.specs.Prelude.{◌≡◌, ◌≢◌, ◌↔◌, ℕ, List, Some, None, All, IsTrue, length, slice_get, take}
use Rattle.sv_realm.specs.declared.caller.Caller.{Caller}
use Rattle.sv_realm.specs.declared.account.User.{User}
use Rattle.sv_realm.specs.Realm.{caller_at, caller_checked, caller_named}
use Rattle.sv_realm.specs.User.{fits}

-- The caller found by a name has that name and is found again by their number, and no earlier user has the name.
abbrev pub FindsTheFirst : Type 0
FindsTheFirst = (users : List User) (name : List ℕ) (caller : Caller) → caller_named users name ≡ Some caller
    → (caller.name ≡ name) × (caller_at users caller.number ≡ Some caller)
    × All (λ user. user.name ≢ name) (take caller.number users)

-- If no caller is found by a name, no user has that name.
abbrev pub MissesNone : Type 0
MissesNone = (users : List User) (name : List ℕ) → caller_named users name ≡ None
    → All (λ user. user.name ≢ name) users

-- A caller passes the check exactly if they are the caller found by the name and the password fits the user with their
-- number.
abbrev pub ChecksTheNamed : Type 0
ChecksTheNamed = (users : List User) (name password : List ℕ) (caller : Caller)
    → caller_checked users name password ≡ Some caller
    ↔ (caller_named users name ≡ Some caller)
    × ((user : User) × (slice_get users caller.number ≡ Some user) × IsTrue (fits user password))

-- A digest that fits a password has 32 bytes.
abbrev pub FitsByWholeDigest : Type 0
FitsByWholeDigest = (user : User) (password : List ℕ) → IsTrue (fits user password) → length user.digest ≡ 32
