-- Lookups after a chain has been cached.
use Rattle.std.proofs.Common.{◌≡◌, Bool, true, false, cond, Option, Some, if◌then◌else◌, refl}
use Rattle.std.specs.Option.{option_and_then}

-- A test of a conditional value can be moved into its branches.
pub through : {A B : Type 0} (test : A → Option B) (here : Bool) (one : A) (before : Option A)
    → option_and_then test (cond here (Some one) before) ≡ if here then test one else option_and_then test before
through test true one before = refl
through test false one before = refl
