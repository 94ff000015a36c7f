-- The keys of a table that is read without a fault.
use Rattle.std.proofs.Common.{◌≡◌, ℕ, Bool, true, false, ◌&&◌, ◌||◌, not, cond, List, [], ◌∷◌, Result, Ok, Err, Some, refl}
use Rattle.std.proofs.Math.Bool.{or-true}
use Rattle.std.specs.List.{find, list_all}
use Rattle.std.specs.Option.{option_map_or}
use Rattle.std.specs.Str.{bytes_eq}
use Rattle.std.proofs.lemmas.Slice.Eq.{bytes_eq-Decides}
use Rattle.toml.specs.Data.{Members}
use Rattle.sv_text.specs.Steps.{◌>>=◌}
use Rattle.sv_descriptor.specs.Fault.{Located}
use Rattle.sv_descriptor.specs.Table.{is_among, is_other, keys, only_keys, unknown_key}
use Rattle.sv_program.specs.KeyLaw.{is_described, is_known}

differs : false ≡ true → ⊥
differs h = cc

-- a key among known ones passes a test that all of these pass
among : (test : List ℕ → Bool) (known : List (List ℕ)) (key : List ℕ) → list_all test known ≡ true → is_among known key ≡ true → test key ≡ true
among test [] key all is = absurd (differs is)
among test (other ∷ rest) key all is = by (bytes_eq other key) refl (test other) refl all is (λ more found. among test rest key more found)
  where
    by : (same : Bool) → bytes_eq other key ≡ same → (passes : Bool) → test other ≡ passes → (passes && list_all test rest) ≡ true
        → (same || is_among rest key) ≡ true → (list_all test rest ≡ true → is_among rest key ≡ true → test key ≡ true) → test key ≡ true
    by true equal true passed all is next = let same = (bytes_eq-Decides other key).0 equal in rw (← same) passed
    by true equal false passed all is next = absurd (differs all)
    by false equal true passed all is next = next all is
    by false equal false passed all is next = absurd (differs all)

only : (test : List ℕ → Bool) (known ignored names : List (List ℕ)) (done : Unit {0}) → list_all test known ≡ true
    → option_map_or unknown_key (find (is_other known ignored) names) (Ok tt) ≡ Ok done → list_all (λ key. test key || is_among ignored key) names ≡ true
only test known ignored [] done all h = refl
only test known ignored (key ∷ rest) done all h = by (is_among known key) refl (is_among ignored key) h (λ more. only test known ignored rest done all more)
  where
    by : (is : Bool) → is_among known key ≡ is → (passed : Bool)
        → option_map_or unknown_key (cond (not is && not passed) (Some key) (find (is_other known ignored) rest)) (Ok tt) ≡ Ok done
        → (option_map_or unknown_key (find (is_other known ignored) rest) (Ok tt) ≡ Ok done → list_all (λ name. test name || is_among ignored name) rest ≡ true)
        → ((test key || passed) && list_all (λ name. test name || is_among ignored name) rest) ≡ true
    by true is passed h next = rw (among test known key all is) (next h)
    by false is true h next = rw (or-true (test key)) (next h)
    by false is false h next = cc

first_ok : {A B E : Type 0} (first : Result A E) (next : A → Result B E) (value : B) → (first >>= next) ≡ Ok value → (a : A) × (first ≡ Ok a)
first_ok (Ok a) next value h = (a, refl)
first_ok (Err e) next value h = cc

pub all_known : {A : Type 0} (table : List ℕ) (known ignored : List (List ℕ)) (members : Members) (next : Unit {0} → Located A) (value : A)
    → list_all (is_described table) known ≡ true → (only_keys known ignored members >>= next) ≡ Ok value → list_all (is_known ignored table) (keys members) ≡ true
all_known table known ignored members next value all h =
    let first = first_ok (only_keys known ignored members) next value h in
    only (is_described table) known ignored (keys members) first.0 all first.1
