-- The entries that are left when those of some accesses are taken away, one access after another.
use Rattle.std.proofs.Common.{◌≡◌, ℕ, ◌+◌, ◌-◌, List, [], ◌∷◌, ◌∙◌, refl, arith}
use Rattle.std.specs.List.{fold}
use Rattle.sv_access_log.specs.Answered.{entries_of}
use Rattle.sv_run.specs.declared.access.Access.{Access}

pub left_after : (entries : ℕ) (accesses : List Access) → fold (λ left (access : Access). left - access.entries) entries accesses ≡ entries - entries_of accesses
left_after entries [] = omega arith
left_after entries (access ∷ later) = left_after (entries - access.entries) later ∙ sub_both entries access.entries (entries_of later)
  where
    sub_both : (n a b : ℕ) → n - a - b ≡ n - (a + b)
    sub_both n a b = omega arith
