-- The entries of a map, as connections.
use Rattle.std.proofs.Common.{◌≡◌, ℕ, Bool, true, false, List, [], ◌++◌, Some, Result, Ok, Err, IsOk, OnOk, IsSome, refl, sym, ap, ◌∙◌, subst, nat_eq}
use Rattle.std.specs.Cmp.{nat_eq_equiv}
use Rattle.std.specs.Map.{lookup, set_value}
use Rattle.std.proofs.lemmas.Bool.{eqb-true}
use Rattle.std.proofs.lemmas.Map.{lookup-set_value, length-set_value}
use Rattle.sv_wire.proofs.BoolLemmas.{MatchBool-from_true, MatchBool-from_false}
use Rattle.sv_run.specs.HostConnections.{FeedsOne}
use Rattle.sv_run.specs.Connections.{connections_of, with_held}
use Rattle.sv_run.specs.Feeding.{Feeds}
use Rattle.sv_wire.specs.Inbox.{Held}
use Rattle.sv_wire.specs.Items.{are_ended}
use Rattle.sv_wire.specs.Reads.{Reads}
use Rattle.sv_wire.specs.declared.item.Item.{Item}

set_one : (entries : List (ℕ × Held)) (number : ℕ) (held left : Held) → Some held ≡ lookup (nat_eq number) entries
    → connections_of (set_value (nat_eq number) entries left) ≡ with_held number left (connections_of entries)
set_one entries number held left found =
    λ i. record {
      held = λ q. lookup-set_value nat_eq_equiv (nat_eq number) (λ x y same. ap (λ k. nat_eq k y) (eqb-true number x same)) q left entries (subst IsSome found refl) i;
      known = length-set_value (nat_eq number) entries left i;
    }

pub feeds_one : {T E : Type 0} (entries : List (ℕ × Held)) (number : ℕ) (piece : List ℕ) (result : Result T E) (items : List Item) (held left : Held) (after : List (ℕ × Held))
    → after ≡ set_value (nat_eq number) entries left → Some held ≡ lookup (nat_eq number) entries
    → (held.spent ≡ false → OnOk result (Reads held.owed (held.rest ++ piece) items left.owed left.rest × (left.spent ≡ are_ended items)))
    → (held.spent ≡ true → IsOk result × (items ≡ []) × (left ≡ held))
    → OnOk result (FeedsOne (connections_of entries) number piece items (connections_of after))
feeds_one entries number piece (Err e) items held left after is_after found reads spent = tt
feeds_one entries number piece (Ok done) items held left after is_after found reads spent =
    record {
      held = held;
      left = left;
      holds = sym found;
      feeds = by_spent held.spent refl;
      is_after = ap connections_of is_after ∙ set_one entries number held left found;
    }
  where
    by_spent : (t : Bool) → held.spent ≡ t → Feeds held piece items left
    by_spent true is = MatchBool-from_true held.spent _ _ is ((spent is).1, (spent is).2)
    by_spent false is = MatchBool-from_false held.spent _ _ is (reads is)
