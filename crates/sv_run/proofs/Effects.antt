-- Joined effects.
use Rattle.std.proofs.Common.{◌≡◌, Bool, true, false, ◌||◌, Option, None, Some, refl, append_assoc, append-nil}
use Rattle.std.specs.Option.{option_or}
use Rattle.sv_run.specs.Effect.{Effect, nothing, joined}

pub or-assoc : (a b c : Bool) → ((a || b) || c) ≡ (a || (b || c))
or-assoc true b c = refl
or-assoc false b c = refl

pub or-at_false : (a : Bool) → (a || false) ≡ a
or-at_false true = refl
or-at_false false = refl

pub first-assoc : {X : Type 0} (a b c : Option X) → option_or (option_or a b) c ≡ option_or a (option_or b c)
first-assoc None b c = refl
first-assoc (Some x) b c = refl

pub first-at_none : {X : Type 0} (a : Option X) → option_or a None ≡ a
first-at_none None = refl
first-at_none (Some x) = refl

module _ {Context : Type 0} where
  pub joined-assoc : (a b c : Effect Context) → joined (joined a b) c ≡ joined a (joined b c)
  joined-assoc a b c =
      λ i. record {
        sends = append_assoc a.sends b.sends c.sends i;
        closes = or-assoc a.closes b.closes c.closes i;
        journal = append_assoc a.journal b.journal c.journal i;
        deeds = append_assoc a.deeds b.deeds c.deeds i;
        edited = first-assoc a.edited b.edited c.edited i;
        accesses = append_assoc a.accesses b.accesses c.accesses i;
      }

  pub joined-nothing : (a : Effect Context) → joined a nothing ≡ a
  joined-nothing a =
      λ i. record {
        sends = append-nil a.sends i;
        closes = or-at_false a.closes i;
        journal = append-nil a.journal i;
        deeds = append-nil a.deeds i;
        edited = first-at_none a.edited i;
        accesses = append-nil a.accesses i;
      }
