-- Actions that only affect an exchange, composed of parts.
use Rattle.std.specs.Prelude.{codes}
use Rattle.std.proofs.Common.{◌≡◌, inl, inr, ℕ, Bool, true, false, List, [], Option, None, Some, Result, Ok, refl, sym, ap, ◌∙◌, subst}
use Rattle.sv_dispatch.specs.Did.{seen}
use Rattle.sv_dispatch.specs.Running.{made_seen}
use Rattle.sv_exchange.specs.Changing.{Change, Does, SetHeader, SetStatus, Write}
use Rattle.sv_exchange.specs.Keeping as keeping
use Rattle.sv_exchange.specs.State as exchanges
use Rattle.sv_exchange.specs.declared.exchange_fault.ExchangeFault.{ExchangeFault}
use Rattle.sv_dispatch.specs.ServedBy.{Alone}
use Rattle.sv_text.specs.declared.no_memory.NoMemory.{NoMemory}
use Rattle.sv_tree.specs.Does as does
use Rattle.sv_tree.specs.Does.{◌>>=◌, ◌>>◌, becomes, choose, gives, makes}
use Rattle.sv_tree.specs.Endings.{keeps}
use Rattle.sv_tree.specs.Served.{Plain, Resets, breaks, plain_text, reset, sets, unless_committed}
use Rattle.sv_tree.specs.State.{KeptError, KeptField, on_exchange}
use Rattle.sv_dispatch.proofs.RunningDeeds.{at, makes_so}

pub alone_then : {A B : Type 0} (first : does.Does A) (next : A → does.Does B) (x y z : exchanges.State) (value : A) (result : Option B)
    → Alone first x y (Some value) → Alone (next value) y z result → Alone (first >>= next) x z result
alone_then first next x y z value result one two standings =
    inl record { given = value; between = at standings y; front = []; back = []; begins = one standings; goes_on = two standings; is_joined = refl }

pub alone_not : {A B : Type 0} (first : does.Does A) (next : A → does.Does B) (x y : exchanges.State) → Alone first x y None → Alone (first >>= next) x y None
alone_not first next x y one standings = inr (one standings, refl)

-- A change of the exchange.
pub alone_makes : (change : Change) (x y : exchanges.State) (said : Result Bool ExchangeFault) → Does change said x y → Alone (makes change) x y (made_seen said)
alone_makes change x y said did standings = makes_so change x y standings said did

-- A change of the exchange, by its result.
made_so : (change : Change) (x y : exchanges.State) (said : Result Bool ExchangeFault) (made : Option (Unit {0})) → Does change said x y → made ≡ made_seen said
    → Alone (makes change) x y made
made_so change x y said made did is = subst (Alone (makes change) x y) (sym is) (alone_makes change x y said did)

-- The response is reset, with the status and the header field of an error.
pub resets_so : (status : ℕ) (field : Option KeptField) (x w y z : exchanges.State) (said : Result Bool ExchangeFault) (made : Result (Unit {0}) NoMemory) (result : Option (Unit {0}))
    → w ≡ reset x → Does (SetStatus status) said w y → seen made ≡ made_seen said → made ≡ Ok tt → Alone (sets field) y z result
    → Alone (Resets status field) x z result
resets_so status field x w y z said made result emptied did is ok rest =
    alone_then (becomes (on_exchange reset)) (λ _. makes (SetStatus status) >> sets field) x w z tt result (λ standings. (refl, ap (at standings) emptied, refl))
    (alone_then (makes (SetStatus status)) (λ _. sets field) w y z tt result (made_so (SetStatus status) w y said (Some tt) did (ap seen (sym ok) ∙ is)) rest)

-- A response that is not committed.
pub unless_so : (does : does.Does (Unit {0})) (x y : exchanges.State) (test : Bool) (result : Option (Unit {0})) → test ≡ x.committed → test ≡ false
    → Alone does x y result → Alone (unless_committed does) x y result
unless_so does x y test result is free did standings =
    subst (λ test. choose test breaks does (at standings x) [] (at standings y) result) (sym free ∙ is) (did standings)

-- A plain text response.
module _ (status : ℕ) (field : Option KeptField) (x y : exchanges.State) where
  abbrev Typed : Change
  Typed = SetHeader (codes "content-type") (codes "text/plain")

  abbrev Written : Change
  Written = Write (plain_text status)

  pub plain_not : Alone (Resets status field) x y None → Alone (Plain status field) x y None
  plain_not did = alone_not (Resets status field) (λ _. makes Typed >> makes Written) x y did

  module _ (resets : Alone (Resets status field) x y (Some tt)) (z : exchanges.State) (said : Result Bool ExchangeFault) (typed : Does Typed said y z) where
    pub plain_untyped : None ≡ made_seen said → Alone (Plain status field) x z None
    plain_untyped is =
        alone_then (Resets status field) (λ _. makes Typed >> makes Written) x y z tt None resets
        (alone_not (makes Typed) (λ _. makes Written) y z (made_so Typed y z said None typed is))

    plain_on : (w : exchanges.State) (result : Option (Unit {0})) → Some tt ≡ made_seen said → Alone (makes Written) z w result → Alone (Plain status field) x w result
    plain_on w result is did =
        alone_then (Resets status field) (λ _. makes Typed >> makes Written) x y w tt result resets
        (alone_then (makes Typed) (λ _. makes Written) y z w tt result (made_so Typed y z said (Some tt) typed is) did)

    -- There was no memory for the text.
    pub plain_unwritten : Some tt ≡ made_seen said → Alone (Plain status field) x z None
    plain_unwritten is = plain_on z None is (λ standings. (refl, inr (refl, refl)))

    pub plain_so : (bytes : List ℕ) (w : exchanges.State) (answered : Result Bool ExchangeFault) (result : Option (Unit {0})) → Some tt ≡ made_seen said
        → bytes ≡ plain_text status → Does (Write bytes) answered z w → result ≡ made_seen answered → Alone (Plain status field) x w result
    plain_so bytes w answered result is text did made =
        plain_on w result is (made_so Written z w answered result (subst (λ bytes. Does (Write bytes) answered z w) text did) made)

-- A committed response is truncated.
pub unless_broken : (does : does.Does (Unit {0})) (x y : exchanges.State) (test : Bool) → test ≡ x.committed → test ≡ true → y ≡ keeping.broken_off x
    → Alone (unless_committed does) x y (Some tt)
unless_broken does x y test is committed broke standings =
    subst (λ test. choose test breaks does (at standings x) [] (at standings y) (Some tt)) (sym committed ∙ is) (refl, ap (at standings) broke, refl)

-- An error is stored.
pub keeps_so : (kept : KeptError) (x y : exchanges.State) → y ≡ keeping.with_kept kept x → Alone (keeps kept) x y (Some tt)
keeps_so kept x y is standings = (refl, inl (ap (at standings) is, refl))

pub keeps_not : (kept : KeptError) (x y : exchanges.State) → y ≡ x → Alone (keeps kept) x y None
keeps_not kept x y is standings = (refl, inr (ap (at standings) is, refl))
