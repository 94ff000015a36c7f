-- The slots of numbers in the table.
use Rattle.std.proofs.Common.{◌≡◌, ◌≢◌, IsSome, ℕ, ◌+◌, ◌<◌, ◌≤◌, Bool, true, false, cond, nat_eq, ltb, eqb-true, eq-eqb, length, List, Option, None, Some, refl, sym, ap, ◌∙◌, subst, arith}
use Rattle.std.proofs.lemmas.Bool.{cond-true, cond-false, lt-ltb, ltb-false, ltb-true}
use Rattle.std.specs.Cmp.{nat_eq_equiv}
use Rattle.std.specs.Map.{lookup, set_value}
use Rattle.std.proofs.lemmas.Map.{length-set_value, lookup-set_value}
use Rattle.sv_connection.specs.Known.{AreAtRest, Known, OthersStay, StaysOpen, accepted_or_unused, found, held_or_over, place_in}
use Rattle.sv_connection.specs.Slots.{Accepted, Open, Over, Slot, Unused}
use Rattle.sv_connection.specs.States.{ConnectionState}
use Rattle.sv_connection.specs.declared.limits.Limits.{Limits}

pub same_number : (number : ℕ) → nat_eq number number ≡ true
same_number number = eq-eqb number number refl

pub other_number : (number other : ℕ) → other ≢ number → nat_eq other number ≡ false
other_number number other apart = by (nat_eq other number) refl
  where
    by : (b : Bool) → nat_eq other number ≡ b → nat_eq other number ≡ false
    by true is = absurd (apart (eqb-true other number is))
    by false is = is

not_below : (number next : ℕ) → next ≤ number → ltb number next ≡ false
not_below number next above = by (ltb number next) refl
  where
    by : (b : Bool) → ltb number next ≡ b → ltb number next ≡ false
    by true is = let less : number < next = ltb-true number next is in absurd (omega arith)
    by false is = is

next_apart : (next other : ℕ) → other ≢ next → ltb other (next + 1) ≡ ltb other next
next_apart next other apart = by (ltb other next) refl
  where
    past : (b : Bool) → ltb other (next + 1) ≡ b → next ≤ other → ltb other (next + 1) ≡ false
    past true is outside = let inside : other < next + 1 = ltb-true other (next + 1) is in absurd (apart (omega arith))
    past false is outside = is

    by : (b : Bool) → ltb other next ≡ b → ltb other (next + 1) ≡ ltb other next
    by true is = let inside : other < next = ltb-true other next is in lt-ltb other (next + 1) (omega arith) ∙ sym is
    by false is = past (ltb other (next + 1)) refl (ltb-false other next is) ∙ sym is

module _ {S : Type 0} where
  -- The slot of a number that is not below the next one.
  abbrev pub beyond : Known S → ℕ → Slot S
  beyond known number = cond (nat_eq number known.next) (accepted_or_unused known.accepted) Unused

  place_below : (known : Known S) (number : ℕ) (held : Option (ConnectionState S)) → number < known.next → found known number ≡ held → place_in known number ≡ held_or_over held
  place_below known number held below is =
      ap (λ b. cond b (held_or_over (found known number)) (beyond known number)) (lt-ltb number known.next below) ∙ ap held_or_over is

  pub place_open : (known : Known S) (number : ℕ) (at : ConnectionState S) → number < known.next → found known number ≡ Some at → place_in known number ≡ Open at
  place_open known number at below is = place_below known number (Some at) below is

  pub place_over : (known : Known S) (number : ℕ) → number < known.next → found known number ≡ None → place_in known number ≡ Over
  place_over known number below is = place_below known number None below is

  -- The slot of the next number.
  pub place_next : (known : Known S) (accepted : Option S) → known.accepted ≡ accepted → place_in known known.next ≡ accepted_or_unused accepted
  place_next known accepted is =
      ap (λ b. cond b (held_or_over (found known known.next)) (beyond known known.next)) (not_below known.next known.next (omega arith))
      ∙ ap (λ b. cond b (accepted_or_unused known.accepted) Unused) (same_number known.next) ∙ ap accepted_or_unused is

  -- The slots of the other numbers stay.
  pub places_stay : (number : ℕ) (known known_after : Known S) → OthersStay number known known_after
      → (other : ℕ) → other ≢ number → place_in known_after other ≡ place_in known other
  places_stay number known known_after stay other apart =
      λ i. cond (ltb other (stay.next i)) (held_or_over (stay.others other apart i)) (cond (nat_eq other (stay.next i)) (accepted_or_unused (stay.accepted i)) Unused)

  beyond_next : (next other : ℕ) (accepted : Option S) (held : Slot S) → other ≢ next
      → cond (ltb other (next + 1)) held (cond (nat_eq other (next + 1)) (accepted_or_unused {S = S} None) Unused)
      ≡ cond (ltb other next) held (cond (nat_eq other next) (accepted_or_unused accepted) Unused)
  beyond_next next other accepted held apart =
      ap (λ c. cond c held (cond (nat_eq other (next + 1)) (accepted_or_unused {S = S} None) Unused)) (next_apart next other apart)
      ∙ ap (λ s. cond (ltb other next) held s) (unused (nat_eq other (next + 1)) ∙ sym (ap (λ c. cond c (accepted_or_unused accepted) Unused) (other_number next other apart)))
    where
      unused : (c : Bool) → cond c (accepted_or_unused {S = S} None) Unused ≡ Unused
      unused true = refl
      unused false = refl

  -- The slots of the other numbers stay as the next number is used.
  pub used_next : (known known_after : Known S) → known_after.next ≡ known.next + 1 → known_after.accepted ≡ None
      → ((other : ℕ) → other ≢ known.next → found known_after other ≡ found known other)
      → (other : ℕ) → other ≢ known.next → place_in known_after other ≡ place_in known other
  used_next known known_after next accepted others other apart =
      (λ i. cond (ltb other (next i)) (held_or_over (others other apart i)) (cond (nat_eq other (next i)) (accepted_or_unused (accepted i)) Unused))
      ∙ beyond_next known.next other known.accepted (held_or_over (found known other)) apart

  -- The slots of the other numbers stay as a stream is accepted.
  pub accepted_next : (known : Known S) (stream : S) → (other : ℕ) → other ≢ known.next → place_in (record known { accepted = Some stream }) other ≡ place_in known other
  accepted_next known stream other apart =
      ap (λ s. cond (ltb other known.next) (held_or_over (found known other)) s)
      (ap (λ c. cond c (Accepted stream) Unused) (other_number known.next other apart)
      ∙ sym (ap (λ c. cond c (accepted_or_unused known.accepted) Unused) (other_number known.next other apart)))

  -- All connections rest if all others do and this one does.
  pub all_rest : (number : ℕ) (places places_after : ℕ → Slot S) → ((other : ℕ) → other ≢ number → places_after other ≡ places other)
      → ((at : ConnectionState S) → places_after number ≡ Open at → at.rests ≡ true) → AreAtRest places → AreAtRest places_after
  all_rest number places places_after others rests before other at is = by (nat_eq other number) refl
    where
      differ : nat_eq other number ≡ false → other ≡ number → ⊥
      differ apart same = let P : ℕ → Type 0 = λ n. nat_eq n number ≡ false in absurd (cc (subst P same apart, same_number number))

      by : (b : Bool) → nat_eq other number ≡ b → at.rests ≡ true
      by true same =
          let P : ℕ → Type 0 = λ n. places_after n ≡ Open at in
          rests at (subst P (eqb-true other number same) is)
      by false apart = before other at (sym (others other (differ apart)) ∙ is)

  pub both_stay : (number : ℕ) (known between known_after : Known S) → OthersStay number known between → OthersStay number between known_after → OthersStay number known known_after
  both_stay number known between known_after first second = record {
    limits = second.limits ∙ first.limits;
    next = second.next ∙ first.next;
    accepted = second.accepted ∙ first.accepted;
    others = λ other apart. second.others other apart ∙ first.others other apart;
  }

  -- The state of an open connection is set in the table.
  module _ (limits : Limits) (number next : ℕ) (accepted : Option S) (entries entries_after : List (ℕ × ConnectionState S)) (at at_after : ConnectionState S)
      (set : entries_after ≡ set_value (nat_eq number) entries at_after) (is : Some at ≡ lookup (nat_eq number) entries) where
    abbrev pub old : Known S
    old = record { limits = limits; next = next; accepted = accepted; entries = entries }

    abbrev pub new : Known S
    new = record { limits = limits; next = next; accepted = accepted; entries = entries_after }

    at_each : (other : ℕ) → found new other ≡ cond (nat_eq number other) (Some at_after) (found old other)
    at_each other =
        ap (lookup (nat_eq other)) set
        ∙ lookup-set_value nat_eq_equiv (nat_eq number) (λ x y same. ap (λ k. nat_eq k y) (eqb-true number x same)) other at_after entries (subst IsSome is refl)

    pub set_found : found new number ≡ Some at_after
    set_found = at_each number ∙ cond-true (nat_eq number number) (Some at_after) (found old number) (same_number number)

    set_stays : OthersStay number old new
    set_stays = record {
      limits = refl;
      next = refl;
      accepted = refl;
      others = λ other apart.
          at_each other ∙ cond-false (nat_eq number other) (Some at_after) (found old other) (other_number other number (λ same. apart (sym same)));
    }

    pub stays_open : StaysOpen number old new
    stays_open = (set_stays, ap length set ∙ length-set_value (nat_eq number) entries at_after)
