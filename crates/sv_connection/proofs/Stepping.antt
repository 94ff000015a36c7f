-- One more action of a connection.
use Rattle.std.proofs.Common.{◌≡◌, ℕ, ◌+◌, ◌≤◌, List, [], ◌∷◌, ◌++◌, None, Some, Ok, Err, inl, inr, refl, sym, ap, ◌∙◌, subst, append-nil, flat_map, length, length-append, arith}
use Rattle.sv_connection.specs.LoopLaws.{calls_of}
use Rattle.sv_connection.specs.Notes.{Talks}
use Rattle.sv_connection.specs.Slots.{Arms, Action, Hands, Open, Blocks, Reads, Writes}
use Rattle.sv_connection.specs.States.{ConnectionState}
use Rattle.sv_connection.specs.Steps.{ComesToRest, Drives, FailsAt, HandsOn, IsTurn, SendsOn, Spends, StepsOnce, TakesIn}
use Rattle.sv_connection.specs.Ways.{Ways}
use Rattle.sv_connection.specs.declared.allowance.Allowance.{Allowance}
use Rattle.sv_connection.specs.declared.close_reason.CloseReason.{CloseReason}
use Rattle.sv_connection.specs.declared.close_reason.CloseReason.TheVariants.{GivenUp}
use Rattle.sv_connection.specs.declared.limits.TheConstants.{BYTES_AT_ONCE, CALLS_AT_ONCE}
use Rattle.sv_connection.specs.declared.step.Step.{Step}
use Rattle.sv_connection.specs.declared.step.Step.TheVariants.{GoesOn, Rests, IsOver}
use Rattle.sv_run.specs.Reacting.{Reacting}
use Rattle.sv_run.specs.declared.step_fault.StepFault.{StepFault}
use Rattle.sv_streams.specs.Calls.{Call, taken}
use Rattle.sv_streams.proofs.CallJoins.{taken_join}
use Rattle.sv_connection.proofs.AloneLemmas.{flat_one_more}
use Rattle.sv_connection.proofs.Joining.{talks_join}
use Rattle.sv_wire.specs.declared.inbox.Awaited.{Awaited}

-- The allowance that is left in a turn after these actions.
abbrev pub Leaves : {S : Type 0} → List (Action S) → Allowance → Type 0
Leaves actions left =
    (length (flat_map calls_of actions) + left.calls ≤ CALLS_AT_ONCE) × (length (taken (flat_map calls_of actions)) + left.bytes ≤ BYTES_AT_ONCE)

long_calls : {S : Type 0} (actions : List (Action S)) (action : Action S) → length (flat_map calls_of (actions ++ action ∷ [])) ≡ length (flat_map calls_of actions) + length (calls_of action)
long_calls actions action = ap length (flat_one_more calls_of actions action) ∙ length-append (flat_map calls_of actions) (calls_of action)

long_bytes : {S : Type 0} (actions : List (Action S)) (action : Action S)
    → length (taken (flat_map calls_of (actions ++ action ∷ []))) ≡ length (taken (flat_map calls_of actions)) + length (taken (calls_of action))
long_bytes actions action =
    ap (λ calls. length (taken calls)) (flat_one_more calls_of actions action) ∙ ap length (taken_join (flat_map calls_of actions) (calls_of action))
    ∙ length-append (taken (flat_map calls_of actions)) (taken (calls_of action))

leaves_more : {S : Type 0} (actions : List (Action S)) (action : Action S) (before after : Allowance) → Leaves actions before → Spends before action after → Leaves (actions ++ action ∷ []) after
leaves_more actions action before after leaves spends =
    let calls = long_calls actions action in let bytes = long_bytes actions action in (omega arith, omega arith)

is_turn : {S : Type 0} (actions : List (Action S)) (left : Allowance) → Leaves actions left → IsTurn actions
is_turn actions left leaves = (omega arith, omega arith)

-- An action without a call is of the same turn.
is_turn_more : {S : Type 0} (actions : List (Action S)) (action : Action S) (left : Allowance) → Leaves actions left → calls_of action ≡ [] → IsTurn (actions ++ action ∷ [])
is_turn_more actions action left leaves none =
    let same = flat_one_more calls_of actions action ∙ ap (λ back. flat_map calls_of actions ++ back) none ∙ append-nil (flat_map calls_of actions) in
    let P : List Call → Type 0 = λ calls. (length calls ≤ CALLS_AT_ONCE) × (length (taken calls) ≤ BYTES_AT_ONCE) in
    subst P (sym same) (is_turn actions left leaves)

module _ {R C S : Type 0} (steps : Reacting R) (awaits : R → ℕ → Awaited) (tells : C → ℕ → C → Type 0) (ways : Ways S) (number : ℕ) where
  module _ (before : R) (clock : C) (at at_after : ConnectionState S) (left left_after : Allowance) where
    rested : ComesToRest ways at at_after → StepsOnce ways steps awaits tells number before clock at left (Ok Rests) before clock at_after left_after
    rested (inl leads) =
        (Blocks, record { went = record { takes = (before, refl, refl); told = refl }; along = (Open at_after, leads, refl) }, refl, ap (λ s. s.rests) leads.2)
    rested (inr leads) =
        (Arms, record { went = record { takes = (before, refl, refl); told = refl }; along = (Open at_after, leads, refl) }, refl, ap (λ s. s.rests) leads.2)

    pub took_in : (step : Step) → TakesIn ways at left (Ok step) at_after left_after
        → StepsOnce ways steps awaits tells number before clock at left (Ok step) before clock at_after left_after
    took_in GoesOn (bytes, leads, spends) =
        (Reads bytes, record { went = record { takes = (before, refl, refl); told = refl }; along = (Open at_after, leads, refl) }, spends)
    took_in Rests comes = rested comes
    took_in (IsOver cause) causes = (refl, refl, causes)

    pub sent_on : (step : Step) → SendsOn ways at left step at_after left_after
        → StepsOnce ways steps awaits tells number before clock at left (Ok step) before clock at_after left_after
    sent_on GoesOn (bytes, leads, spends) =
        (Writes bytes, record { went = record { takes = (before, refl, refl); told = refl }; along = (Open at_after, leads, refl) }, spends)
    sent_on Rests comes = rested comes
    sent_on (IsOver cause) causes = (refl, refl, causes)

  pub handed_on : (before : R) (clock : C) (at at_after : ConnectionState S) (left left_after : Allowance) (after : R) (clock_after : C)
      → left_after.calls ≤ left.calls → left_after.bytes ≤ left.bytes
      → HandsOn ways steps awaits tells number before clock at (Ok tt) after clock_after at_after
      → StepsOnce ways steps awaits tells number before clock at left (Ok GoesOn) after clock_after at_after left_after
  handed_on before clock at at_after left left_after after clock_after calls bytes_left (bytes, moment, reaction, awaited, told, step, is, leads) = (
    Hands bytes moment reaction awaited,
    record {
      went = record { takes = (after, (step, is), refl); told = (clock_after, told, refl) };
      along = (Open at_after, leads, refl);
    },
    (omega (arith, calls), omega (arith, bytes_left)),
  )

  -- The actions since the connection began to be driven, and the allowance that is left.
  abbrev pub Driven : R → C → ConnectionState S → R → C → ConnectionState S → Allowance → Type 0
  Driven first clock_first at_first before clock at left =
      (actions : List (Action S)) × Talks steps awaits tells ways number first clock_first (Open at_first) actions before clock (Open at) × Leaves actions left

  pub not_driven : (first : R) (clock_first : C) (at_first : ConnectionState S) (left : Allowance) → left ≡ record { calls = CALLS_AT_ONCE; bytes = BYTES_AT_ONCE }
      → Driven first clock_first at_first first clock_first at_first left
  not_driven first clock_first at_first left whole =
      let P : Allowance → Type 0 = λ l. Driven first clock_first at_first first clock_first at_first l in
      subst P (sym whole) ([], record { went = record { takes = refl; told = refl }; along = refl }, (omega arith, omega arith))

  module _ (first : R) (clock_first : C) (at_first : ConnectionState S) (before : R) (clock : C) (at : ConnectionState S) (left : Allowance)
      (driven : Driven first clock_first at_first before clock at left) (after : R) (clock_after : C) (at_after : ConnectionState S) (left_after : Allowance) where
    one_more_now : StepsOnce ways steps awaits tells number before clock at left (Ok GoesOn) after clock_after at_after left_after
        → Driven first clock_first at_first after clock_after at_after left_after
    one_more_now (action, talks, spends) = (
      driven.0 ++ action ∷ [],
      talks_join steps awaits tells ways number first before after clock_first clock clock_after (Open at_first) (Open at) (Open at_after) driven.0 (action ∷ []) driven.1 talks,
      leaves_more driven.0 action left left_after driven.2 spends,
    )

    pub one_more : (step : Step) → step ≡ GoesOn → StepsOnce ways steps awaits tells number before clock at left (Ok step) after clock_after at_after left_after
        → Driven first clock_first at_first after clock_after at_after left_after
    one_more step is once =
        let P : Step → Type 0 = λ s. StepsOnce ways steps awaits tells number before clock at left (Ok s) after clock_after at_after left_after in one_more_now (subst P is once)

    rests_now : StepsOnce ways steps awaits tells number before clock at left (Ok Rests) after clock_after at_after left_after
        → Drives ways steps awaits tells number first clock_first at_first (Ok None) after clock_after at_after
    rests_now (action, talks, none, rests) = (
      driven.0 ++ action ∷ [],
      talks_join steps awaits tells ways number first before after clock_first clock clock_after (Open at_first) (Open at) (Open at_after) driven.0 (action ∷ []) driven.1 talks,
      is_turn_more driven.0 action left driven.2 none,
      rests,
    )

    pub rests_then : (step : Step) → step ≡ Rests → StepsOnce ways steps awaits tells number before clock at left (Ok step) after clock_after at_after left_after
        → Drives ways steps awaits tells number first clock_first at_first (Ok None) after clock_after at_after
    rests_then step is once =
        let P : Step → Type 0 = λ s. StepsOnce ways steps awaits tells number before clock at left (Ok s) after clock_after at_after left_after in rests_now (subst P is once)

    pub fails_then : (fault : StepFault) → StepsOnce ways steps awaits tells number before clock at left (Err fault) after clock_after at_after left_after
        → Drives ways steps awaits tells number first clock_first at_first (Err fault) after clock_after at_after
    fails_then fault (fails, same) =
        let P : ConnectionState S → Type 0 = λ s. Talks steps awaits tells ways number first clock_first (Open at_first) driven.0 before clock (Open s) in
        let Q : ConnectionState S → Type 0 = λ s. FailsAt steps tells number s fault before clock after clock_after in
        (driven.0, before, clock, subst P (sym same) driven.1, is_turn driven.0 left driven.2, subst Q (sym same) fails)

  module _ (first : R) (clock_first : C) (at_first : ConnectionState S) (before : R) (clock : C) (at : ConnectionState S) (left : Allowance)
      (driven : Driven first clock_first at_first before clock at left) (cause : CloseReason) (after : R) (clock_after : C) (at_after : ConnectionState S) (left_after : Allowance) where
    over_now : StepsOnce ways steps awaits tells number before clock at left (Ok (IsOver cause)) after clock_after at_after left_after
        → Drives ways steps awaits tells number first clock_first at_first (Ok (Some cause)) after clock_after at_after
    over_now (same, same_clock, causes) =
        let P : R → Type 0 = λ r. Drives ways steps awaits tells number first clock_first at_first (Ok (Some cause)) r clock_after at_after in
        let Q : C → Type 0 = λ c. Drives ways steps awaits tells number first clock_first at_first (Ok (Some cause)) before c at_after in
        subst P (sym same) (subst Q (sym same_clock) (driven.0, at, driven.1, is_turn driven.0 left driven.2, causes))

    pub over_then : (step : Step) → step ≡ IsOver cause
        → StepsOnce ways steps awaits tells number before clock at left (Ok step) after clock_after at_after left_after
        → Drives ways steps awaits tells number first clock_first at_first (Ok (Some cause)) after clock_after at_after
    over_then step is once =
        let P : Step → Type 0 = λ s. StepsOnce ways steps awaits tells number before clock at left (Ok s) after clock_after at_after left_after in over_now (subst P is once)

  -- The connection was driven up to the bound of the loop.
  pub driven_out : (first : R) (clock_first : C) (at_first : ConnectionState S) (before : R) (clock : C) (at : ConnectionState S) (left : Allowance)
      → Driven first clock_first at_first before clock at left
      → Drives ways steps awaits tells number first clock_first at_first (Ok (Some GivenUp)) before clock at
  driven_out first clock_first at_first before clock at left driven = (driven.0, at, driven.1, is_turn driven.0 left driven.2, (inl refl, refl))
