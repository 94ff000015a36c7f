-- Calls of filter chains, composed of parts.
use Rattle.std.proofs.Common.{◌≡◌, ℕ, suc, ◌<◌, Bool, true, false, List, [], ◌∷◌, length, drop, take, reverse, get_or, drop-cons, Option, None, Some, sym, ap, ◌∙◌}
use Rattle.std.proofs.Math.Seq.{take-suc}
use Rattle.std.proofs.lemmas.List.{reverse-append}
use Rattle.sv_component.specs.Runs.{Record}
use Rattle.sv_component.specs.declared.answers.Gate.{Gate}
use Rattle.sv_component.specs.declared.answers.Gate.TheVariants as gates
use Rattle.sv_dispatch.specs.Did.{Frame}
use Rattle.sv_tree.specs.Asking.{asks}
use Rattle.sv_tree.specs.Does.{Does, ◌>>=◌, ◌>>◌, becomes, choose, gives, refuses}
use Rattle.sv_tree.specs.Endings.{fails, faults}
use Rattle.sv_tree.specs.Filters.{Afters, Befores, Gated, Reached, after_of, before_of, ends_behind}
use Rattle.sv_tree.specs.Site.{Site}
use Rattle.sv_tree.specs.declared.site.Resource.{Resource}
use Rattle.sv_tree.specs.State.{State, counted, is_full}
use Rattle.sv_tree.specs.declared.finished.DispatchFault.TheVariants.{DispatchLimit}
use Rattle.sv_tree.specs.declared.finished.Finished.{Finished}
use Rattle.sv_tree.specs.declared.finished.Finished.TheVariants.{Done}
use Rattle.sv_dispatch.proofs.Deeds.{Makes, did_by, did_first, did_give, did_not, did_other, did_refuse, did_then}

module _ {M : Type 0} (state : M → State) (frame : M → Frame) (ran : M → List Record → M → Type 0) (site : Site) (resource : Resource) where
  abbrev pub ended_of : List ℕ → Option Finished → Option Reached
  ended_of passed (Some result) = Some record { passed = passed; ended = Some result }
  ended_of passed None = None

  did_end : (passed : List ℕ) (ending : Does Finished) (a b : M) (result : Option Finished) → Makes state frame ran ending a b result
      → Makes state frame ran (ends_behind passed ending) a b (ended_of passed result)
  did_end passed ending a b (Some value) did =
      did_then state frame ran ending (λ result. gives (record { passed = passed; ended = Some result })) a b b value (Some record { passed = passed; ended = Some value }) did
      (did_give state frame ran (record { passed = passed; ended = Some value }) b)
  did_end passed ending a b None did = did_not state frame ran ending (λ result. gives (record { passed = passed; ended = Some result })) a b did

  module _ (chain : List ℕ) (place : ℕ) (below : place < length chain) where
    abbrev Passed : List ℕ
    Passed = reverse (take place chain)

    abbrev Next : Does Reached
    Next = Befores site resource (get_or chain place 0 ∷ Passed) (drop (suc place) chain)

    abbrev Call : Does Reached
    Call = asks site.listeners (before_of (get_or chain place 0)) >>= λ gate. Gated site resource Passed gate Next

    abbrev Limit : Does Reached
    Limit = ends_behind Passed (faults site resource DispatchLimit)

    at_place : (a b : M) (result : Option Reached) → Makes state frame ran (choose (is_full (state a)) Limit (becomes counted >> Call)) a b result
        → Makes state frame ran (Befores site resource Passed (drop place chain)) a b result
    at_place a b result did =
        did_by state frame ran (λ rest. Befores site resource Passed rest) (get_or chain place 0 ∷ drop (suc place) chain) (drop place chain) a b result
        (sym (drop-cons chain place 0 below))
        (record { made = did.made; does_so = did.does_so; runs = did.runs; stays = did.stays })

    pub befores_full : (a b : M) (result : Option Finished) → is_full (state a) ≡ true → Makes state frame ran (faults site resource DispatchLimit) a b result
        → Makes state frame ran (Befores site resource (reverse (take place chain)) (drop place chain)) a b (ended_of (reverse (take place chain)) result)
    befores_full a b result full did =
        at_place a b (ended_of Passed result)
        (did_first state frame ran (is_full (state a)) Limit (becomes counted >> Call) a b (ended_of Passed result) full
        (did_end Passed (faults site resource DispatchLimit) a b result did))

    module _ (a b : M) (hear : site.listeners ≡ (frame a).listeners) (free : is_full (state a) ≡ false) (count : Makes state frame ran (becomes counted) a b (Some tt)) where
      -- The call, with the site's number of listeners.
      asked : (c : M) (result : Option Gate) → Makes state frame ran (asks (frame b).listeners (before_of (get_or chain place 0))) b c result
          → Makes state frame ran (asks site.listeners (before_of (get_or chain place 0))) b c result
      asked c result call =
          did_by state frame ran (λ listeners. asks listeners (before_of (get_or chain place 0))) (frame b).listeners site.listeners b c result
          (ap (λ f. f.listeners) count.stays ∙ sym hear) call

      counted_so : (d : M) (result : Option Reached) → Makes state frame ran Call b d result
          → Makes state frame ran (Befores site resource (reverse (take place chain)) (drop place chain)) a d result
      counted_so d result did =
          at_place a d result
          (did_other state frame ran (is_full (state a)) Limit (becomes counted >> Call) a d result free
          (did_then state frame ran (becomes counted) (λ _. Call) a b d tt result count did))

      pub befores_broken : (c : M) → Makes state frame ran (asks (frame b).listeners (before_of (get_or chain place 0))) b c None
          → Makes state frame ran (Befores site resource (reverse (take place chain)) (drop place chain)) a c None
      befores_broken c call =
          counted_so c None (did_not state frame ran (asks site.listeners (before_of (get_or chain place 0))) (λ gate. Gated site resource Passed gate Next) b c (asked c None call))

      module _ (c : M) (gate : Gate) (call : Makes state frame ran (asks (frame b).listeners (before_of (get_or chain place 0))) b c (Some gate)) where
        called : (known : Gate) (d : M) (result : Option Reached) → gate ≡ known → Makes state frame ran (Gated site resource Passed known Next) c d result
            → Makes state frame ran (Befores site resource (reverse (take place chain)) (drop place chain)) a d result
        called known d result is rest =
            counted_so d result
            (did_then state frame ran (asks site.listeners (before_of (get_or chain place 0))) (λ gate. Gated site resource Passed gate Next) b c d gate result (asked c (Some gate) call)
            (did_by state frame ran (λ gate. Gated site resource Passed gate Next) known gate c d result (sym is) rest))

        pub befores_stop : gate ≡ gates.Stop
            → Makes state frame ran (Befores site resource (reverse (take place chain)) (drop place chain)) a c (Some record { passed = reverse (take place chain); ended = Some Done })
        befores_stop is =
            called gates.Stop c (Some record { passed = Passed; ended = Some Done }) is (did_end Passed (gives Done) c c (Some Done) (did_give state frame ran Done c))

        pub befores_refused : gate ≡ gates.NoMemory → Makes state frame ran (Befores site resource (reverse (take place chain)) (drop place chain)) a c None
        befores_refused is = called gates.NoMemory c None is (did_refuse state frame ran c)

        pub befores_failed : (kind text : List ℕ) (d : M) (result : Option Finished) → gate ≡ gates.Failed kind text → Makes state frame ran (fails site resource kind text) c d result
            → Makes state frame ran (Befores site resource (reverse (take place chain)) (drop place chain)) a d (ended_of (reverse (take place chain)) result)
        befores_failed kind text d result is did =
            called (gates.Failed kind text) d (ended_of Passed result) is (did_end Passed (fails site resource kind text) c d result did)

        pub befores_passed : (d : M) (result : Option Reached) → gate ≡ gates.Pass
            → Makes state frame ran (Befores site resource (reverse (take (suc place) chain)) (drop (suc place) chain)) c d result
            → Makes state frame ran (Befores site resource (reverse (take place chain)) (drop place chain)) a d result
        befores_passed d result is did =
            called gates.Pass d result is
            (did_by state frame ran (λ passed. Befores site resource passed (drop (suc place) chain)) (reverse (take (suc place) chain)) (get_or chain place 0 ∷ Passed) c d result
            (ap reverse (take-suc chain place 0 below) ∙ reverse-append (take place chain) (get_or chain place 0 ∷ [])) did)

module _ {M : Type 0} (state : M → State) (frame : M → Frame) (ran : M → List Record → M → Type 0) (chain : List ℕ) (count : ℕ) (below : count < length chain) where
  abbrev Rest : ℕ → Does (Unit {0})
  Rest listeners = Afters listeners (reverse (take count chain))

  abbrev Last : ℕ → Does Bool
  Last listeners = asks listeners (after_of (get_or chain count 0))

  one_more : (listeners : ℕ) (a b : M) (result : Option (Unit {0})) → Makes state frame ran (Last listeners >>= λ done. choose done (Rest listeners) refuses) a b result
      → Makes state frame ran (Afters listeners (reverse (take (suc count) chain))) a b result
  one_more listeners a b result did =
      did_by state frame ran (Afters listeners) (get_or chain count 0 ∷ reverse (take count chain)) (reverse (take (suc count) chain)) a b result
      (sym (ap reverse (take-suc chain count 0 below) ∙ reverse-append (take count chain) (get_or chain count 0 ∷ []))) did

  pub afters_broken : (a b : M) → Makes state frame ran (asks (frame a).listeners (after_of (get_or chain count 0))) a b None
      → Makes state frame ran (Afters (frame a).listeners (reverse (take (suc count) chain))) a b None
  afters_broken a b call =
      let listeners = (frame a).listeners in
      one_more listeners a b None (did_not state frame ran (Last listeners) (λ done. choose done (Rest listeners) refuses) a b call)

  pub afters_refused : (a b : M) (done : Bool) → done ≡ false → Makes state frame ran (asks (frame a).listeners (after_of (get_or chain count 0))) a b (Some done)
      → Makes state frame ran (Afters (frame a).listeners (reverse (take (suc count) chain))) a b None
  afters_refused a b done is call =
      let listeners = (frame a).listeners in
      one_more listeners a b None (did_then state frame ran (Last listeners) (λ done. choose done (Rest listeners) refuses) a b b done None call
      (did_other state frame ran done (Rest listeners) refuses b b None is (did_refuse state frame ran b)))

  pub afters_called : (a b c : M) (done : Bool) (result : Option (Unit {0})) → done ≡ true
      → Makes state frame ran (asks (frame a).listeners (after_of (get_or chain count 0))) a b (Some done)
      → Makes state frame ran (Afters (frame b).listeners (reverse (take count chain))) b c result
      → Makes state frame ran (Afters (frame a).listeners (reverse (take (suc count) chain))) a c result
  afters_called a b c done result is call rest =
      let listeners = (frame a).listeners in
      one_more listeners a c result (did_then state frame ran (Last listeners) (λ done. choose done (Rest listeners) refuses) a b c done result call
      (did_first state frame ran done (Rest listeners) refuses b c result is
      (did_by state frame ran Rest (frame b).listeners listeners b c result (ap (λ f. f.listeners) call.stays) rest)))
