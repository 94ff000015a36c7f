-- A request that goes to a servlet in service without filters calls this servlet first, and one that goes to a filter calls this
-- filter first.
use Rattle.std.proofs.Common.{◌≡◌, ℕ, zero, suc, false, inl, inr, List, [], ◌∷◌, ◌++◌, None, Some, sym, ap, ◌∙◌, subst}
use Rattle.sv_component.specs.Call.{Serviced}
use Rattle.sv_component.specs.Runs.{OfServlet, Record}
use Rattle.sv_component.specs.declared.answers.Gate.{Gate}
use Rattle.sv_component.specs.declared.answers.Step.{Step}
use Rattle.sv_component.specs.declared.standing.Standing.{Standing}
use Rattle.sv_component.specs.declared.standing.Standing.TheVariants.{Serving}
use Rattle.sv_mapping.specs.declared.kind.Kind.{Kind}
use Rattle.sv_mapping.specs.declared.kind.Kind.TheVariants as kinds
use Rattle.sv_tree.proofs.Doing.{absurd_result, becomes_then, same_result, tries_then, wants_then}
use Rattle.sv_tree.specs.Asking.{asks}
use Rattle.sv_tree.specs.Does.{Does, Then, ◌>>=◌, ◌>>◌, becomes, choose, gives, leaves}
use Rattle.sv_tree.specs.Endings.{faults}
use Rattle.sv_tree.specs.Filters.{Afters, Befores, Gated, Reached, before_of, ends_behind, within_limit}
use Rattle.sv_tree.specs.Served as served
use Rattle.sv_tree.specs.Site.{Site, begun, chosen, name_of}
use Rattle.sv_tree.specs.State.{Exchange, State, counted, is_full, on_exchange, standing_at}
use Rattle.sv_tree.specs.Tree as trees
use Rattle.sv_tree.specs.Tree.{Tree, service_of}
use Rattle.sv_tree.specs.declared.site.Resource.{Resource}
use Rattle.sv_tree.specs.declared.site.Resource.TheVariants.{Servlet}
use Rattle.sv_tree.specs.declared.finished.DispatchFault.TheVariants.{DispatchLimit}
use Rattle.sv_tree.specs.declared.finished.Finished.{Finished}
use Rattle.sv_tree.specs.declared.limits.TheConstants.{MAX_NESTING}
use Rattle.sv_uri.specs.declared.path.Canon.{Canon}

-- a program with a result gave a result in its first part, and went on from there
pub then_of : {A B : Type 0} (first : Does A) (next : A → Does B) (x y : State) (r : List Record) (value : B)
    → (first >>= next) x r y (Some value) → Then first next x r y (Some value)
then_of first next x y r value (inl both) = both
then_of first next x y r value (inr stopped) = absurd_result value (sym stopped.1)

-- the first call is this one, by some answer and some exchange afterwards
pub record StartsWith {A : Type 0} (call : A → Exchange → Record) (made : List Record) : Type 0 where
  pub answer : A
  pub left : Exchange
  pub behind : List Record
  pub are : made ≡ call answer left ∷ behind

-- the first call is of the servlet at the place, with this exchange
abbrev pub CallsFirst : ℕ → Exchange → List Record → Type 0
CallsFirst place exchange made = StartsWith {A = Step} (λ step left. OfServlet place (Serviced exchange 0 step left)) made

starts_then : {A : Type 0} (call : A → Exchange → Record) (front back made : List Record) → made ≡ front ++ back → StartsWith call front → StartsWith call made
starts_then call front back made are first = record {
  answer = first.answer;
  left = first.left;
  behind = first.behind ++ back;
  are = are ∙ ap (λ its. its ++ back) first.are;
}

calls_then : (place : ℕ) (exchange : Exchange) (front back made : List Record) → made ≡ front ++ back → CallsFirst place exchange front
    → CallsFirst place exchange made
calls_then place exchange front back made are first = starts_then (λ (step : Step) left. OfServlet place (Serviced exchange 0 step left)) front back made are first

-- nothing was called before
calls_behind : (place : ℕ) (exchange : Exchange) (front back made : List Record) → made ≡ front ++ back → front ≡ [] → CallsFirst place exchange back
    → CallsFirst place exchange made
calls_behind place exchange front back made are none first = record {
  answer = first.answer;
  left = first.left;
  behind = first.behind;
  are = are ∙ ap (λ its. its ++ back) none ∙ first.are;
}

module _ (site : Site) (room : ℕ) (inner : Kind → Canon → Does Finished) (place : ℕ) where
  asked_first : (x y : State) (r : List Record) (turned : trees.Turned)
      → (asks site.listeners (service_of place 0) >>= trees.Stepped site room inner place) x r y (Some turned)
      → CallsFirst place x.exchange r
  asked_first x y r turned done =
      let both = then_of (asks site.listeners (service_of place 0)) (trees.Stepped site room inner place) x y r turned done in
      calls_then place x.exchange both.front both.back r both.is_joined
      (record { answer = both.begins.answer; left = both.begins.exchange; behind = _; are = both.begins.is_made })

  turn_calls : (x y : State) (r : List Record) (turned : trees.Turned) → standing_at x.exchange.moment place x.standings ≡ Serving → is_full x ≡ false
      → trees.Turn site room inner place 0 x r y (Some turned) → CallsFirst place (counted x).exchange r
  turn_calls x y r turned serving room_left done =
      let call = asks site.listeners (service_of place 0) >>= trees.Stepped site room inner place in
      let limit = trees.last (faults site (Servlet place) DispatchLimit) in
      let within : within_limit limit call x r y (Some turned) =
      subst (λ (standing : Standing). trees.Stands site room inner place x.exchange.moment standing (within_limit limit call) x r y (Some turned))
      serving done in
      asked_first (counted x) y r turned
      (becomes_then counted (λ _. call) x y r (Some turned) (subst (λ full. choose full limit (becomes counted >> call) x r y (Some turned)) room_left within))

  serves_calls : (x y : State) (r : List Record) (finished : Finished) → standing_at x.exchange.moment place x.standings ≡ Serving → is_full x ≡ false
      → trees.Serves site room inner place x r y (Some finished) → CallsFirst place (counted x).exchange r
  serves_calls x y r finished serving room_left (zero, done) = absurd done
  serves_calls x y r finished serving room_left (suc left, done) =
      let next : trees.Turned → Does Finished = λ ended. trees.Continues site room inner ended (trees.Turns site room inner place left 1) in
      let both = then_of (trees.Turn site room inner place 0) next x y r finished done in
      calls_then place (counted x).exchange both.front both.back r both.is_joined
      (turn_calls x both.between both.front both.given serving room_left both.begins)

  within_calls : (kind : Kind) (canon : Canon) (x y : State) (r : List Record) (finished : Finished)
      → site.chain canon.path (name_of site (Servlet place)) kind ≡ [] → standing_at x.exchange.moment place x.standings ≡ Serving → is_full x ≡ false
      → trees.Within site room inner (Servlet place) kind canon x r y (Some finished) → CallsFirst place (counted x).exchange r
  within_calls kind canon x y r finished none serving room_left done =
      let befores = Befores site (Servlet place) [] (site.chain canon.path (name_of site (Servlet place)) kind) in
      let respond = λ (reached : Reached). trees.Responds site room inner (Servlet place) kind canon reached.ended in
      let close = λ (reached : Reached) (result : Finished). Afters site.listeners reached.passed >> gives result in
      let next = λ (reached : Reached). respond reached >>= close reached in
      elim (wants_then (λ _. befores >>= next) x y r (Some finished) done) [
        | inr stopped ↦ absurd_result finished (sym stopped.2)
        | inl goes ↦
            let both = then_of befores next x y r finished goes in
            let begins : gives (record { passed = []; ended = None }) x both.front both.between (Some both.given) =
            subst (λ chain. Befores site (Servlet place) [] chain x both.front both.between (Some both.given)) none both.begins in
            let given : both.given ≡ record { passed = []; ended = None } = same_result both.given (record { passed = []; ended = None }) begins.2 in
            let later : next (record { passed = []; ended = None }) x both.back y (Some finished) =
            subst (λ (state : State). next (record { passed = []; ended = None }) state both.back y (Some finished)) begins.1
            (subst (λ (reached : Reached). next reached both.between both.back y (Some finished)) given both.goes_on) in
            let serves = then_of (respond (record { passed = []; ended = None })) (close (record { passed = []; ended = None })) x y both.back finished later in
            calls_behind place (counted x).exchange both.front both.back r both.is_joined begins.0
            (calls_then place (counted x).exchange serves.front serves.back both.back serves.is_joined
            (serves_calls x serves.between serves.front serves.given serving room_left serves.begins))
      ]

  dispatch_calls : (kind : Kind) (canon : Canon) (x y : State) (r : List Record) (finished : Finished) → (chosen site canon.path).resource ≡ Servlet place
      → site.chain canon.path (name_of site (Servlet place)) kind ≡ []
      → standing_at (begun site kind canon x.exchange).moment place x.standings ≡ Serving → is_full (on_exchange (begun site kind canon) x) ≡ false
      → trees.Dispatch site room inner kind canon x r y (Some finished) → CallsFirst place (counted (on_exchange (begun site kind canon) x)).exchange r
  dispatch_calls kind canon x y r finished chosen_is none serving room_left done =
      let first = on_exchange (begun site kind canon) x in
      let within = λ (resource : Resource). trees.Within site room inner resource kind canon in
      let close = λ (result : Finished). leaves >> gives result in
      elim (tries_then (on_exchange (begun site kind canon)) (λ _. within (chosen site canon.path).resource >>= close) x y r (Some finished) done) [
        | inr stopped ↦ absurd_result finished (sym stopped.2)
        | inl goes ↦
            let both = then_of (within (chosen site canon.path).resource) close first y r finished goes in
            calls_then place (counted first).exchange both.front both.back r both.is_joined
            (within_calls kind canon first both.between both.front both.given none serving room_left
            (subst (λ (resource : Resource). within resource first both.front both.between (Some both.given)) chosen_is both.begins))
      ]

module _ (site : Site) (place : ℕ) where
  tree_calls : (room : ℕ) (kind : Kind) (canon : Canon) (x y : State) (r : List Record) (finished : Finished) → (chosen site canon.path).resource ≡ Servlet place
      → site.chain canon.path (name_of site (Servlet place)) kind ≡ []
      → standing_at (begun site kind canon x.exchange).moment place x.standings ≡ Serving → is_full (on_exchange (begun site kind canon) x) ≡ false
      → Tree site room kind canon x r y (Some finished) → CallsFirst place (counted (on_exchange (begun site kind canon) x)).exchange r
  unfolding Tree
  tree_calls zero kind canon x y r finished chosen_is none serving room_left done = absurd done
  tree_calls (suc room) kind canon x y r finished chosen_is none serving room_left done =
      dispatch_calls site room (Tree site room) place kind canon x y r finished chosen_is none serving room_left done

  pub served_calls : (canon : Canon) (x y : State) (r : List Record) (given : Unit {0}) → (chosen site canon.path).resource ≡ Servlet place
      → site.chain canon.path (name_of site (Servlet place)) kinds.Request ≡ []
      → standing_at x.exchange.moment place x.standings ≡ Serving → is_full x ≡ false
      → served.Served site kinds.Request canon x r y (Some given)
      → CallsFirst place (counted (on_exchange (begun site kinds.Request canon) x)).exchange r
  served_calls canon x y r given chosen_is none serving room_left done =
      let both = then_of (Tree site MAX_NESTING kinds.Request canon) (served.Settled site) x y r given done in
      calls_then place (counted (on_exchange (begun site kinds.Request canon) x)).exchange both.front both.back r both.is_joined
      (tree_calls MAX_NESTING kinds.Request canon x both.between both.front both.given chosen_is none serving room_left both.begins)

-- ---- filters

module _ (site : Site) (room : ℕ) (inner : Kind → Canon → Does Finished) (filter : ℕ) (chain : List ℕ) where
  befores_call : (resource : Resource) (x y : State) (r : List Record) (reached : Reached) → is_full x ≡ false
      → Befores site resource [] (filter ∷ chain) x r y (Some reached) → StartsWith (before_of filter (counted x).exchange) r
  befores_call resource x y r reached room_left done =
      let gated = λ (gate : Gate). Gated site resource [] gate (Befores site resource (filter ∷ []) chain) in
      let call = asks site.listeners (before_of filter) >>= gated in
      let limit = ends_behind [] (faults site resource DispatchLimit) in
      let both = then_of (asks site.listeners (before_of filter)) gated (counted x) y r reached
      (becomes_then counted (λ _. call) x y r (Some reached) (subst (λ full. choose full limit (becomes counted >> call) x r y (Some reached)) room_left done)) in
      starts_then (before_of filter (counted x).exchange) both.front both.back r both.is_joined
      (record { answer = both.begins.answer; left = both.begins.exchange; behind = _; are = both.begins.is_made })

  within_passes : (resource : Resource) (kind : Kind) (canon : Canon) (x y : State) (r : List Record) (finished : Finished)
      → site.chain canon.path (name_of site resource) kind ≡ filter ∷ chain → is_full x ≡ false
      → trees.Within site room inner resource kind canon x r y (Some finished) → StartsWith (before_of filter (counted x).exchange) r
  within_passes resource kind canon x y r finished same room_left done =
      let befores = Befores site resource [] (site.chain canon.path (name_of site resource) kind) in
      let respond = λ (reached : Reached). trees.Responds site room inner resource kind canon reached.ended in
      let close = λ (reached : Reached) (result : Finished). Afters site.listeners reached.passed >> gives result in
      let next = λ (reached : Reached). respond reached >>= close reached in
      elim (wants_then (λ _. befores >>= next) x y r (Some finished) done) [
        | inr stopped ↦ absurd_result finished (sym stopped.2)
        | inl goes ↦
            let both = then_of befores next x y r finished goes in
            starts_then (before_of filter (counted x).exchange) both.front both.back r both.is_joined
            (befores_call resource x both.between both.front both.given room_left
            (subst (λ its. Befores site resource [] its x both.front both.between (Some both.given)) same both.begins))
      ]

  dispatch_passes : (kind : Kind) (canon : Canon) (x y : State) (r : List Record) (finished : Finished)
      → site.chain canon.path (name_of site (chosen site canon.path).resource) kind ≡ filter ∷ chain
      → is_full (on_exchange (begun site kind canon) x) ≡ false
      → trees.Dispatch site room inner kind canon x r y (Some finished)
      → StartsWith (before_of filter (counted (on_exchange (begun site kind canon) x)).exchange) r
  dispatch_passes kind canon x y r finished same room_left done =
      let first = on_exchange (begun site kind canon) x in
      let within = trees.Within site room inner (chosen site canon.path).resource kind canon in
      let close = λ (result : Finished). leaves >> gives result in
      elim (tries_then (on_exchange (begun site kind canon)) (λ _. within >>= close) x y r (Some finished) done) [
        | inr stopped ↦ absurd_result finished (sym stopped.2)
        | inl goes ↦
            let both = then_of within close first y r finished goes in
            starts_then (before_of filter (counted first).exchange) both.front both.back r both.is_joined
            (within_passes (chosen site canon.path).resource kind canon first both.between both.front both.given same room_left both.begins)
      ]

module _ (site : Site) (filter : ℕ) (chain : List ℕ) where
  tree_passes : (room : ℕ) (kind : Kind) (canon : Canon) (x y : State) (r : List Record) (finished : Finished)
      → site.chain canon.path (name_of site (chosen site canon.path).resource) kind ≡ filter ∷ chain
      → is_full (on_exchange (begun site kind canon) x) ≡ false → Tree site room kind canon x r y (Some finished)
      → StartsWith (before_of filter (counted (on_exchange (begun site kind canon) x)).exchange) r
  unfolding Tree
  tree_passes zero kind canon x y r finished same room_left done = absurd done
  tree_passes (suc room) kind canon x y r finished same room_left done =
      dispatch_passes site room (Tree site room) filter chain kind canon x y r finished same room_left done

  pub served_passes : (canon : Canon) (x y : State) (r : List Record) (given : Unit {0})
      → site.chain canon.path (name_of site (chosen site canon.path).resource) kinds.Request ≡ filter ∷ chain
      → is_full (on_exchange (begun site kinds.Request canon) x) ≡ false → served.Served site kinds.Request canon x r y (Some given)
      → StartsWith (before_of filter (counted (on_exchange (begun site kinds.Request canon) x)).exchange) r
  served_passes canon x y r given same room_left done =
      let both = then_of (Tree site MAX_NESTING kinds.Request canon) (served.Settled site) x y r given done in
      starts_then (before_of filter (counted (on_exchange (begun site kinds.Request canon) x)).exchange) both.front both.back r both.is_joined
      (tree_passes MAX_NESTING kinds.Request canon x both.between both.front both.given same room_left both.begins)
