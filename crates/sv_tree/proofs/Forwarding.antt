-- A forward begins with an empty buffer.
use Rattle.std.proofs.Common.{◌≡◌, ◌⊎◌, inl, inr, ℕ, zero, suc, ◌-◌, List, [], ◌∷◌, ◌++◌, Option, None, Some, refl, sym, ap, ◌∙◌, subst}
use Rattle.std.specs.Prelude.{codes, decimal}
use Rattle.std.proofs.lemmas.List.{append-nil}
use Rattle.sv_component.specs.Runs.{Record}
use Rattle.sv_mapping.specs.declared.kind.Kind.{Kind}
use Rattle.sv_mapping.specs.declared.kind.Kind.TheVariants as kinds
use Rattle.sv_tree.specs.Asking.{asks}
use Rattle.sv_tree.specs.Does.{Does, ◌>>=◌, ◌>>◌, becomes, gives, leaves}
use Rattle.sv_tree.specs.Endings as endings
use Rattle.sv_tree.specs.Files as files
use Rattle.sv_tree.specs.Filters as filters
use Rattle.sv_tree.specs.Filters.{Reached, before_of}
use Rattle.sv_tree.specs.Laws.{BeginsWith, Finds, ForwardsBeginEmpty}
use Rattle.sv_tree.specs.Site.{Resource, Servlet, Files, Site, begun, chosen, name_of}
use Rattle.sv_tree.specs.State.{State, Standing, Serving, Gone, Away, counted, is_full, on_exchange, standing_at}
use Rattle.sv_tree.specs.Telling.{all_told}
use Rattle.sv_tree.specs.Tree as tree
use Rattle.sv_tree.specs.Tree.{Tree, last, service_of}
use Rattle.sv_tree.specs.declared.finished.DispatchFault.TheVariants.{DispatchLimit}
use Rattle.sv_tree.specs.declared.finished.Finished.{Finished}
use Rattle.sv_tree.specs.declared.limits.TheConstants.{NOT_FOUND, SERVICE_UNAVAILABLE}
use Rattle.sv_tree.proofs.Doing.{absurd_result, becomes_then, chosen_then, same_result, tries_then, wants_then}
use Rattle.sv_tree.proofs.Silence.{Silent, behind_silent, errs_silent, faults_silent, filed_silent, gives_silent, last_silent}
use Rattle.sv_uri.specs.declared.path.Canon.{Canon}
use Rattle.sv_message.specs.Phrases.{phrase_of}

-- There is a first call, and it finds the buffer empty.
abbrev Begun : List Record → Type 0
Begun r = (call : Record) × (others : List Record) × (r ≡ call ∷ others) × Finds [] call

begun_more : (r front back : List Record) → r ≡ front ++ back → Begun front → Begun r
begun_more r front back joined begins = (begins.0, begins.1 ++ back, joined ∙ ap (λ s. s ++ back) begins.2, begins.3)

begun_begins : (r : List Record) → Begun r → BeginsWith [] r
begun_begins r begins = subst (BeginsWith []) (sym begins.2) begins.3

none_begins : (r : List Record) → r ≡ [] → BeginsWith [] r
none_begins r none = subst (BeginsWith []) (sym none) tt

-- No call was made, and the dispatch ended or memory ran out.
abbrev Ended : List Record → Option (Option Finished) → Type 0
Ended r result = (r ≡ []) × ((result ≡ None) ⊎ ((finished : Finished) × (result ≡ Some (Some finished))))

last_ended : (ending : Does Finished) → Silent ending → (x y : State) (r : List Record) (result : Option (Option Finished)) → last ending x r y result → Ended r result
last_ended ending silent x y r result (inl t) = (last_silent ending silent x y r result (inl t), inr (t.given, t.goes_on.2))
last_ended ending silent x y r result (inr t) = (last_silent ending silent x y r result (inr t), inl t.1)

-- No filter was called: memory ran out, the dispatch ended, or there is no filter and the state is unchanged.
abbrev Passes : State → State → List Record → Option Reached → Type 0
Passes x y r result =
    (r ≡ []) × ((result ≡ None) ⊎ ((reached : Reached) × (result ≡ Some reached) × (reached.passed ≡ [])
    × (((finished : Finished) × (reached.ended ≡ Some finished)) ⊎ ((reached.ended ≡ None) × (y ≡ x)))))

module _ (site : Site) (resource : Resource) where
  behind_passes : (ending : Does Finished) → Silent ending → (x y : State) (r : List Record) (result : Option Reached)
      → filters.ends_behind [] ending x r y result → Passes x y r result
  behind_passes ending silent x y r result (inl t) = (
    behind_silent [] ending silent x y r result (inl t),
    inr (record { passed = []; ended = Some t.given }, t.goes_on.2, refl, inl (t.given, refl)),
  )
  behind_passes ending silent x y r result (inr t) = (behind_silent [] ending silent x y r result (inr t), inl t.1)

  befores_begin : (chain : List ℕ) (x y : State) (r : List Record) (result : Option Reached) → x.exchange.buffer ≡ []
      → filters.Befores site resource [] chain x r y result → Begun r ⊎ Passes x y r result
  befores_begin [] x y r result empty h = inr (h.0, inr (record { passed = []; ended = None }, h.2, refl, inr (refl, h.1)))
  befores_begin (filter ∷ chain) x y r result empty h =
      let next = filters.Befores site resource (filter ∷ []) chain in
      let ending = endings.faults site resource DispatchLimit in
      let call = (asks site.listeners (before_of filter) >>= λ gate. filters.Gated site resource [] gate next) in
      chosen_then (is_full x) (filters.ends_behind [] ending) (becomes counted >> call) x y r result
      (λ _ full. inr (behind_passes ending (faults_silent site resource DispatchLimit) x y r result full))
      (λ _ made. inl (called (becomes_then counted (λ _. call) x y r result made))) h
    where
      called : (asks site.listeners (before_of filter) >>= λ gate. filters.Gated site resource [] gate (filters.Befores site resource (filter ∷ []) chain)) (counted x) r y result → Begun r
      called (inl t) = (
        before_of filter (counted x).exchange t.begins.answer t.begins.exchange,
        all_told site.listeners t.begins.exchange.events ++ t.back,
        t.is_joined ∙ ap (λ front. front ++ t.back) t.begins.is_made,
        empty,
      )
      called (inr t) = (before_of filter (counted x).exchange t.0.answer t.0.exchange, all_told site.listeners t.0.exchange.events, t.0.is_made, empty)

module _ (site : Site) (room : ℕ) (inner : Kind → Canon → Does Finished) where
  stands_begins : (place moment : ℕ) (standing : Standing) (next : Does (Option Finished)) (x y : State) (r : List Record) (result : Option (Option Finished))
      → (next x r y result → Begun r ⊎ Ended r result) → tree.Stands site room inner place moment standing next x r y result → Begun r ⊎ Ended r result
  stands_begins place moment Serving next x y r result h done = h done
  stands_begins place moment Gone next x y r result h done =
      inr (last_ended (endings.is_missing site (Servlet place)) (errs_silent site (Servlet place) NOT_FOUND (phrase_of NOT_FOUND) None) x y r result done)
  stands_begins place moment (Away until) next x y r result h done =
      inr (last_ended (endings.is_away_for site (Servlet place) (until - moment))
      (errs_silent site (Servlet place) SERVICE_UNAVAILABLE (phrase_of SERVICE_UNAVAILABLE) (Some record { name = codes "retry-after"; value = decimal (until - moment) })) x y r result done)

  turn_begins : (place turn : ℕ) (x y : State) (r : List Record) (result : Option (Option Finished)) → x.exchange.buffer ≡ []
      → tree.Turn site room inner place turn x r y result → Begun r ⊎ Ended r result
  turn_begins place turn x y r result empty h =
      let serve = (asks site.listeners (service_of place turn) >>= tree.Stepped site room inner place) in
      let limit = last (endings.faults site (Servlet place) DispatchLimit) in
      stands_begins place x.exchange.moment (standing_at x.exchange.moment place x.standings) (filters.within_limit limit serve) x y r result
      (λ done. chosen_then (is_full x) limit (becomes counted >> serve) x y r result
      (λ _ full. inr (last_ended (endings.faults site (Servlet place) DispatchLimit) (faults_silent site (Servlet place) DispatchLimit) x y r result full))
      (λ _ made. inl (called (becomes_then counted (λ _. serve) x y r result made))) done) h
    where
      called : (asks site.listeners (service_of place turn) >>= tree.Stepped site room inner place) (counted x) r y result → Begun r
      called (inl t) = (
        service_of place turn (counted x).exchange t.begins.answer t.begins.exchange,
        all_told site.listeners t.begins.exchange.events ++ t.back,
        t.is_joined ∙ ap (λ front. front ++ t.back) t.begins.is_made,
        empty,
      )
      called (inr t) = (service_of place turn (counted x).exchange t.0.answer t.0.exchange, all_told site.listeners t.0.exchange.events, t.0.is_made, empty)

  continued_none : (ended : Option Finished) (finished : Finished) (next : Does Finished) (x y : State) (r : List Record) (result : Option Finished) → ended ≡ Some finished
      → tree.Continues site room inner ended next x r y result → r ≡ []
  continued_none ended finished next x y r result is h = gives_silent finished x y r result (subst (λ o. tree.Continues site room inner o next x r y result) is h)

  turns_begin : (place left : ℕ) (x y : State) (r : List Record) (result : Option Finished) → x.exchange.buffer ≡ []
      → tree.Turns site room inner place left 0 x r y result → Begun r ⊎ (r ≡ [])
  turns_begin place zero x y r result empty h = absurd h
  turns_begin place (suc left) x y r result empty (inr t) = elim (turn_begins place 0 x y r None empty t.0) [ inl begins ↦ inl begins | inr ended ↦ inr ended.0 ]
  turns_begin place (suc left) x y r result empty (inl t) =
      elim (turn_begins place 0 x t.between t.front (Some t.given) empty t.begins) [
        | inl begins ↦ inl (begun_more r t.front t.back t.is_joined begins)
        | inr ended ↦ inr (t.is_joined ∙ ap (λ s. s ++ t.back) ended.0 ∙ rest ended.1)
      ]
    where
      rest : ((Some t.given ≡ None) ⊎ ((finished : Finished) × (Some t.given ≡ Some (Some finished)))) → t.back ≡ []
      rest (inl none) = absurd_result t.given (sym none)
      rest (inr is) = continued_none t.given is.0 (tree.Turns site room inner place left 1) t.between y t.back result (same_result t.given (Some is.0) is.1) t.goes_on

  responds_begins : (resource : Resource) (kind : Kind) (canon : Canon) (x y : State) (r : List Record) (result : Option Finished) → x.exchange.buffer ≡ []
      → tree.Responds site room inner resource kind canon None x r y result → Begun r ⊎ (r ≡ [])
  responds_begins (Servlet place) kind canon x y r result empty h = turns_begin place h.0 x y r result empty h.1
  responds_begins Files kind canon x y r result empty h =
      elim (wants_then (λ _ state. files.Filed site kind (site.file canon state.exchange.method kind) state) x y r result h) [
        | inl done ↦ inr (filed_silent site kind (site.file canon x.exchange.method kind) x y r result done)
        | inr not ↦ inr not.0
      ]

  responds_none : (resource : Resource) (kind : Kind) (canon : Canon) (ended : Option Finished) (finished : Finished) (x y : State) (r : List Record) (result : Option Finished)
      → ended ≡ Some finished → tree.Responds site room inner resource kind canon ended x r y result → r ≡ []
  responds_none resource kind canon ended finished x y r result is h =
      gives_silent finished x y r result (subst (λ o. tree.Responds site room inner resource kind canon o x r y result) is h)

  -- If no filter was called, none is called afterwards.
  afters_none : (passed : List ℕ) (value : Finished) (x y : State) (r : List Record) (result : Option Finished) → passed ≡ []
      → (filters.Afters site.listeners passed >> gives value) x r y result → r ≡ []
  afters_none passed value x y r result none h = closed (subst (λ p. (filters.Afters site.listeners p >> gives value) x r y result) none h)
    where
      closed : (filters.Afters site.listeners [] >> gives value) x r y result → r ≡ []
      closed (inl t) = t.is_joined ∙ ap (λ s. t.front ++ s) t.goes_on.0 ∙ ap (λ s. s ++ []) t.begins.0
      closed (inr t) = t.0.0

  behind_none : (resource : Resource) (kind : Kind) (canon : Canon) (reached : Reached) (x y : State) (r : List Record) (result : Option Finished)
      → reached.passed ≡ [] → ((x y : State) (r : List Record) (result : Option Finished) → tree.Responds site room inner resource kind canon reached.ended x r y result → r ≡ [])
      → (tree.Responds site room inner resource kind canon reached.ended >>= λ value. filters.Afters site.listeners reached.passed >> gives value) x r y result → r ≡ []
  behind_none resource kind canon reached x y r result none silent (inl t) =
      t.is_joined ∙ ap (λ s. t.front ++ s) (afters_none reached.passed t.given t.between y t.back result none t.goes_on)
      ∙ ap (λ s. s ++ []) (silent x t.between t.front (Some t.given) t.begins)
  behind_none resource kind canon reached x y r result none silent (inr t) = silent x y r None t.0

  behind_begins : (resource : Resource) (kind : Kind) (canon : Canon) (reached : Reached) (x y : State) (r : List Record) (result : Option Finished)
      → x.exchange.buffer ≡ [] → reached.passed ≡ [] → reached.ended ≡ None
      → (tree.Responds site room inner resource kind canon reached.ended >>= λ value. filters.Afters site.listeners reached.passed >> gives value) x r y result → Begun r ⊎ (r ≡ [])
  behind_begins resource kind canon reached x y r result empty none going (inl t) =
      elim (responds_begins resource kind canon x t.between t.front (Some t.given) empty
      (subst (λ o. tree.Responds site room inner resource kind canon o x t.front t.between (Some t.given)) going t.begins)) [
        | inl begins ↦ inl (begun_more r t.front t.back t.is_joined begins)
        | inr silent ↦ inr (t.is_joined ∙ ap (λ s. t.front ++ s) (afters_none reached.passed t.given t.between y t.back result none t.goes_on) ∙ ap (λ s. s ++ []) silent)
      ]
  behind_begins resource kind canon reached x y r result empty none going (inr t) =
      responds_begins resource kind canon x y r None empty (subst (λ o. tree.Responds site room inner resource kind canon o x r y None) going t.0)

  within_begins : (resource : Resource) (kind : Kind) (canon : Canon) (x y : State) (r : List Record) (result : Option Finished) → x.exchange.buffer ≡ []
      → tree.Within site room inner resource kind canon x r y result → BeginsWith [] r
  within_begins resource kind canon x y r result empty h =
      elim (wants_then (λ _. filters.Befores site resource [] chain >>= behind) x y r result h) [
        | inr not ↦ none_begins r not.0
        | inl (inr t) ↦ elim (befores_begin site resource chain x y r None empty t.0) [
          | inl begins ↦ begun_begins r begins
          | inr passes ↦ none_begins r passes.0
        ]
        | inl (inl t) ↦ elim (befores_begin site resource chain x t.between t.front (Some t.given) empty t.begins) [
          | inl begins ↦ begun_begins r (begun_more r t.front t.back t.is_joined begins)
          | inr passes ↦ rest t.given t.between t.back t.goes_on passes.1 (t.is_joined ∙ ap (λ s. s ++ t.back) passes.0)
        ]
      ]
    where
      chain : List ℕ
      chain = site.chain canon.path (name_of site resource) kind

      behind : Reached → Does Finished
      behind reached = tree.Responds site room inner resource kind canon reached.ended >>= λ value. filters.Afters site.listeners reached.passed >> gives value

      rest : (given : Reached) (between : State) (back : List Record) → behind given between back y result
          → ((Some given ≡ None) ⊎ ((reached : Reached) × (Some given ≡ Some reached) × (reached.passed ≡ [])
          × (((finished : Finished) × (reached.ended ≡ Some finished)) ⊎ ((reached.ended ≡ None) × (between ≡ x)))))
          → r ≡ back → BeginsWith [] r
      rest given between back done (inl none) joined = absurd_result given (sym none)
      rest given between back done (inr (reached, is, none, inl ended)) joined =
          let same = same_result given reached is in
          none_begins r (joined ∙ behind_none resource kind canon given between y back result (ap (λ g. g.passed) same ∙ none)
          (λ x y r result. responds_none resource kind canon given.ended ended.0 x y r result (ap (λ g. g.ended) same ∙ ended.1)) done)
      rest given between back done (inr (reached, is, none, inr going)) joined =
          let same = same_result given reached is in
          elim (behind_begins resource kind canon given between y back result (ap (λ s. s.exchange.buffer) going.1 ∙ empty)
          (ap (λ g. g.passed) same ∙ none) (ap (λ g. g.ended) same ∙ going.0) done) [
            | inl begins ↦ begun_begins r (subst Begun (sym joined) begins)
            | inr silent ↦ none_begins r (joined ∙ silent)
          ]

  dispatch_begins : (canon : Canon) (x y : State) (r : List Record) (result : Option Finished) → tree.Dispatch site room inner kinds.Forward canon x r y result → BeginsWith [] r
  dispatch_begins canon x y r result h =
      elim (tries_then (on_exchange (begun site kinds.Forward canon))
      (λ _. tree.Within site room inner (chosen site canon.path).resource kinds.Forward canon >>= λ finished. leaves >> gives finished) x y r result h) [
        | inr not ↦ none_begins r not.0
        | inl (inr t) ↦ within_begins (chosen site canon.path).resource kinds.Forward canon (on_exchange (begun site kinds.Forward canon) x) y r None refl t.0
        | inl (inl t) ↦ subst (BeginsWith []) (sym (t.is_joined ∙ ap (λ s. t.front ++ s) (left_none t.given t.between t.back t.goes_on) ∙ append-nil t.front))
            (within_begins (chosen site canon.path).resource kinds.Forward canon (on_exchange (begun site kinds.Forward canon) x) t.between t.front (Some t.given) refl t.begins)
      ]
    where
      left_none : (value : Finished) (x : State) (r : List Record) → (leaves >> gives value) x r y result → r ≡ []
      left_none value x r (inl t) = t.is_joined ∙ ap (λ s. t.front ++ s) t.goes_on.0 ∙ ap (λ s. s ++ []) t.begins.2
      left_none value x r (inr t) = t.0.2

pub forwards_begin_empty : (site : Site) → ForwardsBeginEmpty site
unfolding Tree
forwards_begin_empty site zero canon x y r result h = absurd h
forwards_begin_empty site (suc room) canon x y r result h = dispatch_begins site room (Tree site room) canon x y r result h
