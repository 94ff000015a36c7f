-- Each filter that passed is called exactly once more, last first.
use Rattle.std.proofs.Common.{◌≡◌, inl, inr, ℕ, Bool, true, List, [], ◌∷◌, ◌++◌, Option, None, Some, refl, sym, ap, ◌∙◌, subst, if◌then◌else◌, eq-eqb}
use Rattle.sv_component.specs.Runs.{OfListener, Record}
use Rattle.sv_component.specs.declared.answers.Gate.{Gate}
use Rattle.sv_component.specs.declared.answers.Gate.TheVariants as gates
use Rattle.sv_component.specs.declared.answers.Step.{Step}
use Rattle.sv_session.specs.declared.event.Event.{Event}
use Rattle.sv_mapping.specs.declared.kind.Kind.{Kind}
use Rattle.sv_mapping.specs.declared.kind.Kind.TheVariants as kinds
use Rattle.sv_tree.specs.Asking.{asks}
use Rattle.sv_tree.specs.Does.{Does, ◌>>=◌, ◌>>◌, becomes, gives, refuses}
use Rattle.sv_tree.specs.Endings as endings
use Rattle.sv_tree.specs.Filters as filters
use Rattle.sv_tree.specs.Filters.{Reached, after_of, before_of}
use Rattle.sv_tree.specs.Laws.{FiltersAreClosed, close, owed_after, owed_then}
use Rattle.sv_tree.specs.Site.{Resource, Site, name_of}
use Rattle.sv_tree.specs.State.{Exchange, State, counted, is_full}
use Rattle.sv_tree.specs.Telling.{all_told}
use Rattle.sv_tree.specs.Tree as tree
use Rattle.sv_tree.specs.declared.finished.DispatchFault.TheVariants.{DispatchLimit}
use Rattle.sv_tree.specs.declared.finished.Finished.{Finished}
use Rattle.sv_tree.specs.declared.finished.Finished.TheVariants.{Done}
use Rattle.sv_tree.proofs.Doing.{absurd_result, becomes_then, chosen_then, not_true, same_result, wants_then}
use Rattle.sv_tree.proofs.Hearing.{all_keep, all_keep_alone}
use Rattle.sv_tree.proofs.Keeping.{Opens, Steps, WithinKeeps, told_by, tree_keeps}
use Rattle.sv_tree.proofs.Silence.{Silent, fails_silent, faults_silent, gives_silent}

owed-None : (s : List Record) → owed_then s None ≡ None
owed-None [] = refl
owed-None (call ∷ s) = refl

owed-append : (r s : List Record) (owed : Option (List ℕ)) → owed_then (r ++ s) owed ≡ owed_then s (owed_then r owed)
owed-append [] s owed = refl
owed-append (call ∷ r) s None = sym (owed-None s)
owed-append (call ∷ r) s (Some owed) = owed-append r s (owed_after call owed)

owes-append : (r s : List Record) (one two three : List ℕ) → owed_then r (Some one) ≡ Some two → owed_then s (Some two) ≡ Some three
    → owed_then (r ++ s) (Some one) ≡ Some three
owes-append r s one two three first second = owed-append r s (Some one) ∙ ap (owed_then s) first ∙ second

-- Notifications do not change the filters that await their `after`.
owed_heard : (place : ℕ) (event : Event) (r : List Record) (owed : Option (List ℕ)) → owed_then (OfListener place event ∷ r) owed ≡ owed_then r owed
owed_heard place event r None = sym (owed-None r)
owed_heard place event r (Some owed) = refl

told_skips : (listeners : ℕ) (events : List Event) (s : List Record) (owed : Option (List ℕ)) → owed_then (all_told listeners events ++ s) owed ≡ owed_then s owed
told_skips listeners events s owed =
    all_keep (λ r. owed_then r owed ≡ owed_then s owed) (λ place event r h. owed_heard place event r owed ∙ h) listeners events s refl

told_owes : (listeners : ℕ) (events : List Event) (owed : List ℕ) → owed_then (all_told listeners events) (Some owed) ≡ Some owed
told_owes listeners events owed =
    all_keep_alone (λ r. owed_then r (Some owed) ≡ Some owed) (λ place event r h. h) listeners events refl

-- A program with a result leaves the filters that awaited their `after` as they were.
abbrev Closes : ℕ → State → List Record → State → Bool → Type 0
Closes room x r y b = b ≡ true → (owed : List ℕ) → owed_then r (Some owed) ≡ Some owed

served : (site : Site) (place turn : ℕ) (x e : Exchange) (step : Step) (owed : List ℕ)
    → owed_then (tree.service_of place turn x step e ∷ told_by site e) (Some owed) ≡ Some owed
served site place turn x e step owed = told_owes site.listeners e.events owed

module _ (site : Site) where
  opens : (kind : Kind) → Opens site Closes kind
  opens kind room canon = record {
    stays = λ x b. not_true b;
    ends = λ x y z r h left b. h refl;
    breaks = λ x y r h b. not_true b;
  }

  law : Steps site Closes
  law = record {
    stays = λ room x b came owed. refl;
    joins = λ room x y z r s b one two came owed. owes-append r s owed owed owed (one refl owed) (two came owed);
    keeps = λ room x kept own came owed. refl;
    makes = λ room x change own came owed. refl;
    empties = λ room x came owed. refl;
    breaks = λ room x place turn step e left serving changes b. not_true b;
    serves = λ room x place turn step e left serving changes came owed. served site place turn (counted x).exchange e step owed;
    destroys = λ room x place b serving came owed. refl;
    forwards = opens kinds.Forward;
    includes = opens kinds.Include;
  }

-- Ending a dispatch at a filter calls no component.
ends_none : (passed : List ℕ) (ending : Does Finished) (x y : State) (r : List Record) (reached : Reached) → Silent ending
    → filters.ends_behind passed ending x r y (Some reached) → (r ≡ []) × (reached.passed ≡ passed)
ends_none passed ending x y r reached none (inr t) = absurd_result reached (sym t.1)
ends_none passed ending x y r reached none (inl t) = (
  t.is_joined ∙ ap (λ back. t.front ++ back) t.goes_on.0 ∙ ap (λ front. front ++ []) (none x t.between t.front (Some t.given) t.begins),
  ap (λ reached. reached.passed) (same_result reached (record { passed = passed; ended = Some t.given }) t.goes_on.2),
)

module _ (site : Site) (resource : Resource) where
  ended_owes : (passed : List ℕ) (filter : ℕ) (gate : Gate) (ending : Does Finished) (before after : Exchange) (x y : State) (r : List Record) (reached : Reached) (owed : List ℕ)
      → ((s : List Record) (owed : List ℕ) → owed_then (before_of filter before gate after ∷ s) (Some owed) ≡ owed_then s (Some owed))
      → Silent ending → filters.ends_behind passed ending x r y (Some reached)
      → owed_then (before_of filter before gate after ∷ r) (Some (passed ++ owed)) ≡ Some (reached.passed ++ owed)
  ended_owes passed filter gate ending before after x y r reached owed skips silent done =
      let none = ends_none passed ending x y r reached silent done in
      skips r (passed ++ owed) ∙ ap (λ s. owed_then s (Some (passed ++ owed))) none.0 ∙ ap (λ p. Some (p ++ owed)) (sym none.1)

  gated_owes : (passed : List ℕ) (filter : ℕ) (gate : Gate) (next : Does Reached) (before after : Exchange)
      → ((x y : State) (r : List Record) (reached : Reached) (owed : List ℕ) → next x r y (Some reached)
      → owed_then r (Some ((filter ∷ passed) ++ owed)) ≡ Some (reached.passed ++ owed))
      → (x y : State) (r : List Record) (reached : Reached) (owed : List ℕ) → filters.Gated site resource passed gate next x r y (Some reached)
      → owed_then (before_of filter before gate after ∷ r) (Some (passed ++ owed)) ≡ Some (reached.passed ++ owed)
  gated_owes passed filter gates.Pass next before after h x y r reached owed done = h x y r reached owed done
  gated_owes passed filter gates.Stop next before after h x y r reached owed done =
      ended_owes passed filter gates.Stop (gives Done) before after x y r reached owed (λ s owed. refl) (gives_silent Done) done
  gated_owes passed filter (gates.Failed kind text) next before after h x y r reached owed done =
      ended_owes passed filter (gates.Failed kind text) (endings.fails site resource kind text) before after x y r reached owed (λ s owed. refl)
      (fails_silent site resource kind text) done
  gated_owes passed filter gates.NoMemory next before after h x y r reached owed done = absurd_result reached (sym done.2)

  befores_owe : (passed chain : List ℕ) (x y : State) (r : List Record) (reached : Reached) (owed : List ℕ)
      → filters.Befores site resource passed chain x r y (Some reached) → owed_then r (Some (passed ++ owed)) ≡ Some (reached.passed ++ owed)
  befores_owe passed [] x y r reached owed h =
      ap (λ s. owed_then s (Some (passed ++ owed))) h.0
      ∙ ap (λ reached. Some (reached.passed ++ owed)) (sym (same_result reached (record { passed = passed; ended = None }) h.2))
  befores_owe passed (filter ∷ chain) x y r reached owed h =
      let next = filters.Befores site resource (filter ∷ passed) chain in
      let ending = endings.faults site resource DispatchLimit in
      let call = (asks site.listeners (before_of filter) >>= λ gate. filters.Gated site resource passed gate next) in
      chosen_then (is_full x) (filters.ends_behind passed ending) (becomes counted >> call) x y r (Some reached)
      (λ _ full. let none = ends_none passed ending x y r reached (faults_silent site resource DispatchLimit) full in
      ap (λ s. owed_then s (Some (passed ++ owed))) none.0 ∙ ap (λ p. Some (p ++ owed)) (sym none.1))
      (λ _ made. called (befores_owe (filter ∷ passed) chain) (becomes_then counted (λ _. call) x y r (Some reached) made)) h
    where
      called : ((x y : State) (r : List Record) (reached : Reached) (owed : List ℕ) → filters.Befores site resource (filter ∷ passed) chain x r y (Some reached)
          → owed_then r (Some ((filter ∷ passed) ++ owed)) ≡ Some (reached.passed ++ owed))
          → (asks site.listeners (before_of filter) >>= λ gate. filters.Gated site resource passed gate (filters.Befores site resource (filter ∷ passed) chain)) (counted x) r y (Some reached)
          → owed_then r (Some (passed ++ owed)) ≡ Some (reached.passed ++ owed)
      called rest (inr t) = absurd_result reached (sym t.1)
      called rest (inl t) =
          let asked = t.begins in
          elim asked.ends [
            | inl same ↦ ap (λ s. owed_then s (Some (passed ++ owed))) (t.is_joined ∙ ap (λ front. front ++ t.back) asked.is_made)
                ∙ told_skips site.listeners asked.exchange.events t.back (owed_after (before_of filter (counted x).exchange asked.answer asked.exchange) (passed ++ owed))
                ∙ gated_owes passed filter asked.answer (filters.Befores site resource (filter ∷ passed) chain) (counted x).exchange asked.exchange rest t.between y t.back reached owed
                (subst (λ gate. filters.Gated site resource passed gate (filters.Befores site resource (filter ∷ passed) chain) t.between t.back y (Some reached))
                (same_result t.given asked.answer same) t.goes_on)
            | inr none ↦ absurd_result t.given (sym none)
          ]

closed_here : (filter : ℕ) (owed : List ℕ) → close filter (filter ∷ owed) ≡ Some owed
closed_here filter owed = ap (λ b. if b then Some owed else None) (eq-eqb filter filter refl)

afters_owe : (listeners : ℕ) (chain : List ℕ) (x y : State) (r : List Record) (given : Unit {0}) (owed : List ℕ)
    → filters.Afters listeners chain x r y (Some given) → owed_then r (Some (chain ++ owed)) ≡ Some owed
afters_owe listeners [] x y r given owed h = ap (λ s. owed_then s (Some owed)) h.0
afters_owe listeners (filter ∷ chain) x y r given owed (inr t) = absurd_result given (sym t.1)
afters_owe listeners (filter ∷ chain) x y r given owed (inl t) =
    ap (λ s. owed_then s (Some ((filter ∷ chain) ++ owed))) (t.is_joined ∙ ap (λ front. front ++ t.back) t.begins.is_made)
    ∙ ap (owed_then (all_told listeners t.begins.exchange.events ++ t.back)) (closed_here filter (chain ++ owed))
    ∙ told_skips listeners t.begins.exchange.events t.back (Some (chain ++ owed))
    ∙ chosen_then t.given (filters.Afters listeners chain) refuses t.between y t.back (Some given)
    (λ _ on. afters_owe listeners chain t.between y t.back given owed on) (λ _ ended. absurd_result given (sym ended.2)) t.goes_on

within_owes : (site : Site) → WithinKeeps site Closes
within_owes site room inner resource kind canon responds x y r None h e = not_true e
within_owes site room inner resource kind canon responds x y r (Some result) h e = λ owed.
    elim (wants_then (λ _. filters.Befores site resource [] chain >>= behind) x y r (Some result) h) [
      | inr not ↦ absurd_result result (sym not.2)
      | inl (inr t) ↦ absurd_result result (sym t.1)
      | inl (inl t) ↦ subst (λ s. owed_then s (Some owed) ≡ Some owed) (sym t.is_joined)
          (owes-append t.front t.back owed (t.given.passed ++ owed) owed
          (befores_owe site resource [] chain x t.between t.front t.given owed t.begins)
          (rest owed t.between t.back t.given t.goes_on))
    ]
  where
    chain : List ℕ
    chain = site.chain canon.path (name_of site resource) kind

    behind : Reached → Does Finished
    behind reached = tree.Responds site room inner resource kind canon reached.ended >>= λ result. filters.Afters site.listeners reached.passed >> gives result

    final : (owed : List ℕ) (passed : List ℕ) (value : Finished) (x y : State) (r : List Record)
        → (filters.Afters site.listeners passed >> gives value) x r y (Some result) → owed_then r (Some (passed ++ owed)) ≡ Some owed
    final owed passed value x y r (inr t) = absurd_result result (sym t.1)
    final owed passed value x y r (inl t) =
        ap (λ s. owed_then s (Some (passed ++ owed))) (t.is_joined ∙ ap (λ back. t.front ++ back) t.goes_on.0)
        ∙ owes-append t.front [] (passed ++ owed) owed owed (afters_owe site.listeners passed x t.between t.front t.given owed t.begins) refl

    rest : (owed : List ℕ) (x : State) (r : List Record) (reached : Reached) → behind reached x r y (Some result) → owed_then r (Some (reached.passed ++ owed)) ≡ Some owed
    rest owed x r reached (inr u) = absurd_result result (sym u.1)
    rest owed x r reached (inl u) =
        ap (λ s. owed_then s (Some (reached.passed ++ owed))) u.is_joined
        ∙ owes-append u.front u.back (reached.passed ++ owed) (reached.passed ++ owed) owed
        (responds reached.ended x u.between u.front (Some u.given) u.begins refl (reached.passed ++ owed))
        (final owed reached.passed u.given u.between y u.back u.goes_on)

pub filters_are_closed : (site : Site) → FiltersAreClosed site
filters_are_closed site room kind canon x y r finished owed h =
    tree_keeps site Closes (law site) (within_owes site) room kind (opens site kind) canon x y r (Some finished) h refl owed
