-- Servlets are called only while they are in service.
use Rattle.std.specs.Prelude.{slice_set}
use Rattle.std.proofs.Common.{◌≡◌, ℕ, Bool, true, false, List, [], ◌∷◌, ◌++◌, None, Some, refl, sym, ap, ◌∙◌, subst}
use Rattle.sv_component.specs.Runs.{Record}
use Rattle.sv_component.specs.declared.answers.Step.{Step}
use Rattle.sv_component.specs.declared.answers.Step.TheVariants as steps
use Rattle.sv_exchange.specs.Changing.{Reaches}
use Rattle.sv_exchange.specs.Dispatches.{entered}
use Rattle.sv_session.specs.declared.event.Event.{Event}
use Rattle.sv_mapping.specs.declared.kind.Kind.{Kind}
use Rattle.sv_mapping.specs.declared.kind.Kind.TheVariants as kinds
use Rattle.sv_tree.specs.Filters.{after_of, before_of}
use Rattle.sv_tree.specs.Laws.{AreOfServing, OnlyServingAreCalled, stands_after, stands_after_all}
use Rattle.sv_tree.specs.Site.{Site, begun, paths_in}
use Rattle.sv_tree.specs.State.{Exchange, State, Standing, Serving, Away, moment_after, counted, on_exchange}
use Rattle.sv_tree.specs.Telling.{all_told}
use Rattle.sv_tree.specs.Tree.{service_of}
use Rattle.sv_tree.proofs.Changing.{emptied_request, emptied_unchanged, made_unchanged, called_unchanged, unchanged}
use Rattle.sv_tree.proofs.Doing.{not_true}
use Rattle.sv_tree.proofs.Hearing.{all_keep_alone}
use Rattle.sv_tree.proofs.Keeping.{FilterSteps, Opens, Steps, away_by, called, came, stands, told_by, tree_keeps, within_keeps}
use Rattle.sv_uri.specs.declared.path.Canon.{Canon}

abbrev Serves : ℕ → State → List Record → State → Bool → Type 0
Serves room x r y b =
    AreOfServing x.exchange.moment x.standings r
    × (b ≡ true → y.standings ≡ stands_after_all x.exchange.moment r x.standings)
    × (y.exchange.moment ≡ x.exchange.moment)

stands-append : (moment : ℕ) (r s : List Record) (standings : List Standing)
    → stands_after_all moment (r ++ s) standings ≡ stands_after_all moment s (stands_after_all moment r standings)
stands-append moment [] s standings = refl
stands-append moment (call ∷ r) s standings = stands-append moment r s (stands_after moment call standings)

serving-append : (moment : ℕ) (r s : List Record) (standings : List Standing) → AreOfServing moment standings r
    → AreOfServing moment (stands_after_all moment r standings) s → AreOfServing moment standings (r ++ s)
serving-append moment [] s standings one two = two
serving-append moment (call ∷ r) s standings one two = (one.0, serving-append moment r s (stands_after moment call standings) one.1 two)

serve_joins : (room : ℕ) (x y z : State) (r s : List Record) (b : Bool) → Serves room x r y true → Serves room y s z b → Serves room x (r ++ s) z b
serve_joins room x y z r s b one two =
    let moment = x.exchange.moment in
    let second = subst (λ standings. AreOfServing y.exchange.moment standings s × (b ≡ true → z.standings ≡ stands_after_all y.exchange.moment s standings))
    (one.1 refl) (two.0, two.1) in
    let last = subst (λ m. AreOfServing m (stands_after_all moment r x.standings) s × (b ≡ true → z.standings ≡ stands_after_all m s (stands_after_all moment r x.standings)))
    one.2 second in (
      serving-append moment r s x.standings one.0 last.0,
      λ h. last.1 h ∙ sym (stands-append moment r s x.standings),
      two.2 ∙ one.2,
    )

served : (x : State) (place turn : ℕ) (step : Step) (e : Exchange) → stands place x ≡ Serving → Reaches (counted x).exchange e
    → Serves 0 x (service_of place turn (counted x).exchange step e ∷ []) (away_by place step (called e x)) true
served x place turn (steps.Unavailable None) e serving changes = ((serving, tt), λ _. refl, (called_unchanged x.exchange e changes).0.moment)
served x place turn (steps.Unavailable (Some seconds)) e serving changes = (
  (serving, tt),
  λ _. ap (λ m. slice_set x.standings place (Away (moment_after m seconds))) (called_unchanged x.exchange e changes).0.moment,
  (called_unchanged x.exchange e changes).0.moment,
)
served x place turn steps.Done e serving changes = ((serving, tt), λ _. refl, (called_unchanged x.exchange e changes).0.moment)
served x place turn (steps.Forward text) e serving changes = ((serving, tt), λ _. refl, (called_unchanged x.exchange e changes).0.moment)
served x place turn (steps.Include text) e serving changes = ((serving, tt), λ _. refl, (called_unchanged x.exchange e changes).0.moment)
served x place turn (steps.Error code text) e serving changes = ((serving, tt), λ _. refl, (called_unchanged x.exchange e changes).0.moment)
served x place turn (steps.Failed kind text) e serving changes = ((serving, tt), λ _. refl, (called_unchanged x.exchange e changes).0.moment)
served x place turn steps.NoMemory e serving changes = ((serving, tt), λ _. refl, (called_unchanged x.exchange e changes).0.moment)

-- Notifications do not change the availability of servlets.
stands-told : (moment listeners : ℕ) (events : List Event) (standings : List Standing) → stands_after_all moment (all_told listeners events) standings ≡ standings
stands-told moment listeners events standings =
    all_keep_alone (λ r. stands_after_all moment r standings ≡ standings) (λ place event r h. h) listeners events refl

serving-told : (moment listeners : ℕ) (events : List Event) (standings : List Standing) → AreOfServing moment standings (all_told listeners events)
serving-told moment listeners events standings = all_keep_alone (AreOfServing moment standings) (λ place event r h. (tt, h)) listeners events tt

-- The same, followed by notifications.
then_told : (site : Site) (room : ℕ) (x y : State) (r : List Record) (b : Bool) (e : Exchange) → Serves room x r y b → Serves room x (r ++ told_by site e) y b
then_told site room x y r b e h =
    let moment = x.exchange.moment in
    let standings = stands_after_all moment r x.standings in (
      serving-append moment r (told_by site e) x.standings h.0 (serving-told moment site.listeners e.events standings),
      λ came. h.1 came ∙ sym (stands-append moment r (told_by site e) x.standings ∙ stands-told moment site.listeners e.events standings),
      h.2,
    )

module _ (site : Site) where
  begun_moment : (kind : Kind) (canon : Canon) (x : Exchange) → (begun site kind canon x).moment ≡ x.moment
  begun_moment kind canon x = (emptied_request kind (entered kind (paths_in site canon x) x)).moment

  same_moment : (kind : Kind) (canon : Canon) (room : ℕ) (x y : State) (r : List Record) (b : Bool) → Serves room (on_exchange (begun site kind canon) x) r y b
      → Serves room x r y b
  same_moment kind canon room x y r b h =
      subst (λ m. AreOfServing m x.standings r × (b ≡ true → y.standings ≡ stands_after_all m r x.standings) × (y.exchange.moment ≡ m))
      (begun_moment kind canon x.exchange) h

  opens : (kind : Kind) → Opens site Serves kind
  opens kind room canon = record {
    stays = λ x. (tt, λ _. refl, refl);
    ends = λ x y z r h left. let same = same_moment kind canon room x y r true h in
        (same.0, same.1, sym (ap (λ e. e.moment) left.1) ∙ same.2);
    breaks = λ x y r h. same_moment kind canon room x y r false h;
  }

  law : Steps site Serves
  law = record {
    stays = λ room x b. (tt, λ _. refl, refl);
    joins = serve_joins;
    keeps = λ room x kept own. (tt, λ _. refl, refl);
    makes = λ room x change own. (tt, λ _. refl, (made_unchanged change x.exchange).0.moment);
    empties = λ room x. (tt, λ _. refl, (emptied_unchanged x.exchange).0.moment);
    breaks = λ room x place turn step e left serving changes.
        then_told site room x (called e x) (service_of place turn (counted x).exchange step e ∷ []) false e
        ((serving, tt), not_true, (called_unchanged x.exchange e changes).0.moment);
    serves = λ room x place turn step e left serving changes.
        then_told site room x (away_by place step (called e x)) (service_of place turn (counted x).exchange step e ∷ []) true e
        (served x place turn step e serving changes);
    destroys = λ room x place b serving. ((serving, tt), λ _. refl, refl);
    forwards = opens kinds.Forward;
    includes = opens kinds.Include;
  }

  filters : FilterSteps site Serves
  filters = record {
    before = λ room place x gate e b left changes.
        then_told site room x (called e x) (before_of place (counted x).exchange gate e ∷ []) b e
        ((tt, tt), λ _. refl, (called_unchanged x.exchange e changes).0.moment);
    after = λ room place x done e b changes.
        then_told site room x (called e x) (after_of place x.exchange done e ∷ []) b e
        ((tt, tt), λ _. refl, (unchanged x.exchange e changes).0.moment);
  }

  pub only_serving_are_called : OnlyServingAreCalled site
  only_serving_are_called room kind canon x y r result h =
      let kept = tree_keeps site Serves law (within_keeps site Serves law filters) room kind (opens kind) canon x y r result h in
      (kept.0, λ finished e. kept.1 (ap came e))
