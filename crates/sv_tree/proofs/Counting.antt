-- Calls are counted.
use Rattle.std.proofs.Common.{◌≡◌, ℕ, suc, ◌+◌, ◌≤◌, ◌<◌, Bool, true, false, List, [], ◌∷◌, ◌++◌, ◌∙◌, refl, sym, ap, subst, arith, zero-add}
use Rattle.std.proofs.lemmas.Bool.{leb-false}
use Rattle.sv_component.specs.Runs.{Record}
use Rattle.sv_session.specs.declared.event.Event.{Event}
use Rattle.sv_mapping.specs.declared.kind.Kind.{Kind}
use Rattle.sv_mapping.specs.declared.kind.Kind.TheVariants as kinds
use Rattle.sv_tree.specs.Laws.{CallsAreCounted, count_all}
use Rattle.sv_exchange.specs.Dispatches.{Leaves}
use Rattle.sv_tree.specs.Site.{Site, begun}
use Rattle.sv_tree.specs.State.{Exchange, State, counted, is_full, on_exchange, with_exchange}
use Rattle.sv_tree.specs.Telling.{all_told}
use Rattle.sv_tree.specs.Tree.{Tree, Turn}
use Rattle.sv_uri.specs.declared.path.Canon.{Canon}
use Rattle.sv_tree.specs.declared.limits.TheConstants.{MAX_CALLS}
use Rattle.sv_tree.proofs.Changing.{begun_account, changes_account, emptied_account, left_account, made_account}
use Rattle.sv_tree.proofs.Hearing.{all_keep_alone}
use Rattle.sv_tree.proofs.Keeping.{FilterSteps, Keeps, Opens, Steps, away_calls, told_by, tree_keeps, turn_keeps, within_keeps}

abbrev pub Counts : ℕ → State → List Record → State → Bool → Type 0
Counts room x r y b = (y.exchange.calls ≡ count_all r + x.exchange.calls) × (x.exchange.calls ≤ MAX_CALLS → y.exchange.calls ≤ MAX_CALLS)

count-append : (r s : List Record) → count_all (r ++ s) ≡ count_all r + count_all s
count-append [] s = sym (zero-add (count_all s))
count-append (call ∷ r) s = let e : count_all (r ++ s) ≡ count_all r + count_all s = count-append r s in omega arith

-- Notifications are not counted.
count-told : (listeners : ℕ) (events : List Event) → count_all (all_told listeners events) ≡ 0
count-told listeners events = all_keep_alone (λ r. count_all r ≡ 0) (λ place event r h. zero-add (count_all r) ∙ h) listeners events refl

one_more : (site : Site) (x : State) (e : Exchange) (calls : ℕ) → is_full x ≡ false → calls ≡ suc x.exchange.calls
    → (calls ≡ (1 + count_all (told_by site e)) + x.exchange.calls) × (x.exchange.calls ≤ MAX_CALLS → calls ≤ MAX_CALLS)
one_more site x e calls left more =
    let below : x.exchange.calls < MAX_CALLS = leb-false MAX_CALLS x.exchange.calls left in
    let one : calls ≡ suc x.exchange.calls = more in
    let heard : count_all (told_by site e) ≡ 0 = count-told site.listeners e.events in
    (omega (arith, one, heard), λ _. omega (arith, one, below))

pub none_more : (calls before : ℕ) → calls ≡ before → (calls ≡ 0 + before) × (before ≤ MAX_CALLS → calls ≤ MAX_CALLS)
none_more calls before same = (same ∙ sym (zero-add before), λ h. subst (λ n. n ≤ MAX_CALLS) (sym same) h)

-- A call that does not count, with its notifications.
told_more : (site : Site) (e : Exchange) (calls before : ℕ) → calls ≡ before
    → (calls ≡ (0 + count_all (told_by site e)) + before) × (before ≤ MAX_CALLS → calls ≤ MAX_CALLS)
told_more site e calls before same =
    let heard : count_all (told_by site e) ≡ 0 = count-told site.listeners e.events in
    (omega (arith, same, heard), λ h. subst (λ n. n ≤ MAX_CALLS) (sym same) h)

module _ (site : Site) where
  dispatch_counts : (kind : Kind) (canon : Canon) (x y : State) (z : Exchange) (r : List Record) → Leaves y.exchange z
      → Counts 0 (on_exchange (begun site kind canon) x) r y true → Counts 0 x r (with_exchange z y) true
  dispatch_counts kind canon x y z r left h =
      let begins = (begun_account site kind canon x.exchange).0 in
      let ends = (left_account y.exchange z left).0 in (
        ends ∙ h.0 ∙ ap (λ n. count_all r + n) begins,
        λ below. subst (λ n. n ≤ MAX_CALLS) (sym ends) (h.1 (subst (λ n. n ≤ MAX_CALLS) (sym begins) below)),
      )

  broken_counts : (kind : Kind) (canon : Canon) (x y : State) (r : List Record)
      → Counts 0 (on_exchange (begun site kind canon) x) r y false → Counts 0 x r y false
  broken_counts kind canon x y r h =
      let begins = (begun_account site kind canon x.exchange).0 in
      (h.0 ∙ ap (λ n. count_all r + n) begins, λ below. h.1 (subst (λ n. n ≤ MAX_CALLS) (sym begins) below))

  pub opens : (kind : Kind) → Opens site Counts kind
  opens kind room canon = record {
    stays = λ x. none_more x.exchange.calls x.exchange.calls refl;
    ends = λ x y z r h left. dispatch_counts kind canon x y z r left h;
    breaks = λ x y r h. broken_counts kind canon x y r h;
  }

  pub law : Steps site Counts
  law = record {
    stays = λ room x b. none_more x.exchange.calls x.exchange.calls refl;
    joins = λ room x y z r s b one two.
        let e : count_all (r ++ s) ≡ count_all r + count_all s = count-append r s in
        let first : y.exchange.calls ≡ count_all r + x.exchange.calls = one.0 in
        let second : z.exchange.calls ≡ count_all s + y.exchange.calls = two.0 in
        (omega (arith, e, first, second), λ h. two.1 (one.1 h));
    keeps = λ room x kept own. none_more x.exchange.calls x.exchange.calls refl;
    makes = λ room x change own. none_more _ x.exchange.calls (made_account change x.exchange).0;
    empties = λ room x. none_more _ x.exchange.calls (emptied_account x.exchange).0;
    breaks = λ room x place turn step e left serving changes. one_more site x e e.calls left (changes_account (counted x).exchange e changes).0;
    serves = λ room x place turn step e left serving changes. one_more site x e _ left (away_calls x place step e changes);
    destroys = λ room x place b serving. none_more x.exchange.calls x.exchange.calls refl;
    forwards = opens kinds.Forward;
    includes = opens kinds.Include;
  }

  filters : FilterSteps site Counts
  filters = record {
    before = λ room place x gate e b left changes. one_more site x e e.calls left (changes_account (counted x).exchange e changes).0;
    after = λ room place x done e b changes. told_more site e e.calls x.exchange.calls (changes_account x.exchange e changes).0;
  }

  pub calls_are_counted : CallsAreCounted site
  calls_are_counted room kind canon x y r result h =
      tree_keeps site Counts law (within_keeps site Counts law filters) room kind (opens kind) canon x y r result h

  -- A turn and its effect.
  pub turn_counts : (room place turn : ℕ) → Keeps site Counts room (Turn site room (Tree site room) place turn)
  turn_counts room place turn =
      turn_keeps site Counts law room (Tree site room) (λ canon x y r result h. calls_are_counted room kinds.Forward canon x y r result h)
      (λ canon x y r result h. calls_are_counted room kinds.Include canon x y r result h) place turn
