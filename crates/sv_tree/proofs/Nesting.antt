-- Dispatches nest, and each restores the request when it ends.
use Rattle.std.specs.Prelude.{length}
use Rattle.std.proofs.Common.{◌≡◌, ℕ, suc, ◌+◌, ◌≤◌, Bool, true, List, [], ◌∷◌, ◌++◌, Option, Some, refl, sym, ap, ◌∙◌, subst, arith}
use Rattle.std.proofs.lemmas.List.{length-append}
use Rattle.sv_component.specs.Runs.{Record}
use Rattle.sv_component.specs.declared.answers.Step.{Step}
use Rattle.sv_exchange.specs.Changing.{Reaches}
use Rattle.sv_exchange.specs.Dispatches.{Leaves, client_in, entered, error_in}
use Rattle.sv_exchange.specs.Keeping as counting
use Rattle.sv_session.specs.declared.event.Event.{Event}
use Rattle.sv_mapping.specs.declared.kind.Kind.{Kind}
use Rattle.sv_mapping.specs.declared.kind.Kind.TheVariants as kinds
use Rattle.sv_tree.specs.Laws.{AreWithin, DispatchesEnd, DispatchesNest, KeepsRequest}
use Rattle.sv_tree.specs.Site.{Site, begun, chosen, paths_in}
use Rattle.sv_tree.specs.State.{Exchange, State, counted}
use Rattle.sv_tree.specs.Telling.{all_told}
use Rattle.sv_tree.specs.Tree.{Tree, Within, service_of}
use Rattle.sv_tree.specs.declared.finished.Finished.{Finished}
use Rattle.sv_tree.proofs.Changing.{begun_dispatches, emptied_request, emptied_unchanged, made_unchanged, request_then, same_dispatches, same_request, called_unchanged, unchanged}
use Rattle.sv_tree.proofs.Doing.{not_true}
use Rattle.sv_tree.proofs.Hearing.{all_keep_alone}
use Rattle.sv_tree.proofs.Keeping.{FilterSteps, Keeps, Opens, Steps, away_by, away_unchanged, called, came, told_by, inside_keeps, tree_gives, tree_keeps, within_keeps}
use Rattle.sv_uri.specs.declared.path.Canon.{Canon}

-- If there is a result, the exchange shows the same request.
abbrev pub Shows : ℕ → State → List Record → State → Bool → Type 0
Shows room x r y b = b ≡ true → KeepsRequest x.exchange y.exchange

module _ (site : Site) where
  -- A dispatch, from its beginning to its end.
  dispatch_shows : (kind : Kind) (canon : Canon) (x y z : Exchange) → KeepsRequest (begun site kind canon x) y → Leaves y z
      → KeepsRequest record x { client = client_in kind (paths_in site canon x) x.client } z
  dispatch_shows kind canon x y z same left =
      let from = request_then (entered kind (paths_in site canon x) x) (begun site kind canon x) y (emptied_request kind (entered kind (paths_in site canon x) x)) same in
      record {
        method = sym (ap (λ e. e.method) left.1) ∙ from.method;
        context_path = sym (ap (λ e. e.context_path) left.1) ∙ from.context_path;
        cookie_settings = sym (ap (λ e. e.cookie_settings) left.1) ∙ from.cookie_settings;
        request_fields = sym (ap (λ e. e.request_fields) left.1) ∙ from.request_fields;
        body = sym (ap (λ e. e.body) left.1) ∙ from.body;
        moment = sym (ap (λ e. e.moment) left.1) ∙ from.moment;
        reads_chunks = sym (ap (λ e. e.reads_chunks) left.1) ∙ from.reads_chunks;
        client = sym (ap (λ e. e.client) left.1) ∙ from.client;
        dispatches = same_dispatches site kind canon x y z same.dispatches left;
      }

  -- A dispatch of a kind other than a request keeps the client's own paths.
  inner_shows : (kind : Kind) → ((canon : Canon) (x : Exchange) → client_in kind (paths_in site canon x) x.client ≡ x.client) → Opens site Shows kind
  inner_shows kind client room canon = record {
    stays = λ x b. not_true b;
    ends = λ x y z r h left b. let same = dispatch_shows kind canon x.exchange y.exchange z (h refl) left in record {
      method = same.method;
      context_path = same.context_path;
      cookie_settings = same.cookie_settings;
      request_fields = same.request_fields;
      body = same.body;
      moment = same.moment;
      reads_chunks = same.reads_chunks;
      client = same.client ∙ client canon x.exchange;
      dispatches = same.dispatches;
    };
    breaks = λ x y r h b. not_true b;
  }

  pub shows : Steps site Shows
  shows = record {
    stays = λ room x b came. same_request x.exchange x.exchange refl;
    joins = λ room x y z r s b one two came. request_then x.exchange y.exchange z.exchange (one refl) (two came);
    keeps = λ room x kept own came.
        record { method = refl; context_path = refl; cookie_settings = refl; request_fields = refl; body = refl; moment = refl; reads_chunks = refl; client = refl; dispatches = refl };
    makes = λ room x change own came. (made_unchanged change x.exchange).0;
    empties = λ room x came. (emptied_unchanged x.exchange).0;
    breaks = λ room x place turn step e left serving changes came. (called_unchanged x.exchange e changes).0;
    serves = λ room x place turn step e left serving changes came. (away_unchanged x place step e changes).0;
    destroys = λ room x place b serving came. same_request x.exchange x.exchange refl;
    forwards = inner_shows kinds.Forward (λ canon x. refl);
    includes = inner_shows kinds.Include (λ canon x. refl);
  }

  pub filters_show : FilterSteps site Shows
  filters_show = record {
    before = λ room place x gate e b left changes came. (called_unchanged x.exchange e changes).0;
    after = λ room place x done e b changes came. (unchanged x.exchange e changes).0;
  }

  pub within_shows : (room : ℕ) (kind : Kind) (canon : Canon)
      → Keeps site Shows room (Within site room (Tree site room) (chosen site canon.path).resource kind canon)
  within_shows room kind canon = inside_keeps site Shows shows (within_keeps site Shows shows filters_show) room kind canon

  abbrev Lasts : Kind → Canon → State → List Record → State → Bool → Type 0
  Lasts kind canon x r y b = b ≡ true
      → KeepsRequest record x.exchange { client = client_in kind (paths_in site canon x.exchange) x.exchange.client } y.exchange

  pub dispatches_end : DispatchesEnd site
  dispatches_end room kind canon x y r finished h =
      tree_gives site Shows shows (within_keeps site Shows shows filters_show) (Lasts kind canon) room kind canon
      (λ left. record {
        stays = λ x b. not_true b;
        ends = λ x y z r h leaves b. dispatch_shows kind canon x.exchange y.exchange z (h refl) leaves;
        breaks = λ x y r h b. not_true b;
      }) x y r (Some finished) h refl

-- Each call is nested within its bound.
abbrev pub Nests : ℕ → State → List Record → State → Bool → Type 0
Nests room x r y b = (b ≡ true → y.exchange.dispatches ≡ x.exchange.dispatches) × AreWithin (length x.exchange.dispatches + room) r

within-append : (bound : ℕ) (r s : List Record) → AreWithin bound r → AreWithin bound s → AreWithin bound (r ++ s)
within-append bound [] s one two = two
within-append bound (call ∷ r) s one two = (one.0, within-append bound r s one.1 two)

-- Notifications are within any bound.
within-told : (bound listeners : ℕ) (events : List Event) → AreWithin bound (all_told listeners events)
within-told bound listeners events = all_keep_alone (AreWithin bound) (λ place event r h. (omega arith, h)) listeners events tt

nest_one : (room : ℕ) (x e : Exchange) → Reaches x e → (e.dispatches ≡ x.dispatches) × (length x.dispatches ≤ length x.dispatches + room)
nest_one room x e changes = ((unchanged x e changes).0.dispatches, omega arith)

nest_called : (room : ℕ) (x e : Exchange) → Reaches (counting.counted x) e → (e.dispatches ≡ x.dispatches) × (length x.dispatches ≤ length x.dispatches + room)
nest_called room x e changes = ((called_unchanged x e changes).0.dispatches, omega arith)

away_nests : (site : Site) (room : ℕ) (x : State) (place turn : ℕ) (step : Step) (e : Exchange) → Reaches (counted x).exchange e
    → Nests room x (service_of place turn (counted x).exchange step e ∷ told_by site e) (away_by place step (called e x)) true
away_nests site room x place turn step e changes = (
  λ _. (away_unchanged x place step e changes).0.dispatches,
  ((nest_called room x.exchange e changes).1, within-told (length x.exchange.dispatches + room) site.listeners e.events),
)

module _ (site : Site) where
  deeper : (room : ℕ) (kind : Kind) (canon : Canon) (x : Exchange)
      → length (begun site kind canon x).dispatches + room ≡ length x.dispatches + suc room
  deeper room kind canon x =
      let longer : length (begun site kind canon x).dispatches ≡ length x.dispatches + 1 =
      ap length (begun_dispatches site kind canon x) ∙ length-append x.dispatches ((record { kind = kind; paths = paths_in site canon x; error = error_in kind x.kept }) ∷ []) in
      omega arith

  pub nest_opens : (kind : Kind) → Opens site Nests kind
  nest_opens kind room canon = record {
    stays = λ x. (λ b. refl, tt);
    ends = λ x y z r h left. (
      λ b. same_dispatches site kind canon x.exchange y.exchange z (h.0 refl) left,
      subst (λ bound. AreWithin bound r) (deeper room kind canon x.exchange) h.1,
    );
    breaks = λ x y r h. (λ b. not_true b, subst (λ bound. AreWithin bound r) (deeper room kind canon x.exchange) h.1);
  }

  pub nests : Steps site Nests
  nests = record {
    stays = λ room x b. (λ came. refl, tt);
    joins = λ room x y z r s b one two. (
      λ came. two.0 came ∙ one.0 refl,
      within-append (length x.exchange.dispatches + room) r s one.1 (subst (λ dispatches. AreWithin (length dispatches + room) s) (one.0 refl) two.1),
    );
    keeps = λ room x kept own. (λ came. refl, tt);
    makes = λ room x change own. (λ came. (made_unchanged change x.exchange).0.dispatches, tt);
    empties = λ room x. (λ came. (emptied_unchanged x.exchange).0.dispatches, tt);
    breaks = λ room x place turn step e left serving changes. let one = nest_called room x.exchange e changes in
        (λ came. one.0, (one.1, within-told (length x.exchange.dispatches + room) site.listeners e.events));
    serves = λ room x place turn step e left serving changes. away_nests site room x place turn step e changes;
    destroys = λ room x place b serving. (λ came. refl, (omega arith, tt));
    forwards = nest_opens kinds.Forward;
    includes = nest_opens kinds.Include;
  }

  nest_filters : FilterSteps site Nests
  nest_filters = record {
    before = λ room place x gate e b left changes. let one = nest_called room x.exchange e changes in
        (λ came. one.0, (one.1, within-told (length x.exchange.dispatches + room) site.listeners e.events));
    after = λ room place x done e b changes. let one = nest_one room x.exchange e changes in
        (λ came. one.0, (one.1, within-told (length x.exchange.dispatches + room) site.listeners e.events));
  }

  pub nests_tree : (room : ℕ) (kind : Kind) (canon : Canon) (x y : State) (r : List Record) (result : Option Finished)
      → Tree site room kind canon x r y result → Nests room x r y (came result)
  nests_tree room kind canon = tree_keeps site Nests nests (within_keeps site Nests nests nest_filters) room kind (nest_opens kind) canon

  pub dispatches_nest : DispatchesNest site
  dispatches_nest room kind canon x y r result h = (nests_tree room kind canon x y r result h).1
