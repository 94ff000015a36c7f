-- Actions over a started context, composed of parts.
use Rattle.std.proofs.Common.{◌≡◌, inl, inr, ℕ, Bool, true, false, List, [], ◌++◌, Option, None, Some, Result, Ok, Err, refl, sym, ◌∙◌, subst}
use Rattle.std.specs.Prelude.{OnOk}
use Rattle.sv_component.proofs.Running.{runs_join}
use Rattle.sv_component.specs.Runs.{IsRun, Record}
use Rattle.sv_component.specs.Steps.{ComponentSteps}
use Rattle.sv_dispatch.specs.Dispatched.{Dispatched, Refused}
use Rattle.sv_dispatch.specs.Running.{state_of}
use Rattle.sv_exchange.specs.State as exchanges
use Rattle.sv_journal.specs.Journal.{JournalState}
use Rattle.sv_live.specs.Standing.{LiveState, live_world}
use Rattle.sv_mapping.specs.declared.kind.Kind.{Kind}
use Rattle.sv_mapping.specs.declared.kind.Kind.TheVariants as kinds
use Rattle.sv_dispatch.specs.ServedBy.{Alone, ServedBy}
use Rattle.sv_tree.specs.Does.{Does, ◌>>=◌, ◌>>◌, choose, gives, wants_memory}
use Rattle.sv_tree.specs.Endings.{keeps}
use Rattle.sv_tree.specs.Served.{Pages, Resets, breaks, Served, Settled, Shown, Shows, ShowsError, kept_field, unless_committed}
use Rattle.sv_tree.specs.Site.{Site}
use Rattle.sv_tree.specs.State.{KeptError, KeptField}
use Rattle.sv_tree.specs.Tree.{Tree}
use Rattle.sv_tree.specs.declared.finished.Finished.{Finished}
use Rattle.sv_tree.specs.declared.limits.TheConstants.{MAX_NESTING}
use Rattle.sv_uri.specs.declared.path.Canon.{Canon}
use Rattle.sv_message.specs.Phrases.{phrase_of}
use Rattle.sv_exchange.specs.Keeping.{broken_off}
use Rattle.sv_dispatch.proofs.ExchangeDeeds.{alone_not, unless_broken, unless_so}

-- A fact that always holds also holds on success.
pub on_ok : {A E P : Type 0} (result : Result A E) → P → OnOk result P
on_ok (Ok value) holds = holds
on_ok (Err refusal) holds = tt

module _ {S F L A : Type 0} (live live' : LiveState S F L) (x x' : exchanges.State) (noted noted' : JournalState) where
  -- A refusal is also a refusal with any other type of result.
  pub refused_too : {B : Type 0} → Refused {A = A} live x noted None live' x' noted' → Refused {A = B} live x noted None live' x' noted'
  refused_too refused = record { result_is = refl; live_is = refused.live_is; exchange_is = refused.exchange_is; noted_is = refused.noted_is }

  -- A refusal has no result.
  pub not_refused : {P : Type 0} (value : A) → Refused live x noted (Some value) live' x' noted' → P
  not_refused value refused = none (refused.result_is)
    where
      none : {P : Type 0} → Some value ≡ None → P
      none e = cc

module _ {S F L : Type 0} (moving : ComponentSteps S F L) where
  -- A dispatch is an action that serves the request.
  pub by_dispatch : (site : Site) (kind : Kind) (canon : Canon) (live : LiveState S F L) (x : exchanges.State) (noted : JournalState) (result : Option Finished)
      (live' : LiveState S F L) (x' : exchanges.State) (noted' : JournalState)
      → Dispatched moving site kind canon live x noted result live' x' noted'
      → ServedBy moving (Tree site MAX_NESTING kind canon) live x noted result live' x' noted'
  by_dispatch site kind canon live x noted result live' x' noted' did = record {
    made = did.made;
    does_so = did.is_tree;
    runs = did.runs;
    counts = record { servlets = did.servlets; filters = did.filters; listeners = did.listeners };
    context = did.context;
    initialised = did.initialised;
  }

  pub by_alone : {A : Type 0} (does : Does A) (live : LiveState S F L) (x y : exchanges.State) (noted : JournalState) (result : Option A)
      → Alone does x y result → ServedBy moving does live x noted result live y noted
  unfolding IsRun
  by_alone does live x y noted result did = record {
    made = [];
    does_so = did live.standings;
    runs = refl;
    counts = record { servlets = refl; filters = refl; listeners = refl };
    context = refl;
    initialised = refl;
  }

  module _ {A B : Type 0} (first : Does A) (next : A → Does B) (live live' : LiveState S F L) (x x' : exchanges.State) (noted noted' : JournalState) where
    pub by_then : (live'' : LiveState S F L) (x'' : exchanges.State) (noted'' : JournalState) (value : A) (result : Option B)
        → ServedBy moving first live x noted (Some value) live' x' noted'
        → ServedBy moving (next value) live' x' noted' result live'' x'' noted''
        → ServedBy moving (first >>= next) live x noted result live'' x'' noted''
    by_then live'' x'' noted'' value result one two = record {
      made = one.made ++ two.made;
      does_so = inl record {
        given = value;
        between = state_of live' x';
        front = one.made;
        back = two.made;
        begins = one.does_so;
        goes_on = two.does_so;
        is_joined = refl;
      };
      runs = runs_join moving (live_world live noted) (live_world live' noted') (live_world live'' noted'') one.made two.made one.runs two.runs;
      counts = record {
        servlets = two.counts.servlets ∙ one.counts.servlets;
        filters = two.counts.filters ∙ one.counts.filters;
        listeners = two.counts.listeners ∙ one.counts.listeners;
      };
      context = two.context ∙ one.context;
      initialised = two.initialised ∙ one.initialised;
    }

    pub by_not : ServedBy moving first live x noted None live' x' noted' → ServedBy moving (first >>= next) live x noted None live' x' noted'
    by_not one = record {
      made = one.made;
      does_so = inr (one.does_so, refl);
      runs = one.runs;
      counts = one.counts;
      context = one.context;
      initialised = one.initialised;
    }

  -- Calls that do one action also do any action that it implies.
  pub by_so : {A B : Type 0} (one : Does A) (other : Does B) (live live' : LiveState S F L) (x x' : exchanges.State) (noted noted' : JournalState) (result : Option A) (value : Option B)
      → ((made : List Record) → one (state_of live x) made (state_of live' x') result → other (state_of live x) made (state_of live' x') value)
      → ServedBy moving one live x noted result live' x' noted' → ServedBy moving other live x noted value live' x' noted'
  by_so one other live live' x x' noted noted' result value h did = record {
    made = did.made;
    does_so = h did.made did.does_so;
    runs = did.runs;
    counts = did.counts;
    context = did.context;
    initialised = did.initialised;
  }

  module _ (site : Site) (live live' : LiveState S F L) (noted noted' : JournalState) where
    module _ (status : ℕ) (field : Option KeptField) (page : Canon) (x y : exchanges.State) where
      -- The rest of the action, after the response is reset.
      abbrev Paged : Does (Unit {0})
      Paged = Tree site MAX_NESTING kinds.Error page >>= Shown status field

      pub page_not : Alone (Resets status field) x y None → ServedBy moving (Pages site status field (Some page)) live x noted None live y noted
      page_not resets = by_not (Resets status field) (λ _. Paged) live live x y noted noted (by_alone (Resets status field) live x y noted None resets)

      module _ (resets : Alone (Resets status field) x y (Some tt)) (z : exchanges.State) where
        page_on : (w : exchanges.State) (result : Option (Unit {0})) → ServedBy moving Paged live y noted result live' w noted'
            → ServedBy moving (Pages site status field (Some page)) live x noted result live' w noted'
        page_on w result did =
            by_then (Resets status field) (λ _. Paged) live live x y noted noted live' w noted' tt result
            (by_alone (Resets status field) live x y noted (Some tt) resets) did

        pub page_ends : Dispatched moving site kinds.Error page live y noted None live' z noted'
            → ServedBy moving (Pages site status field (Some page)) live x noted None live' z noted'
        page_ends did =
            page_on z None (by_not (Tree site MAX_NESTING kinds.Error page) (Shown status field) live live' y z noted noted'
            (by_dispatch site kinds.Error page live y noted None live' z noted' did))

        pub page_so : (finished : Finished) (w : exchanges.State) (result : Option (Unit {0}))
            → Dispatched moving site kinds.Error page live y noted (Some finished) live' z noted' → Alone (Shown status field finished) z w result
            → ServedBy moving (Pages site status field (Some page)) live x noted result live' w noted'
        page_so finished w result did shown =
            page_on w result (by_then (Tree site MAX_NESTING kinds.Error page) (Shown status field) live live' y z noted noted' live' w noted' finished result
            (by_dispatch site kinds.Error page live y noted (Some finished) live' z noted' did)
            (by_alone (Shown status field finished) live' z w noted' result shown))

    -- The response to a stored error.
    module _ (status : ℕ) (kind : Option (List ℕ)) (x y : exchanges.State) (test : Bool) (is : test ≡ x.committed) where
      pub kept_broken : test ≡ true → y ≡ broken_off x → ServedBy moving (Shows site status kind) live x noted (Some tt) live y noted
      kept_broken committed broke = by_alone (Shows site status kind) live x y noted (Some tt)
          (unless_broken (wants_memory >> (λ state. Pages site status (kept_field state.exchange.kept) (site.page status kind) state)) x y test is committed broke)

      pub kept_lacks : test ≡ false → ServedBy moving (Shows site status kind) live x noted None live x noted
      kept_lacks free = by_alone (Shows site status kind) live x x noted None
          (unless_so (wants_memory >> (λ state. Pages site status (kept_field state.exchange.kept) (site.page status kind) state)) x x test None is free
          (λ standings. inr ((refl, refl), refl)))

      pub kept_so : (field : Option KeptField) (page : Option Canon) (result : Option (Unit {0})) → test ≡ false
          → field ≡ kept_field x.kept → page ≡ site.page status kind
          → ServedBy moving (Pages site status field page) live x noted result live' y noted'
          → ServedBy moving (Shows site status kind) live x noted result live' y noted'
      kept_so field page result free of_kept of_site did =
          by_so (Pages site status field page) (Shows site status kind) live live' x y noted noted' result result
          (λ made h. subst (λ test. choose test breaks (wants_memory >> (λ state. Pages site status (kept_field state.exchange.kept) (site.page status kind) state))
          (state_of live x) made (state_of live' y) result) (sym free ∙ is)
          (inl record {
            given = tt;
            between = state_of live x;
            front = [];
            back = made;
            begins = (refl, refl);
            goes_on =
                subst (λ field. Pages site status field (site.page status kind) (state_of live x) made (state_of live' y) result) of_kept
                (subst (λ page. Pages site status field page (state_of live x) made (state_of live' y) result) of_site h);
            is_joined = refl;
          })) did

    -- An error that no dispatch raised.
    module _ (status : ℕ) (page : Option Canon) (kept : KeptError) (x y : exchanges.State)
        (is : kept ≡ record { status = status; text = phrase_of status; servlet = None; field = None }) where
      pub error_not : Alone (keeps kept) x y None → ServedBy moving (ShowsError site status page) live x noted None live y noted
      error_not did =
          by_alone (ShowsError site status page) live x y noted None
          (subst (λ kept. Alone (keeps kept >> unless_committed (Pages site status None page)) x y None) is
          (alone_not (keeps kept) (λ _. unless_committed (Pages site status None page)) x y did))

      -- The rest of the action, after the error is stored.
      error_on : (z : exchanges.State) (result : Option (Unit {0})) → Alone (keeps kept) x y (Some tt)
          → ServedBy moving (unless_committed (Pages site status None page)) live y noted result live' z noted'
          → ServedBy moving (ShowsError site status page) live x noted result live' z noted'
      error_on z result keeping did =
          subst (λ kept. ServedBy moving (keeps kept >> unless_committed (Pages site status None page)) live x noted result live' z noted') is
          (by_then (keeps kept) (λ _. unless_committed (Pages site status None page)) live live x y noted noted live' z noted' tt result
          (by_alone (keeps kept) live x y noted (Some tt) keeping) did)

      pub error_so : (z : exchanges.State) (result : Option (Unit {0})) (test : Bool) → test ≡ y.committed → test ≡ false → Alone (keeps kept) x y (Some tt)
          → ServedBy moving (Pages site status None page) live y noted result live' z noted'
          → ServedBy moving (ShowsError site status page) live x noted result live' z noted'
      error_so z result test same free keeping did =
          error_on z result keeping
          (by_so (Pages site status None page) (unless_committed (Pages site status None page)) live live' y z noted noted' result result
          (λ made h. subst (λ test. choose test breaks (Pages site status None page) (state_of live y) made (state_of live' z) result) (sym free ∙ same) h) did)

    -- The same error, if the response is committed.
    pub error_broken : (status : ℕ) (page : Option Canon) (kept : KeptError) (x y z : exchanges.State)
        → kept ≡ record { status = status; text = phrase_of status; servlet = None; field = None } → (test : Bool) → test ≡ y.committed → test ≡ true
        → Alone (keeps kept) x y (Some tt) → z ≡ broken_off y → ServedBy moving (ShowsError site status page) live x noted (Some tt) live z noted
    error_broken status page kept x y z is test same committed keeping broke =
        subst (λ kept. ServedBy moving (keeps kept >> unless_committed (Pages site status None page)) live x noted (Some tt) live z noted) is
        (by_then (keeps kept) (λ _. unless_committed (Pages site status None page)) live live x y noted noted live z noted tt (Some tt)
        (by_alone (keeps kept) live x y noted (Some tt) keeping)
        (by_alone (unless_committed (Pages site status None page)) live y z noted (Some tt)
        (unless_broken (Pages site status None page) y z test same committed broke)))

    -- A request.
    module _ (kind : Kind) (canon : Canon) (x y : exchanges.State) where
      pub serve_not : Dispatched moving site kind canon live x noted None live' y noted' → ServedBy moving (Served site kind canon) live x noted None live' y noted'
      serve_not did = by_not (Tree site MAX_NESTING kind canon) (Settled site) live live' x y noted noted' (by_dispatch site kind canon live x noted None live' y noted' did)

      pub serve_so : (finished : Finished) (live'' : LiveState S F L) (z : exchanges.State) (noted'' : JournalState) (result : Option (Unit {0}))
          → Dispatched moving site kind canon live x noted (Some finished) live' y noted'
          → ServedBy moving (Settled site finished) live' y noted' result live'' z noted''
          → ServedBy moving (Served site kind canon) live x noted result live'' z noted''
      serve_so finished live'' z noted'' result did settled =
          by_then (Tree site MAX_NESTING kind canon) (Settled site) live live' x y noted noted' live'' z noted'' finished result
          (by_dispatch site kind canon live x noted (Some finished) live' y noted' did) settled
