-- Notifications directly follow the call that caused them.
use Rattle.std.proofs.Common.{◌≡◌, ℕ, Bool, true, false, not, List, [], ◌∷◌, ◌++◌, Result, Ok, Err, refl, sym, ap, ◌∙◌, if◌then◌else◌, append-nil}
use Rattle.std.specs.List.{filter, flat_map}
use Rattle.std.proofs.lemmas.List.Concat.{flat_map-append}
use Rattle.std.proofs.lemmas.List.Elements.{filter-append}
use Rattle.sv_component.specs.Runs.{Record}
use Rattle.sv_exchange.specs.Changing.{Change, SetStatus, SetHeader, AddHeader, Write, SetAttribute, Flush, SessionOpen, SessionSet, SessionRemove, SessionEnd, Logout, answer, left_by}
use Rattle.sv_exchange.specs.declared.exchange_fault.ExchangeFault.{ExchangeFault}
use Rattle.sv_session.specs.declared.event.Event.{Event}
use Rattle.sv_mapping.specs.declared.kind.Kind.{Kind}
use Rattle.sv_mapping.specs.declared.kind.Kind.TheVariants as kinds
use Rattle.sv_tree.specs.Filters.{after_of, before_of}
use Rattle.sv_tree.specs.Laws.{EventsAreTold, TellingsFollow, is_of_listener, told_behind}
use Rattle.sv_tree.specs.Site.{Site, begun}
use Rattle.sv_tree.specs.State.{Exchange, State, counted}
use Rattle.sv_tree.specs.Telling.{all_told}
use Rattle.sv_tree.specs.Tree.{service_of}
use Rattle.sv_tree.proofs.Hearing.{all_keep_alone}
use Rattle.sv_tree.proofs.Keeping.{FilterSteps, IsOwn, Opens, Steps, away_same, called, tree_keeps, within_keeps}
use Rattle.sv_uri.specs.declared.path.Canon.{Canon}

-- If no event was pending, none is left.
abbrev Tells : ℕ → State → List Record → State → Bool → Type 0
Tells room x r y b = x.exchange.events ≡ [] → y.exchange.events ≡ []

own_events : (change : Change) (said : Result Bool ExchangeFault) (x : Exchange) → IsOwn change → (left_by said change x).events ≡ x.events
own_events (SetStatus status) (Ok true) x own = refl
own_events (SetHeader name value) (Ok true) x own = refl
own_events (Write bytes) (Ok true) x own = refl
own_events (AddHeader name value) (Ok true) x own = absurd own
own_events (SetAttribute name value) (Ok true) x own = absurd own
own_events Flush (Ok true) x own = absurd own
own_events SessionOpen (Ok true) x own = absurd own
own_events (SessionSet name value) (Ok true) x own = absurd own
own_events (SessionRemove name) (Ok true) x own = absurd own
own_events SessionEnd (Ok true) x own = absurd own
own_events Logout (Ok true) x own = absurd own
own_events change (Ok false) x own = refl
own_events change (Err fault) x own = refl

unless_events : (committed : Bool) (x : Exchange) → (if committed then x else record x { buffer = [] }).events ≡ x.events
unless_events true x = refl
unless_events false x = refl

begun_events : (site : Site) (kind : Kind) (canon : Canon) (x : Exchange) → (begun site kind canon x).events ≡ x.events
begun_events site kinds.Request canon x = refl
begun_events site kinds.Forward canon x = refl
begun_events site kinds.Include canon x = refl
begun_events site kinds.Error canon x = refl

-- Whether a record is a call of a filter or a servlet.
abbrev named : Record → Bool
named made = not (is_of_listener made)

abbrev Follows : Site → List Record → Type 0
Follows site r = r ≡ flat_map (told_behind site) (filter named r)

unnamed : (listeners : ℕ) (events : List Event) → filter named (all_told listeners events) ≡ []
unnamed listeners events = all_keep_alone (λ r. filter named r ≡ []) (λ place event r h. h) listeners events refl

-- A call, with all its notifications.
follows_one : (site : Site) (events : List Event) (made : Record) → filter named (made ∷ all_told site.listeners events) ≡ made ∷ filter named (all_told site.listeners events)
    → told_behind site made ≡ made ∷ all_told site.listeners events → Follows site (made ∷ all_told site.listeners events)
follows_one site events made is behind =
    sym (ap (flat_map (told_behind site)) (is ∙ ap (λ s. made ∷ s) (unnamed site.listeners events)) ∙ append-nil (told_behind site made) ∙ behind)

follows_then : (site : Site) (r s : List Record) → Follows site r → Follows site s → Follows site (r ++ s)
follows_then site r s one two =
    ap (λ front. front ++ s) one ∙ ap (λ back. flat_map (told_behind site) (filter named r) ++ back) two
    ∙ sym (ap (flat_map (told_behind site)) (filter-append named r s) ∙ flat_map-append (told_behind site) (filter named r) (filter named s))

module _ (site : Site) where
  opens : (kind : Kind) → Opens site Tells kind
  opens kind room canon = record {
    stays = λ x h. h;
    ends = λ x y z r h left none. sym (ap (λ e. e.events) left.1) ∙ h (begun_events site kind canon x.exchange ∙ none);
    breaks = λ x y r h none. h (begun_events site kind canon x.exchange ∙ none);
  }

  law : Steps site Tells
  law = record {
    stays = λ room x b h. h;
    joins = λ room x y z r s b one two h. two (one h);
    keeps = λ room x kept own h. h;
    makes = λ room x change own h. own_events change (answer change x.exchange) x.exchange own ∙ h;
    empties = λ room x h. unless_events x.exchange.committed x.exchange ∙ h;
    breaks = λ room x place turn step e left serving changes h. refl;
    serves = λ room x place turn step e left serving changes h. ap (λ e. e.events) (away_same place step (called e x));
    destroys = λ room x place b serving h. h;
    forwards = opens kinds.Forward;
    includes = opens kinds.Include;
  }

  filters : FilterSteps site Tells
  filters = record {
    before = λ room place x gate e b left changes h. refl;
    after = λ room place x done e b changes h. refl;
  }

  pub events_are_told : EventsAreTold site
  events_are_told room kind canon x y r result none h =
      tree_keeps site Tells law (within_keeps site Tells law filters) room kind (opens kind) canon x y r result h none

  follow_opens : (kind : Kind) → Opens site (λ room x r y b. Follows site r) kind
  follow_opens kind room canon = record { stays = λ x. refl; ends = λ x y z r h left. h; breaks = λ x y r h. h }

  follow_law : Steps site (λ room x r y b. Follows site r)
  follow_law = record {
    stays = λ room x b. refl;
    joins = λ room x y z r s b one two. follows_then site r s one two;
    keeps = λ room x kept own. refl;
    makes = λ room x change own. refl;
    empties = λ room x. refl;
    breaks = λ room x place turn step e left serving changes.
        follows_one site e.events (service_of place turn (counted x).exchange step e) refl refl;
    serves = λ room x place turn step e left serving changes.
        follows_one site e.events (service_of place turn (counted x).exchange step e) refl refl;
    destroys = λ room x place b serving. refl;
    forwards = follow_opens kinds.Forward;
    includes = follow_opens kinds.Include;
  }

  follow_filters : FilterSteps site (λ room x r y b. Follows site r)
  follow_filters = record {
    before = λ room place x gate e b left changes. follows_one site e.events (before_of place (counted x).exchange gate e) refl refl;
    after = λ room place x done e b changes. follows_one site e.events (after_of place x.exchange done e) refl refl;
  }

  pub tellings_follow : TellingsFollow site
  tellings_follow room kind canon x y r result h =
      tree_keeps site (λ room x r y b. Follows site r) follow_law (within_keeps site (λ room x r y b. Follows site r) follow_law follow_filters)
      room kind (follow_opens kind) canon x y r result h
