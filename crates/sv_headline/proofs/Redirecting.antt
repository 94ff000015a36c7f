-- Within a message, the fields that a proxy reads stay the request's own.
use Rattle.std.proofs.Common.{◌≡◌, ◌≢◌, ◌⊎◌, inl, inr, ℕ, Bool, true, false, List, [], ◌∷◌, ◌++◌, reverse, Option, Result, Ok, Err, refl, sym, ap, ◌∙◌, subst, if◌then◌else◌}
use Rattle.std.proofs.lemmas.List.{reverse-append}
use Rattle.std.specs.List.{AllByRecursion}
use Rattle.sv_application.specs.HandingOver.{caller_names, handed_request, joined_cookies, query_text}
use Rattle.sv_application.specs.Cookies.{other_cookies}
use Rattle.sv_application.specs.Serving.{Serves}
use Rattle.sv_application.specs.declared.handing_over.HandedOver.{HandedOver}
use Rattle.sv_component.specs.Call as calls
use Rattle.sv_component.specs.Call.{Serviced}
use Rattle.sv_component.specs.Runs.{OfFilter, OfServlet, Record}
use Rattle.sv_component.specs.declared.answers.Step.{Step}
use Rattle.sv_exchange.proofs.Keeping.{changes_keep}
use Rattle.sv_exchange.specs.Changing.{Change, SetStatus, SetHeader, AddHeader, Write, SetAttribute, Flush, SessionOpen, SessionSet, SessionRemove, SessionEnd, Logout, answer, left_by}
use Rattle.sv_exchange.specs.Dispatches.{Leaves, error_in, innermost_kind, innermost_paths, is_include_kind, kind_of, query_of}
use Rattle.sv_exchange.specs.Keeping as keeping
use Rattle.sv_exchange.specs.declared.dispatch.Dispatch.{Dispatch}
use Rattle.sv_exchange.specs.declared.exchange_fault.ExchangeFault.{ExchangeFault}
use Rattle.sv_exchange.specs.Paths.{Paths}
use Rattle.sv_mapping.specs.declared.kind.Kind.{Kind}
use Rattle.sv_mapping.specs.declared.kind.Kind.TheVariants as kinds
use Rattle.sv_tree.proofs.Bounding.{ErrorSteps, error_keeps, served_keeps}
use Rattle.sv_tree.proofs.Doing.{not_true}
use Rattle.sv_tree.proofs.Keeping.{FilterSteps, IsOwn, IsOwnField, Keeps, Opens, OpensTo, Steps, away_same, called, tree_gives, tree_keeps, within_keeps}
use Rattle.sv_tree.specs.Asking.{without_events}
use Rattle.sv_tree.specs.Served.{Served, ShowsError, kept_field}
use Rattle.sv_tree.specs.Site.{Site, begun, paths_in}
use Rattle.sv_tree.specs.State.{Exchange, State}
use Rattle.sv_tree.specs.Tree.{Tree}
use Rattle.sv_tree.specs.declared.limits.TheConstants.{MAX_NESTING}
use Rattle.sv_uri.specs.LocationField.{location}
use Rattle.sv_uri.specs.declared.path.Canon.{Canon}
use Rattle.sv_application.specs.ProxyFields.{proxy_fields}
use Rattle.sv_headline.proofs.OwnFields.{AreOwn, IsOwnRequest, makes_own, none_are_own}
use Rattle.sv_headline.proofs.ProxyFields.{own_set}

-- `start` is the exchange of the request at its beginning
module _ (start : Exchange) (fresh : start.dispatches ≡ []) (Stays : Type 0) (Known : List ℕ → Type 0) where
  abbrev pub own : HandedOver
  own = handed_request start

  abbrev AreIts : Exchange → Type 0
  AreIts x = AreOwn own Stays Known (proxy_fields x.fields)

  -- a dispatch of the request is to its own path
  abbrev IsItsDispatch : Dispatch → Type 0
  IsItsDispatch dispatch = dispatch.kind ≡ kinds.Request → dispatch.paths.query ≡ start.client.query

  -- the exchange is of the request, and the fields are its own
  pub record IsOfRequest (x : Exchange) : Type 0 where
    pub uri : x.client.uri ≡ start.client.uri
    pub query : x.client.query ≡ start.client.query
    pub dispatches : AllByRecursion IsItsDispatch (reverse x.dispatches)
    pub settings : x.cookie_settings ≡ start.cookie_settings
    pub request_fields : x.request_fields ≡ start.request_fields
    pub caller : Stays → x.caller ≡ start.caller
    pub kept : IsOwnField (kept_field x.kept)
    pub are : AreIts x

  -- the same of another exchange with these fields
  again : (x y : Exchange) → y.client ≡ x.client → y.dispatches ≡ x.dispatches → y.cookie_settings ≡ x.cookie_settings → y.request_fields ≡ x.request_fields
      → (Stays → y.caller ≡ x.caller) → y.kept ≡ x.kept → AreIts y → IsOfRequest x → IsOfRequest y
  again x y client dispatches settings fields caller kept are is = record {
    uri = ap (λ (its : Paths). its.uri) client ∙ is.uri;
    query = ap (λ (its : Paths). its.query) client ∙ is.query;
    dispatches = subst (λ its. AllByRecursion IsItsDispatch (reverse its)) (sym dispatches) is.dispatches;
    settings = settings ∙ is.settings;
    request_fields = fields ∙ is.request_fields;
    caller = λ stays. caller stays ∙ is.caller stays;
    kept = subst (λ its. IsOwnField (kept_field its)) (sym kept) is.kept;
    are = are;
  }

  -- ---- the request that is handed over

  query_in : (dispatches : List Dispatch) (client : Paths) → innermost_kind dispatches ≡ kinds.Request → client.query ≡ start.client.query
      → AllByRecursion IsItsDispatch dispatches → (innermost_paths client dispatches).query ≡ start.client.query
  query_in [] client is query its = query
  query_in (dispatch ∷ outer) client is query its =
      ap (λ (kind : Kind). (if is_include_kind kind then innermost_paths client outer else dispatch.paths).query) is ∙ its.0 is

  own_query : query_of start ≡ start.client.query
  own_query = ap (λ (dispatches : List Dispatch). (innermost_paths start.client (reverse dispatches)).query) fresh

  is_own_request : (x : Exchange) → kind_of x ≡ kinds.Request → IsOfRequest x → IsOwnRequest own Stays Known (handed_request x)
  is_own_request x kind is =
      let query : query_of x ≡ query_of start = query_in (reverse x.dispatches) x.client kind is.query is.dispatches ∙ sym own_query in
      record {
        target = λ i. location (is.uri i) ++ query_text (query i);
        cookies = λ i. joined_cookies (other_cookies (is.settings i).name (is.request_fields i));
        caller = λ stays. ap caller_names (is.caller stays);
      }

  -- ---- calls of components

  -- the call leaves the fields, and the caller
  abbrev LeavesThem : Exchange → Exchange → Type 0
  LeavesThem before after = (proxy_fields after.fields ≡ proxy_fields before.fields) × (Stays → after.caller ≡ before.caller)

  -- the call is of an application, or leaves the fields
  abbrev pub IsFair : Record → Type 0
  IsFair (OfServlet place (Serviced before turn step after)) =
      ((internal : List ℕ) × (kind_of before ≡ kinds.Request → Known internal) × Serves (kind_of before) internal before step after) ⊎ LeavesThem before after
  IsFair (OfFilter place (calls.Entered before gate after)) = LeavesThem before after
  IsFair (OfFilter place (calls.Left before done after)) = LeavesThem before after
  IsFair made = Unit {0}

  abbrev pub AreFair : List Record → Type 0
  AreFair made = AllByRecursion IsFair made

  fair_parts : (front back : List Record) → AreFair (front ++ back) → AreFair front × AreFair back
  fair_parts [] back fair = (tt, fair)
  fair_parts (made ∷ front) back fair = let rest = fair_parts front back fair.1 in ((fair.0, rest.0), rest.1)

  call_left : (x e : Exchange) → keeping.SameRequest x e → IsOfRequest x → AreIts e → (Stays → e.caller ≡ x.caller) → IsOfRequest (without_events e)
  call_left x e same is are caller = again x (without_events e) same.client same.dispatches same.cookie_settings same.request_fields caller same.kept are is

  other_left : (x e : Exchange) → keeping.SameRequest x e → IsOfRequest x → LeavesThem x e → IsOfRequest (without_events e)
  other_left x e same is leaves = call_left x e same is (subst (AreOwn own Stays Known) (sym leaves.0) is.are) leaves.1

  other_kind : (x e : Exchange) → keeping.SameRequest x e → IsOfRequest x → e ≡ x → IsOfRequest (without_events e)
  other_kind x e same is unchanged =
      call_left x e same is (subst AreIts (sym unchanged) is.are) (λ stays. ap (λ (its : Exchange). its.caller) unchanged)

  application_left : (x e : Exchange) (step : Step) (internal : List ℕ) (kind : Kind) → kind_of x ≡ kind → (kind_of x ≡ kinds.Request → Known internal)
      → Serves kind internal x step e → keeping.SameRequest x e → IsOfRequest x → IsOfRequest (without_events e)
  application_left x e step internal kinds.Request kind known serves same is =
      let made = makes_own own Stays Known (handed_request x) (is_own_request x kind is) internal (known kind) x e serves.0 serves.2 is.are in
      call_left x e same is made.0 (λ stays. made.1)
  application_left x e step internal kinds.Forward kind known serves same is = other_kind x e same is serves.1
  application_left x e step internal kinds.Include kind known serves same is = other_kind x e same is serves.1
  application_left x e step internal kinds.Error kind known serves same is = other_kind x e same is serves.1

  service_left : (x e : Exchange) (place turn : ℕ) (step : Step) → IsFair (OfServlet place (Serviced x turn step e)) → keeping.SameRequest x e → IsOfRequest x
      → IsOfRequest (without_events e)
  service_left x e place turn step (inl served) same is = application_left x e step served.0 (kind_of x) refl served.1 served.2 same is
  service_left x e place turn step (inr leaves) same is = other_left x e same is leaves

  counted_of : (x : Exchange) → IsOfRequest x → IsOfRequest (keeping.counted x)
  counted_of x is = again x (keeping.counted x) refl refl refl refl (λ stays. refl) refl is.are is

  -- ---- calls of the container

  made_left : (change : Change) (said : Result Bool ExchangeFault) (x : Exchange) → IsOwn change → IsOfRequest x → IsOfRequest (left_by said change x)
  made_left (SetStatus status) (Ok true) x its is = again x (record x { status = status }) refl refl refl refl (λ stays. refl) refl is.are is
  made_left (SetHeader name value) (Ok true) x its is =
      again x (changed_to x name value) refl refl refl refl (λ stays. refl) refl (subst (AreOwn own Stays Known) (sym (own_set value x.fields name its)) is.are) is
    where
      changed_to : Exchange → List ℕ → List ℕ → Exchange
      changed_to x name value = left_by (Ok true) (SetHeader name value) x
  made_left (Write bytes) (Ok true) x its is = again x (record x { buffer = x.buffer ++ bytes }) refl refl refl refl (λ stays. refl) refl is.are is
  made_left (AddHeader name value) (Ok true) x its is = absurd its
  made_left (SetAttribute name value) (Ok true) x its is = absurd its
  made_left Flush (Ok true) x its is = absurd its
  made_left SessionOpen (Ok true) x its is = absurd its
  made_left (SessionSet name value) (Ok true) x its is = absurd its
  made_left (SessionRemove name) (Ok true) x its is = absurd its
  made_left SessionEnd (Ok true) x its is = absurd its
  made_left Logout (Ok true) x its is = absurd its
  made_left change (Ok false) x its is = is
  made_left change (Err fault) x its is = is

  emptied_left : (committed : Bool) (x : Exchange) → IsOfRequest x → IsOfRequest (if committed then x else record x { buffer = [] })
  emptied_left true x is = is
  emptied_left false x is = again x (record x { buffer = [] }) refl refl refl refl (λ stays. refl) refl is.are is

  -- ---- the beginning and the end of a dispatch

  module _ (site : Site) where
    begun_in : Kind → Canon → Exchange → Dispatch
    begun_in kind canon x = record { kind = kind; paths = paths_in site canon x; error = error_in kind x.kept }

    one_more : (kind : Kind) (canon : Canon) (x : Exchange) → (kind ≡ kinds.Request → canon.query ≡ start.client.query) → IsOfRequest x
        → AllByRecursion IsItsDispatch (reverse (x.dispatches ++ (record { kind = kind; paths = paths_in site canon x; error = error_in kind x.kept }) ∷ []))
    one_more kind canon x query is =
        subst (AllByRecursion IsItsDispatch)
        (sym (reverse-append x.dispatches ((record { kind = kind; paths = paths_in site canon x; error = error_in kind x.kept }) ∷ []))) (query, is.dispatches)

    begun_of : (kind : Kind) (canon : Canon) (x : Exchange) → (kind ≡ kinds.Request → canon.query ≡ start.client.query) → IsOfRequest x
        → IsOfRequest (begun site kind canon x)
    begun_of kinds.Request canon x query is = record { uri = is.uri; query = is.query; dispatches = one_more kinds.Request canon x query is; settings = is.settings; request_fields = is.request_fields; caller = is.caller; kept = is.kept; are = is.are }
    begun_of kinds.Forward canon x query is = record { uri = is.uri; query = is.query; dispatches = one_more kinds.Forward canon x query is; settings = is.settings; request_fields = is.request_fields; caller = is.caller; kept = is.kept; are = is.are }
    begun_of kinds.Include canon x query is = record { uri = is.uri; query = is.query; dispatches = one_more kinds.Include canon x query is; settings = is.settings; request_fields = is.request_fields; caller = is.caller; kept = is.kept; are = is.are }
    begun_of kinds.Error canon x query is = record { uri = is.uri; query = is.query; dispatches = one_more kinds.Error canon x query is; settings = is.settings; request_fields = is.request_fields; caller = is.caller; kept = is.kept; are = is.are }

    left_of : (y z : Exchange) → Leaves y z → IsOfRequest y → IsOfRequest z
    left_of y z left is =
        let same = sym left.1 in
        record {
          uri = ap (λ (its : Exchange). its.client.uri) same ∙ is.uri;
          query = ap (λ (its : Exchange). its.client.query) same ∙ is.query;
          dispatches = (subst (AllByRecursion IsItsDispatch)
              (ap (λ (its : Exchange). reverse its.dispatches) left.1 ∙ reverse-append z.dispatches (left.0 ∷ [])) is.dispatches).1;
          settings = ap (λ (its : Exchange). its.cookie_settings) same ∙ is.settings;
          request_fields = ap (λ (its : Exchange). its.request_fields) same ∙ is.request_fields;
          caller = λ stays. ap (λ (its : Exchange). its.caller) same ∙ is.caller stays;
          kept = subst (λ (its : Exchange). IsOwnField (kept_field its.kept)) left.1 is.kept;
          are = subst AreIts left.1 is.are;
        }

    -- ---- a dispatch

    -- with fair calls, an exchange of the request stays one, unless memory runs out
    abbrev pub Stay : ℕ → State → List Record → State → Bool → Type 0
    Stay room x r y came = AreFair r → IsOfRequest x.exchange → came ≡ true → IsOfRequest y.exchange

    opens_to : (given : State → List Record → State → Bool → Type 0)
        → ((x y : State) (r : List Record) (came : Bool) → (AreFair r → IsOfRequest x.exchange → came ≡ true → IsOfRequest y.exchange) → given x r y came)
        → (room : ℕ) (kind : Kind) (canon : Canon) → (kind ≡ kinds.Request → canon.query ≡ start.client.query) → OpensTo site Stay given room kind canon
    opens_to given gives room kind canon query = record {
      stays = λ x. gives x x [] false (λ fair is came. not_true came);
      ends = λ x y z r h left. gives x (record y { exchange = z }) r true
          (λ fair is came. left_of y.exchange z left (h fair (begun_of kind canon x.exchange query is) refl));
      breaks = λ x y r h. gives x y r false (λ fair is came. not_true came);
    }

    opens : (kind : Kind) → kind ≢ kinds.Request → Opens site Stay kind
    opens kind apart room canon = opens_to (Stay 0) (λ x y r came stay. stay) room kind canon (λ same. absurd (apart same))

    pub steps : Steps site Stay
    steps = record {
      stays = λ room x b fair is came. is;
      joins = λ room x y z r s b one two fair is came. let parts = fair_parts r s fair in two parts.1 (one parts.0 is refl) came;
      keeps = λ room x kept its fair is came.
          record { uri = is.uri; query = is.query; dispatches = is.dispatches; settings = is.settings; request_fields = is.request_fields; caller = is.caller; kept = its; are = is.are };
      makes = λ room x change its fair is came. made_left change (answer change x.exchange) x.exchange its is;
      empties = λ room x fair is came. emptied_left x.exchange.committed x.exchange is;
      breaks = λ room x place turn step e left serving changes fair is came. not_true came;
      serves = λ room x place turn step e left serving changes fair is came.
          subst IsOfRequest (sym (away_same place step (called e x)))
          (service_left (keeping.counted x.exchange) e place turn step fair.0 (changes_keep (keeping.counted x.exchange) e changes) (counted_of x.exchange is));
      destroys = λ room x place b serving fair is came. is;
      forwards = opens kinds.Forward (λ same. cc);
      includes = opens kinds.Include (λ same. cc);
    }

    filters : FilterSteps site Stay
    filters = record {
      before = λ room place x gate e b left changes fair is came.
          other_left (keeping.counted x.exchange) e (changes_keep (keeping.counted x.exchange) e changes) (counted_of x.exchange is) fair.0;
      after = λ room place x done e b changes fair is came. other_left x.exchange e (changes_keep x.exchange e changes) is fair.0;
    }

    errors : ErrorSteps site Stay MAX_NESTING IsOwnField
    errors = record {
      resets = λ x fair is came.
          again x.exchange (record x.exchange { buffer = []; fields = [] }) refl refl refl refl (λ stays. refl) refl (none_are_own own Stays Known) is;
      breaks = λ x fair is came. again x.exchange (keeping.broken_off x.exchange) refl refl refl refl (λ stays. refl) refl is.are is;
      none = tt;
      sets = λ x field its fair is came. made_left (SetHeader field.name field.value) (answer (SetHeader field.name field.value) x.exchange) x.exchange its is;
      owns = λ x y r b kept fair is came. kept is.kept fair is came;
    }

    other_tree : (room : ℕ) (kind : Kind) (canon : Canon) → kind ≢ kinds.Request → Keeps site Stay room (Tree site room kind canon)
    other_tree room kind canon apart = tree_keeps site Stay steps (within_keeps site Stay steps filters) room kind (opens kind apart) canon

    request_tree : (room : ℕ) (canon : Canon) → canon.query ≡ start.client.query → Keeps site Stay room (Tree site room kinds.Request canon)
    request_tree room canon query x y r result =
        tree_gives site Stay steps (within_keeps site Stay steps filters) (Stay 0) room kinds.Request canon
        (λ left. opens_to (Stay 0) (λ x y r came stay. stay) left kinds.Request canon (λ same. query)) x y r result

    error_tree : (page : Canon) → Keeps site Stay MAX_NESTING (Tree site MAX_NESTING kinds.Error page)
    error_tree page = other_tree MAX_NESTING kinds.Error page (λ same. cc)

    pub request_stays : (canon : Canon) → canon.query ≡ start.client.query → Keeps site Stay MAX_NESTING (Served site kinds.Request canon)
    request_stays canon query = served_keeps site Stay steps MAX_NESTING IsOwnField errors error_tree kinds.Request canon (request_tree MAX_NESTING canon query)

    pub page_stays : (page : Canon) → Keeps site Stay MAX_NESTING (Served site kinds.Forward page)
    page_stays page =
        served_keeps site Stay steps MAX_NESTING IsOwnField errors error_tree kinds.Forward page (other_tree MAX_NESTING kinds.Forward page (λ same. cc))

    pub error_stays : (status : ℕ) (page : Option Canon) → Keeps site Stay MAX_NESTING (ShowsError site status page)
    error_stays = error_keeps site Stay steps MAX_NESTING IsOwnField errors error_tree
