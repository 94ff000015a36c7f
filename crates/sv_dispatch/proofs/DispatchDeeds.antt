-- Dispatches, composed of parts.
use Rattle.std.proofs.Common.{◌≡◌, ℕ, suc, Bool, true, false, List, [], take, reverse, Option, None, Some, Result, Ok, Err, refl, sym, ap, ◌∙◌, subst, if◌then◌else◌}
use Rattle.sv_component.specs.Runs.{Record}
use Rattle.sv_component.specs.declared.answers.Step.{Step}
use Rattle.sv_component.specs.declared.answers.Step.TheVariants as steps
use Rattle.sv_dispatch.specs.Did.{Frame, lasting, seen}
use Rattle.sv_mapping.specs.declared.kind.Kind.{Kind}
use Rattle.sv_mapping.specs.declared.kind.Kind.TheVariants as kinds
use Rattle.sv_tree.specs.Does.{Does, ◌>>=◌, ◌>>◌, becomes, gives, leaves, sees, tries}
use Rattle.sv_tree.specs.Endings.{errs, error_status, fails, faults, is_away_for, is_missing}
use Rattle.sv_tree.specs.Filters.{Afters, Befores, Reached}
use Rattle.sv_tree.specs.Site.{Chosen, FileAnswer, Site, begun_by, chosen, name_of}
use Rattle.sv_tree.specs.declared.site.Resource.TheVariants.{Files, Servlet}
use Rattle.sv_tree.specs.declared.site.Resource.{Resource}
use Rattle.sv_tree.specs.State.{State, away_for, on_exchange}
use Rattle.sv_tree.specs.Files as files
use Rattle.sv_tree.specs.Tree as tree
use Rattle.sv_tree.specs.Tree.{Tree, admitted, asked_for, behind_include, destroys, is_too_late, last, service_of}
use Rattle.sv_tree.specs.declared.finished.DispatchFault.{DispatchFault}
use Rattle.sv_tree.specs.declared.finished.DispatchFault.TheVariants.{BadDispatchPath, Committed, DispatchLimit}
use Rattle.sv_tree.specs.declared.finished.Finished.{Finished}
use Rattle.sv_tree.specs.declared.finished.Finished.TheVariants.{Done}
use Rattle.sv_uri.specs.Canonical.{canonical}
use Rattle.sv_uri.specs.declared.fault.PathFault.{PathFault}
use Rattle.sv_uri.specs.declared.path.Canon.{Canon}
use Rattle.sv_dispatch.proofs.Deeds.{Makes, did_by, did_give, did_lack, did_last, did_not, did_refuse, did_see, did_so, did_then, did_want}

module _ {M : Type 0} (state : M → State) (frame : M → Frame) (ran : M → List Record → M → Type 0) (site : Site) (room : ℕ) where
  module _ (kind : Kind) (canon : Canon) where
    -- The end of a dispatch, which gives its result.
    abbrev Ending : Finished → Does Finished
    Ending finished = leaves >> gives finished

    abbrev Inside : Resource → Does Finished
    Inside resource = tree.Within site room (Tree site room) resource kind canon

    abbrev Begins : Chosen → Does (Unit {0})
    Begins found = tries (on_exchange (begun_by found kind canon))

    opened : (a b : M) (result : Option Finished)
        → Makes state frame ran (Begins (chosen site canon.path) >> (Inside (chosen site canon.path).resource >>= Ending)) a b result
        → Makes state frame ran (Tree site (suc room) kind canon) a b result
    unfolding Tree
    opened a b result did = record { made = did.made; does_so = did.does_so; runs = did.runs; stays = did.stays }

    pub dispatch_lacks : (found : Chosen) (a b : M) → found ≡ chosen site canon.path → Makes state frame ran (tries (on_exchange (begun_by found kind canon))) a b None
        → Makes state frame ran (Tree site (suc room) kind canon) a b None
    dispatch_lacks found a b is did =
        opened a b None (did_not state frame ran (Begins (chosen site canon.path)) (λ _. Inside (chosen site canon.path).resource >>= Ending) a b
        (did_by state frame ran Begins found (chosen site canon.path) a b None is did))

    begun_so : (found : Chosen) (a b c : M) (result : Option Finished) → found ≡ chosen site canon.path
        → Makes state frame ran (tries (on_exchange (begun_by found kind canon))) a b (Some tt)
        → Makes state frame ran (Inside found.resource >>= Ending) b c result
        → Makes state frame ran (Tree site (suc room) kind canon) a c result
    begun_so found a b c result is enters rest =
        opened a c result (did_by state frame ran (λ found. Begins found >> (Inside found.resource >>= Ending)) found (chosen site canon.path) a c result is
        (did_then state frame ran (Begins found) (λ _. Inside found.resource >>= Ending) a b c tt result enters rest))

    pub dispatch_breaks : (found : Chosen) (a b c : M) → found ≡ chosen site canon.path
        → Makes state frame ran (tries (on_exchange (begun_by found kind canon))) a b (Some tt)
        → Makes state frame ran (tree.Within site room (Tree site room) found.resource kind canon) b c None
        → Makes state frame ran (Tree site (suc room) kind canon) a c None
    dispatch_breaks found a b c is enters within =
        begun_so found a b c None is enters (did_not state frame ran (Inside found.resource) Ending b c within)

    pub dispatch_ends : (found : Chosen) (finished : Finished) (a b c d : M) → found ≡ chosen site canon.path
        → Makes state frame ran (tries (on_exchange (begun_by found kind canon))) a b (Some tt)
        → Makes state frame ran (tree.Within site room (Tree site room) found.resource kind canon) b c (Some finished)
        → Makes state frame ran leaves c d (Some tt)
        → Makes state frame ran (Tree site (suc room) kind canon) a d (Some finished)
    dispatch_ends found finished a b c d is enters within left =
        begun_so found a b d (Some finished) is enters
        (did_then state frame ran (Inside found.resource) Ending b c d finished (Some finished) within
        (did_then state frame ran leaves (λ _. gives finished) c d d tt (Some finished) left (did_give state frame ran finished d)))

  module _ (resource : Resource) (kind : Kind) (canon : Canon) where
    abbrev Chain : List ℕ
    Chain = site.chain canon.path (name_of site resource) kind

    abbrev Behind : Reached → Does Finished
    Behind reached = tree.Responds site room (Tree site room) resource kind canon reached.ended >>= λ result. Afters site.listeners reached.passed >> gives result

    pub within_lacks : (a : M) → Makes state frame ran (tree.Within site room (Tree site room) resource kind canon) a a None
    within_lacks a = did_lack state frame ran (Befores site resource [] Chain >>= Behind) a

    filtered : (chain : List ℕ) (a b : M) (result : Option Finished) → chain ≡ site.chain canon.path (name_of site resource) kind
        → Makes state frame ran (Befores site resource [] chain >>= Behind) a b result
        → Makes state frame ran (tree.Within site room (Tree site room) resource kind canon) a b result
    filtered chain a b result is did =
        did_want state frame ran (Befores site resource [] Chain >>= Behind) a b result
        (did_by state frame ran (λ chain. Befores site resource [] chain >>= Behind) chain Chain a b result is did)

    module _ (chain : List ℕ) (is : chain ≡ site.chain canon.path (name_of site resource) kind) where
      pub within_stops : (a b : M) → Makes state frame ran (Befores site resource [] chain) a b None
          → Makes state frame ran (tree.Within site room (Tree site room) resource kind canon) a b None
      within_stops a b did = filtered chain a b None is (did_not state frame ran (Befores site resource [] chain) Behind a b did)

      module _ (count : ℕ) (ended : Option Finished) (a b c : M)
          (befores : Makes state frame ran (Befores site resource [] chain) a b (Some record { passed = reverse (take count chain); ended = ended })) where
        pub within_breaks : Makes state frame ran (tree.Responds site room (Tree site room) resource kind canon ended) b c None
            → Makes state frame ran (tree.Within site room (Tree site room) resource kind canon) a c None
        within_breaks responds =
            let reached : Reached = record { passed = reverse (take count chain); ended = ended } in
            filtered chain a c None is (did_then state frame ran (Befores site resource [] chain) Behind a b c reached None befores
            (did_not state frame ran (tree.Responds site room (Tree site room) resource kind canon ended) (λ result. Afters site.listeners reached.passed >> gives result) b c responds))

        module _ (finished : Finished) (d : M) (responds : Makes state frame ran (tree.Responds site room (Tree site room) resource kind canon ended) b c (Some finished))
            (hear : site.listeners ≡ (frame a).listeners) where
          -- The filters are called once more, with the site's number of listeners.
          heard : (result : Option Finished) → Makes state frame ran (Afters (frame c).listeners (reverse (take count chain)) >> gives finished) c d result
              → Makes state frame ran (Afters site.listeners (reverse (take count chain)) >> gives finished) c d result
          heard result afters =
              did_by state frame ran (λ listeners. Afters listeners (reverse (take count chain)) >> gives finished) (frame c).listeners site.listeners c d result
              (ap (λ f. f.listeners) (responds.stays ∙ befores.stays) ∙ sym hear) afters

          pub within_ends : (result : Option Finished) → Makes state frame ran (Afters (frame c).listeners (reverse (take count chain)) >> gives finished) c d result
              → Makes state frame ran (tree.Within site room (Tree site room) resource kind canon) a d result
          within_ends result afters =
              let reached : Reached = record { passed = reverse (take count chain); ended = ended } in
              filtered chain a d result is (did_then state frame ran (Befores site resource [] chain) Behind a b d reached result befores
              (did_then state frame ran (tree.Responds site room (Tree site room) resource kind canon ended) (λ result. Afters site.listeners reached.passed >> gives result) b c d finished result responds
              (heard result afters)))

  pub responds_ended : (resource : Resource) (kind : Kind) (canon : Canon) (given : Option Finished) (finished : Finished) (a : M) → given ≡ Some finished
      → Makes state frame ran (tree.Responds site room (Tree site room) resource kind canon given) a a (Some finished)
  responds_ended resource kind canon given finished a is =
      did_by state frame ran (λ given. tree.Responds site room (Tree site room) resource kind canon given) (Some finished) given a a (Some finished) (sym is)
      (did_give state frame ran finished a)

  pub responds_given : (resource : Resource) (kind : Kind) (canon : Canon) (given : Option Finished) (a b : M) (result : Option Finished) → given ≡ None
      → Makes state frame ran (tree.Responds site room (Tree site room) resource kind canon None) a b result
      → Makes state frame ran (tree.Responds site room (Tree site room) resource kind canon given) a b result
  responds_given resource kind canon given a b result none did =
      did_by state frame ran (λ given. tree.Responds site room (Tree site room) resource kind canon given) None given a b result (sym none) did

  pub responds_served : (resource : Resource) (place : ℕ) (kind : Kind) (canon : Canon) (a b : M) (result : Option Finished)
      → resource ≡ Servlet place → Makes state frame ran (tree.Serves site room (Tree site room) place) a b result
      → Makes state frame ran (tree.Responds site room (Tree site room) resource kind canon None) a b result
  responds_served resource place kind canon a b result is did =
      did_by state frame ran (λ resource. tree.Responds site room (Tree site room) resource kind canon None) (Servlet place) resource a b result (sym is)
      (did_so state frame ran (tree.Serves site room (Tree site room) place) (tree.Responds site room (Tree site room) (Servlet place) kind canon None) a b result (λ made h. h) did)

  pub responds_filed : (resource : Resource) (kind : Kind) (canon : Canon) (a b : M) (result : Option Finished)
      → resource ≡ Files → Makes state frame ran (tree.Responds site room (Tree site room) Files kind canon None) a b result
      → Makes state frame ran (tree.Responds site room (Tree site room) resource kind canon None) a b result
  responds_filed resource kind canon a b result is did =
      did_by state frame ran (λ resource. tree.Responds site room (Tree site room) resource kind canon None) Files resource a b result (sym is) did

  abbrev File : Kind → Canon → Does Finished
  File kind canon = sees λ state. files.Filed site kind (site.file canon state.exchange.method kind)

  pub file_lacks : (kind : Kind) (canon : Canon) (a : M) → Makes state frame ran (tree.Responds site room (Tree site room) Files kind canon None) a a None
  file_lacks kind canon a =
      let did = did_lack state frame ran (File kind canon) a in
      record { made = did.made; does_so = did.does_so; runs = did.runs; stays = did.stays }

  pub file_found : (kind : Kind) (canon : Canon) (method : List ℕ) (found : FileAnswer) (a b : M) (result : Option Finished)
      → method ≡ (state a).exchange.method → found ≡ site.file canon method kind
      → Makes state frame ran (files.Filed site kind found) a b result
      → Makes state frame ran (tree.Responds site room (Tree site room) Files kind canon None) a b result
  file_found kind canon method found a b result same is did =
      let here = did_by state frame ran (λ found. files.Filed site kind found) found (site.file canon (state a).exchange.method kind) a b result
      (is ∙ ap (λ method. site.file canon method kind) same) did in
      let seen_so = did_see state frame ran (λ state. files.Filed site kind (site.file canon state.exchange.method kind)) a b result here in
      let all = did_want state frame ran (File kind canon) a b result seen_so in
      record { made = all.made; does_so = all.does_so; runs = all.runs; stays = all.stays }

  module _ (place : ℕ) where
    module _ (kind : Kind) (text : List ℕ) where
      abbrev Asked : Does Finished
      Asked = sees λ state. tree.Admitted site room (Tree site room) place kind (asked_for room kind text state.exchange)

      pub asked_lacks : (a : M) → Makes state frame ran (tree.Dispatches site room (Tree site room) place kind text) a a None
      asked_lacks a = did_lack state frame ran Asked a

      asked_so : (given : Result Canon DispatchFault) (a b : M) (result : Option Finished) → given ≡ asked_for room kind text (state a).exchange
          → Makes state frame ran (tree.Admitted site room (Tree site room) place kind given) a b result
          → Makes state frame ran (tree.Dispatches site room (Tree site room) place kind text) a b result
      asked_so given a b result is did =
          did_want state frame ran Asked a b result
          (did_see state frame ran (λ state. tree.Admitted site room (Tree site room) place kind (asked_for room kind text state.exchange)) a b result
          (did_by state frame ran (λ given. tree.Admitted site room (Tree site room) place kind given) given (asked_for room kind text (state a).exchange) a b result is did))

      timely : (late : Bool) (other : Result Canon DispatchFault) → late ≡ false → other ≡ (if late then Err Committed else other)
      timely true other e = cc
      timely false other e = refl

      too_late : (late : Bool) (other : Result Canon DispatchFault) → late ≡ true → Err Committed ≡ (if late then Err Committed else other)
      too_late true other e = refl
      too_late false other e = cc

      module _ (a b : M) (result : Option Finished) where
        pub asked_late : is_too_late kind (state a).exchange.committed ≡ true → Makes state frame ran (faults site (Servlet place) Committed) a b result
            → Makes state frame ran (tree.Dispatches site room (Tree site room) place kind text) a b result
        asked_late late did =
            asked_so (Err Committed) a b result (too_late (is_too_late kind (state a).exchange.committed) (admitted (canonical text) room) late)
            (did_so state frame ran (faults site (Servlet place) Committed) (tree.Admitted site room (Tree site room) place kind (Err Committed)) a b result (λ made h. h) did)

        module _ (in_time : is_too_late kind (state a).exchange.committed ≡ false) where
          pub asked_badly : (fault : PathFault) → canonical text ≡ Err fault → Makes state frame ran (faults site (Servlet place) BadDispatchPath) a b result
              → Makes state frame ran (tree.Dispatches site room (Tree site room) place kind text) a b result
          asked_badly fault is did =
              asked_so (Err BadDispatchPath) a b result (ap (λ read. admitted read room) (sym is) ∙ timely (is_too_late kind (state a).exchange.committed) (admitted (canonical text) room) in_time)
              (did_so state frame ran (faults site (Servlet place) BadDispatchPath) (tree.Admitted site room (Tree site room) place kind (Err BadDispatchPath)) a b result (λ made h. h) did)

          pub asked_too_deep : (canon : Canon) → canonical text ≡ Ok canon → room ≡ 0 → Makes state frame ran (faults site (Servlet place) DispatchLimit) a b result
              → Makes state frame ran (tree.Dispatches site room (Tree site room) place kind text) a b result
          asked_too_deep canon is deep did =
              asked_so (Err DispatchLimit) a b result
              (ap (admitted (Ok canon)) (sym deep) ∙ ap (λ read. admitted read room) (sym is) ∙ timely (is_too_late kind (state a).exchange.committed) (admitted (canonical text) room) in_time)
              (did_so state frame ran (faults site (Servlet place) DispatchLimit) (tree.Admitted site room (Tree site room) place kind (Err DispatchLimit)) a b result (λ made h. h) did)

          pub asked_granted : (canon : Canon) (less : ℕ) → canonical text ≡ Ok canon → room ≡ suc less → Makes state frame ran (Tree site (suc less) kind canon) a b result
              → Makes state frame ran (tree.Dispatches site room (Tree site room) place kind text) a b result
          asked_granted canon less is deep did =
              asked_so (Ok canon) a b result
              (ap (admitted (Ok canon)) (sym deep) ∙ ap (λ read. admitted read room) (sym is) ∙ timely (is_too_late kind (state a).exchange.committed) (admitted (canonical text) room) in_time)
              (did_so state frame ran (Tree site room kind canon) (tree.Admitted site room (Tree site room) place kind (Ok canon)) a b result (λ made h. h)
              (did_by state frame ran (λ room. Tree site room kind canon) (suc less) room a b result (sym deep) did))

    module _ (step : Step) (a b : M) where
      stepped_by : (known : Step) (result : Option (Option Finished)) → step ≡ known
          → Makes state frame ran (tree.Stepped site room (Tree site room) place known) a b result → Makes state frame ran (tree.Stepped site room (Tree site room) place step) a b result
      stepped_by known result is did = did_by state frame ran (λ step. tree.Stepped site room (Tree site room) place step) known step a b result (sym is) did

      stepped_last : {E : Type 0} (known : Step) (ending : Does Finished) (finished : Result Finished E) (result : Result (Option Finished) E) → step ≡ known
          → ((made : List Record) (result : Option (Option Finished)) → last ending (state a) made (state b) result → tree.Stepped site room (Tree site room) place known (state a) made (state b) result)
          → result ≡ lasting finished → Makes state frame ran ending a b (seen finished) → Makes state frame ran (tree.Stepped site room (Tree site room) place step) a b (seen result)
      stepped_last known ending finished result is so lasts did =
          subst (λ r. Makes state frame ran (tree.Stepped site room (Tree site room) place step) a b (seen r)) (sym lasts)
          (stepped_by known (seen (lasting finished)) is
          (did_so state frame ran (last ending) (tree.Stepped site room (Tree site room) place known) a b (seen (lasting finished))
          (λ made h. so made (seen (lasting finished)) h) (did_last state frame ran ending a b finished did)))

      pub stepped_forward : {E : Type 0} (text : List ℕ) (finished : Result Finished E) (result : Result (Option Finished) E) → step ≡ steps.Forward text
          → Makes state frame ran (tree.Dispatches site room (Tree site room) place kinds.Forward text) a b (seen finished) → result ≡ lasting finished
          → Makes state frame ran (tree.Stepped site room (Tree site room) place step) a b (seen result)
      stepped_forward text finished result is did lasts =
          stepped_last (steps.Forward text) (tree.Dispatches site room (Tree site room) place kinds.Forward text) finished result is (λ made r h. h) lasts did

      pub stepped_failed : {E : Type 0} (kind text : List ℕ) (finished : Result Finished E) (result : Result (Option Finished) E) → step ≡ steps.Failed kind text
          → Makes state frame ran (fails site (Servlet place) kind text) a b (seen finished) → result ≡ lasting finished
          → Makes state frame ran (tree.Stepped site room (Tree site room) place step) a b (seen result)
      stepped_failed kind text finished result is did lasts =
          stepped_last (steps.Failed kind text) (fails site (Servlet place) kind text) finished result is (λ made r h. h) lasts did

      pub stepped_error : {E : Type 0} (code status : ℕ) (text : List ℕ) (finished : Result Finished E) (result : Result (Option Finished) E) → step ≡ steps.Error code text
          → status ≡ error_status code → Makes state frame ran (errs site (Servlet place) status text None) a b (seen finished) → result ≡ lasting finished
          → Makes state frame ran (tree.Stepped site room (Tree site room) place step) a b (seen result)
      stepped_error code status text finished result is same did lasts =
          stepped_last (steps.Error code text) (errs site (Servlet place) (error_status code) text None) finished result is (λ made r h. h) lasts
          (did_by state frame ran (λ status. errs site (Servlet place) status text None) status (error_status code) a b (seen finished) same did)

      pub stepped_include : (text : List ℕ) (finished : Finished) (result : Option Finished) → step ≡ steps.Include text → result ≡ behind_include finished
          → Makes state frame ran (tree.Dispatches site room (Tree site room) place kinds.Include text) a b (Some finished)
          → Makes state frame ran (tree.Stepped site room (Tree site room) place step) a b (Some result)
      stepped_include text finished result is same did =
          subst (λ r. Makes state frame ran (tree.Stepped site room (Tree site room) place step) a b (Some r)) (sym same)
          (stepped_by (steps.Include text) (Some (behind_include finished)) is
          (did_then state frame ran (tree.Dispatches site room (Tree site room) place kinds.Include text) tree.GoesOn a b b finished (Some (behind_include finished)) did
          (did_give state frame ran (behind_include finished) b)))

      pub stepped_include_not : (text : List ℕ) → step ≡ steps.Include text → Makes state frame ran (tree.Dispatches site room (Tree site room) place kinds.Include text) a b None
          → Makes state frame ran (tree.Stepped site room (Tree site room) place step) a b None
      stepped_include_not text is did =
          stepped_by (steps.Include text) None is (did_not state frame ran (tree.Dispatches site room (Tree site room) place kinds.Include text) tree.GoesOn a b did)

    pub stepped_done : (step : Step) (a : M) → step ≡ steps.Done → Makes state frame ran (tree.Stepped site room (Tree site room) place step) a a (Some (Some Done))
    stepped_done step a is =
        stepped_by step a a steps.Done (Some (Some Done)) is
        (did_then state frame ran (gives Done) (λ result. gives (Some result)) a a a Done (Some (Some Done)) (did_give state frame ran Done a) (did_give state frame ran (Some Done) a))

    pub stepped_refused : (step : Step) (a : M) → step ≡ steps.NoMemory → Makes state frame ran (tree.Stepped site room (Tree site room) place step) a a None
    stepped_refused step a is = stepped_by step a a steps.NoMemory None is (did_refuse state frame ran a)

    pub stepped_unavailable : (step : Step) (seconds : Option ℕ) (a b : M) (result : Option (Option Finished)) → step ≡ steps.Unavailable seconds
        → Makes state frame ran (tree.Stepped site room (Tree site room) place (steps.Unavailable seconds)) a b result
        → Makes state frame ran (tree.Stepped site room (Tree site room) place step) a b result
    stepped_unavailable step seconds a b result is did = stepped_by step a b (steps.Unavailable seconds) result is did

    pub stepped_unretired : (seconds : Option ℕ) (a b : M) → seconds ≡ None → Makes state frame ran (destroys place) a b None
        → Makes state frame ran (tree.Stepped site room (Tree site room) place (steps.Unavailable seconds)) a b None
    stepped_unretired seconds a b is did =
        stepped_by (steps.Unavailable seconds) a b (steps.Unavailable None) None (ap steps.Unavailable is)
        (did_not state frame ran (destroys place) (λ _. last (is_missing site (Servlet place))) a b did)

    pub stepped_gone : {E : Type 0} (seconds : Option ℕ) (a b c : M) (finished : Result Finished E) (result : Result (Option Finished) E) → seconds ≡ None
        → Makes state frame ran (destroys place) a b (Some tt) → Makes state frame ran (is_missing site (Servlet place)) b c (seen finished) → result ≡ lasting finished
        → Makes state frame ran (tree.Stepped site room (Tree site room) place (steps.Unavailable seconds)) a c (seen result)
    stepped_gone seconds a b c finished result is gone did lasts =
        subst (λ r. Makes state frame ran (tree.Stepped site room (Tree site room) place (steps.Unavailable seconds)) a c (seen r)) (sym lasts)
        (stepped_by (steps.Unavailable seconds) a c (steps.Unavailable None) (seen (lasting finished)) (ap steps.Unavailable is)
        (did_then state frame ran (destroys place) (λ _. last (is_missing site (Servlet place))) a b c tt (seen (lasting finished)) gone
        (did_last state frame ran (is_missing site (Servlet place)) b c finished did)))

    pub stepped_away : {E : Type 0} (given : Option ℕ) (seconds : ℕ) (a b c : M) (finished : Result Finished E) (result : Result (Option Finished) E) → given ≡ Some seconds
        → Makes state frame ran (becomes (away_for place seconds)) a b (Some tt) → Makes state frame ran (is_away_for site (Servlet place) seconds) b c (seen finished) → result ≡ lasting finished
        → Makes state frame ran (tree.Stepped site room (Tree site room) place (steps.Unavailable given)) a c (seen result)
    stepped_away given seconds a b c finished result is away did lasts =
        subst (λ r. Makes state frame ran (tree.Stepped site room (Tree site room) place (steps.Unavailable given)) a c (seen r)) (sym lasts)
        (stepped_by (steps.Unavailable given) a c (steps.Unavailable (Some seconds)) (seen (lasting finished)) (ap steps.Unavailable is)
        (did_then state frame ran (becomes (away_for place seconds)) (λ _. last (is_away_for site (Servlet place) seconds)) a b c tt (seen (lasting finished)) away
        (did_last state frame ran (is_away_for site (Servlet place) seconds) b c finished did)))
