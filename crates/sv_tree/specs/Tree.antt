-- A dispatch (Jakarta Servlet 6.0, chapters 6 and 9): its filters, its servlet or file, and its nested dispatches.
use Rattle.std.specs.Prelude.{ℕ, zero, suc, ◌-◌, Bool, false, List, [], Option, None, Some, Result, Ok, Err, ◌⊎◌, ◌≡◌, ◌∷◌, if◌then◌else◌}
use Rattle.sv_component.specs.Call.{Destroyed, Serviced}
use Rattle.sv_component.specs.Runs.{OfServlet, Record}
use Rattle.sv_component.specs.declared.answers.Step.{Step}
use Rattle.sv_component.specs.declared.answers.Step.TheVariants as steps
use Rattle.sv_mapping.specs.declared.kind.Kind.{Kind}
use Rattle.sv_mapping.specs.declared.kind.Kind.TheVariants as kinds
use Rattle.sv_tree.specs.Asking.{asks}
use Rattle.sv_tree.specs.Does.{Does, ◌>>=◌, ◌>>◌, becomes, gives, leaves, never, refuses, sees, tries, wants_memory}
use Rattle.sv_tree.specs.Endings.{errs, error_status, fails, faults, is_away_for, is_missing}
use Rattle.sv_tree.specs.Files.{Filed}
use Rattle.sv_tree.specs.Filters.{Afters, Befores, within_limit}
use Rattle.sv_tree.specs.Site.{Resource, Servlet, Files, Site, begun, chosen, name_of}
use Rattle.sv_tree.specs.State.{Exchange, Standing, Serving, Gone, Away, away_for, on_exchange, standing_at, with_standing}
use Rattle.sv_tree.specs.declared.finished.DispatchFault.{DispatchFault}
use Rattle.sv_tree.specs.declared.finished.DispatchFault.TheVariants.{BadDispatchPath, Committed, DispatchLimit}
use Rattle.sv_tree.specs.declared.finished.Finished.{Finished}
use Rattle.sv_tree.specs.declared.finished.Finished.TheVariants.{Done, Error, Failed}
use Rattle.sv_uri.specs.Canonical.{canonical}
use Rattle.sv_uri.specs.declared.fault.PathFault.{PathFault}
use Rattle.sv_uri.specs.declared.path.Canon.{Canon}

abbrev pub service_of : ℕ → ℕ → Exchange → Step → Exchange → Record
service_of place turn before step after = OfServlet place (Serviced before turn step after)

-- Destroys the servlet, which is then gone. Memory may run out after the call.
abbrev pub destroys : ℕ → Does (Unit {0})
destroys place before calls after result =
    (calls ≡ OfServlet place Destroyed ∷ []) × (after ≡ with_standing place Gone before) × ((result ≡ Some tt) ⊎ (result ≡ None))

-- The outcome of the dispatch if a turn of the servlet ends it; none if the servlet continues.
abbrev pub Turned : Type 0
Turned = Option Finished

-- The turn ends the dispatch.
abbrev pub last : Does Finished → Does Turned
last ending = do
  result ← ending
  gives (Some result)

-- After an include the servlet continues, unless the include failed.
abbrev pub behind_include : Finished → Turned
behind_include Done = None
behind_include (Error status text) = None
behind_include (Failed kind text) = Some (Failed kind text)

abbrev pub GoesOn : Finished → Does Turned
GoesOn finished = gives (behind_include finished)

-- Whether a forward comes after the response was committed.
abbrev pub is_too_late : Kind → Bool → Bool
is_too_late kinds.Forward committed = committed
is_too_late kinds.Request committed = false
is_too_late kinds.Include committed = false
is_too_late kinds.Error committed = false

-- The path, unless it cannot be parsed or no nesting depth is left.
abbrev pub admitted : Result Canon PathFault → ℕ → Result Canon DispatchFault
admitted (Err fault) room = Err BadDispatchPath
admitted (Ok canon) zero = Err DispatchLimit
admitted (Ok canon) (suc room) = Ok canon

-- The path of a dispatch that a servlet requests, or the first reason to refuse it.
abbrev pub asked_for : ℕ → Kind → List ℕ → Exchange → Result Canon DispatchFault
asked_for room kind text exchange = if is_too_late kind exchange.committed then Err Committed else admitted (canonical text) room

-- `room` is the nesting depth that is left, and `inner` is a nested dispatch.
module _ (site : Site) (room : ℕ) (inner : Kind → Canon → Does Finished) where
  -- A refused dispatch is a failure of the servlet that requested it.
  abbrev pub Admitted : ℕ → Kind → Result Canon DispatchFault → Does Finished
  Admitted place kind (Ok canon) = inner kind canon
  Admitted place kind (Err fault) = faults site (Servlet place) fault

  -- A servlet requests a dispatch (sections 9.1, 9.3 and 9.4).
  abbrev pub Dispatches : ℕ → Kind → List ℕ → Does Finished
  Dispatches place kind text = do
    wants_memory
    sees λ state. Admitted place kind (asked_for room kind text state.exchange)

  -- The effect of a servlet's result, and the outcome of the dispatch; none if the servlet continues.
  abbrev pub Stepped : ℕ → Step → Does Turned
  Stepped place steps.Done = last (gives Done)
  Stepped place (steps.Forward text) = last (Dispatches place kinds.Forward text)
  Stepped place (steps.Include text) = Dispatches place kinds.Include text >>= GoesOn
  Stepped place (steps.Error code text) = last (errs site (Servlet place) (error_status code) text None)
  Stepped place (steps.Failed kind text) = last (fails site (Servlet place) kind text)
  Stepped place (steps.Unavailable None) = destroys place >> last (is_missing site (Servlet place))
  Stepped place (steps.Unavailable (Some seconds)) = becomes (away_for place seconds) >> last (is_away_for site (Servlet place) seconds)
  Stepped place steps.NoMemory = refuses

  -- A servlet that is out of service is not called (section 2.3.3.2).
  abbrev pub Stands : ℕ → ℕ → Standing → Does Turned → Does Turned
  Stands place moment Serving next = next
  Stands place moment Gone next = last (is_missing site (Servlet place))
  Stands place moment (Away until) next = last (is_away_for site (Servlet place) (until - moment))

  -- One turn of a servlet.
  abbrev pub Turn : ℕ → ℕ → Does Turned
  Turn place turn = sees λ state.
      Stands place state.exchange.moment (standing_at state.exchange.moment place state.standings)
      (within_limit (last (faults site (Servlet place) DispatchLimit)) do
        step ← asks site.listeners (service_of place turn)
        Stepped place step)

  abbrev pub Continues : Turned → Does Finished → Does Finished
  Continues (Some result) next = gives result
  Continues None next = next

  -- The turns from `turn` on, at most `left`.
  abbrev pub Turns : ℕ → ℕ → ℕ → Does Finished
  Turns place zero turn = never
  Turns place (suc left) turn = do
    ended ← Turn place turn
    Continues ended (Turns place left (suc turn))

  -- As many turns as the servlet takes.
  abbrev pub Serves : ℕ → Does Finished
  Serves place before calls after result = (left : ℕ) × Turns place left 0 before calls after result

  -- The servlet or the file, if all filters passed.
  abbrev pub Responds : Resource → Kind → Canon → Option Finished → Does Finished
  Responds resource kind canon (Some result) = gives result
  Responds (Servlet place) kind canon None = Serves place
  Responds Files kind canon None = do
    wants_memory
    sees λ state. Filed site kind (site.file canon state.exchange.method kind)

  -- The filters and the resource after them. Each filter that passed is called once more, whatever the outcome.
  abbrev pub Within : Resource → Kind → Canon → Does Finished
  Within resource kind canon = do
    wants_memory
    reached ← Befores site resource [] (site.chain canon.path (name_of site resource) kind)
    result ← Responds resource kind canon reached.ended
    Afters site.listeners reached.passed
    gives result

  -- A dispatch, from its beginning to its end.
  abbrev pub Dispatch : Kind → Canon → Does Finished
  Dispatch kind canon = do
    tries (on_exchange (begun site kind canon))
    result ← Within (chosen site canon.path).resource kind canon
    leaves
    gives result

-- A dispatch with the dispatches nested in it, at most this deep.
unfoldable pub Tree : Site → ℕ → Kind → Canon → Does Finished
Tree site zero kind canon = never
Tree site (suc room) kind canon = Dispatch site room (Tree site room) kind canon
