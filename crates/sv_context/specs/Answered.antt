-- The response of a context to an admitted message (Jakarta Servlet 6.0, sections 9.4, 10.9, 11.3 and 13.6.3).
use Rattle.std.specs.Prelude.{ℕ, List, Option, None, Some, codes}
use Rattle.sv_admission.specs.declared.answer.Answer.{Answer}
use Rattle.sv_admission.specs.declared.answer.Answer.TheVariants.{Entered, Page, Error, SeeOther}
use Rattle.sv_admission.specs.declared.answer.TheConstants.{SEE_OTHER}
use Rattle.sv_exchange.specs.Changing.{SetHeader, SetStatus}
use Rattle.sv_session.specs.declared.event.Event.{Event}
use Rattle.sv_session.specs.declared.event.Event.TheVariants.{RequestDestroyed, RequestInitialized}
use Rattle.sv_mapping.specs.declared.kind.Kind.TheVariants as kinds
use Rattle.sv_tree.specs.Does.{Does, ◌>>◌, gives, makes}
use Rattle.sv_tree.specs.Served.{Served, ShowsError}
use Rattle.sv_tree.specs.Site.{Site}
use Rattle.sv_tree.specs.Telling.{hears}
use Rattle.sv_uri.specs.declared.path.Canon.{Canon}

-- The client is redirected.
abbrev pub SendsTo : List ℕ → Does (Unit {0})
SendsTo location = do
  makes (SetStatus SEE_OTHER)
  makes (SetHeader (codes "location") location)

module _ (site : Site) where
  -- The listeners are notified of a request before its first dispatch and after its last.
  abbrev pub Requested : Does (Unit {0}) → Does (Unit {0})
  Requested dispatches = do
    hears site.listeners RequestInitialized
    dispatches
    hears site.listeners RequestDestroyed

  -- The response to a message to this path in the context, by its answer. Listeners are only notified of requests that
  -- are dispatched.
  abbrev pub Answers : Canon → Answer → Does (Unit {0})
  Answers canon Entered = Requested (Served site kinds.Request canon)
  Answers canon (Page page) = Requested (Served site kinds.Forward page)
  Answers canon (Error status None) = ShowsError site status None
  Answers canon (Error status (Some page)) = Requested (ShowsError site status (Some page))
  Answers canon (SeeOther location) = SendsTo location

  -- The listeners are notified of the admission's session event, if any.
  abbrev pub Tells : Option Event → Does (Unit {0})
  Tells None = gives tt
  Tells (Some event) = hears site.listeners event

  -- This notification comes before the answer.
  abbrev pub Answered : Canon → Option Event → Answer → Does (Unit {0})
  Answered canon event answer = do
    Tells event
    Answers canon answer
