-- The texts of events (Jakarta Servlet 6.0, chapter 11).
use Rattle.std.specs.Prelude.{ℕ, List, ◌++◌, codes}
use Rattle.std.specs.Fmt.{decimal}
use Rattle.sv_session.specs.declared.event.Event.{Event}
use Rattle.sv_session.specs.declared.event.Event.TheVariants.{ContextInitialized, ContextDestroyed, RequestInitialized, RequestDestroyed, SessionCreated, SessionDestroyed, SessionIdChanged, AttributeAdded, AttributeReplaced, AttributeRemoved}

abbrev pub event_text : Event → List ℕ
event_text ContextInitialized = codes "ContextInitialized"
event_text ContextDestroyed = codes "ContextDestroyed"
event_text RequestInitialized = codes "RequestInitialized"
event_text RequestDestroyed = codes "RequestDestroyed"
event_text (SessionCreated number) = codes "SessionCreated " ++ decimal number
event_text (SessionDestroyed number) = codes "SessionDestroyed " ++ decimal number
event_text (SessionIdChanged number) = codes "SessionIdChanged " ++ decimal number
event_text (AttributeAdded number name) = codes "AttributeAdded " ++ decimal number ++ codes " " ++ name
event_text (AttributeReplaced number name) = codes "AttributeReplaced " ++ decimal number ++ codes " " ++ name
event_text (AttributeRemoved number name) = codes "AttributeRemoved " ++ decimal number ++ codes " " ++ name
