-- The phase of a connection, and the part of a message that it holds (RFC 9112, sections 9.3 and 9.6).
use Rattle.std.specs.Prelude.{ℕ, ◌+◌, ◌&&◌, Bool, true, false, not, cond, List, length, min, nat_eq}
use Rattle.std.specs.List.{list_any}
use Rattle.sv_connection.specs.declared.limits.TheConstants.{MAX_UNDER_WAY}
use Rattle.sv_connection.specs.declared.phase.Phase.{Phase}
use Rattle.sv_connection.specs.declared.phase.Phase.TheVariants.{Closing, Open, Refused}
use Rattle.sv_journal.specs.declared.entry.Entry.{Entry}
use Rattle.sv_journal.specs.declared.entry.Entry.TheVariants as entry
use Rattle.sv_journal.specs.declared.refusal_cause.RefusalCause.{RefusalCause}
use Rattle.sv_journal.specs.declared.refusal_cause.RefusalCause.TheVariants as cause
use Rattle.sv_run.specs.declared.happening.Reaction.{Reaction}
use Rattle.sv_wire.specs.declared.inbox.Awaited.{Awaited}
use Rattle.sv_wire.specs.declared.inbox.Awaited.TheVariants.{Body, Head, Message, Nothing}

-- Whether a message was refused as its bytes were read, so that some of them may still be received.
abbrev pub is_of_bytes : RefusalCause → Bool
is_of_bytes (cause.Wire fault) = true
is_of_bytes other = false

abbrev pub is_refusal : Entry → Bool
is_refusal (entry.Refused why) = is_of_bytes why
is_refusal other = false

-- The phase after a piece, by its reaction and by what the container then awaits.
abbrev pub phase_by : Bool → List Entry → Awaited → Phase
phase_by closes entries awaited = cond closes (cond (list_any is_refusal entries) Refused Closing) (Open awaited)

abbrev pub phase_after : Reaction → Awaited → Phase
phase_after reaction awaited = phase_by reaction.closes reaction.journal.entries awaited

-- Whether no more bytes are passed to the handler.
abbrev pub is_closing : Phase → Bool
is_closing (Open awaited) = false
is_closing Closing = true
is_closing Refused = true

-- Whether the message that closes the connection was refused as it was read.
abbrev pub is_refused : Phase → Bool
is_refused (Open awaited) = false
is_refused Closing = false
is_refused Refused = true

-- Whether a part of a message is held.
abbrev pub is_under_way : Phase → Bool
is_under_way (Open Message) = false
is_under_way (Open Head) = true
is_under_way (Open Body) = true
is_under_way (Open Nothing) = false
is_under_way Closing = false
is_under_way Refused = false

abbrev pub awaits_body : Phase → Bool
awaits_body (Open Message) = false
awaits_body (Open Head) = false
awaits_body (Open Body) = true
awaits_body (Open Nothing) = false
awaits_body Closing = false
awaits_body Refused = false

-- Whether a piece ended a message whose body was awaited. Afterwards no body is awaited, or the awaited body is that of
-- the next message, since something was sent.
abbrev pub ends_body : Phase → List ℕ → Phase → Bool
ends_body before sends after = awaits_body before && not (awaits_body after && nat_eq (length sends) 0)

-- The number of bytes of the message under way that were passed to the handler, after a piece of `count` bytes. It is
-- at most the number of bytes that are kept of one message.
abbrev pub under_way_after : Phase → ℕ → ℕ → List ℕ → Phase → ℕ
under_way_after before under_way count sends after =
    cond (is_under_way after) (min (cond (ends_body before sends after) count (under_way + count)) MAX_UNDER_WAY) 0
