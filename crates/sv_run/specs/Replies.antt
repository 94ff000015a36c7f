-- The answer to a message by a context (RFC 9110, section 9.3.2; RFC 9112, section 9.3).
use Rattle.std.specs.Prelude.{ℕ, Bool, true, false, List, [], ◌∷◌, bytes_eq, codes, length, Option, None, Some}
use Rattle.std.specs.Option.{option_map_or}
use Rattle.sv_message.specs.declared.message.Message.{Message}
use Rattle.sv_run.specs.Accesses.{context_access, logged_request}
use Rattle.sv_run.specs.declared.access.Access.{Access}
use Rattle.sv_run.specs.declared.output.Output.{Output}
use Rattle.sv_run.specs.declared.reply.AskedBy.{AskedBy}
use Rattle.sv_run.specs.declared.reply.Reply.{Reply}

-- the request and its caller, if a log wants them
abbrev pub asked_if : Bool → Option ℕ → Message → Option AskedBy
asked_if true its_caller message = Some (record { request = logged_request message; caller = its_caller })
asked_if false its_caller message = None

-- how the context at a place answers a message with this caller, after the entries of the output
abbrev pub reply_to : ℕ → Option ℕ → Message → Output → Reply
reply_to its_place caller message output = record {
  place = its_place;
  head_only = bytes_eq message.method (codes "HEAD");
  keep = message.keep;
  asked = asked_if output.logs caller message;
  noted = length output.journal.entries;
}

-- the access of a message that was answered with this status and so many bytes, and so many entries are about
abbrev pub access_by : Reply → ℕ → ℕ → ℕ → List Access
access_by reply status count entries = option_map_or (λ (its : AskedBy). context_access reply.place its.caller its.request status count entries ∷ []) reply.asked []
