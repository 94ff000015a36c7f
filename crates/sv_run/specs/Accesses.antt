-- What a log of accesses needs of the messages that an event answered (RFC 9110, sections 10.1.3 and 10.1.5; RFC 9112, section 3).
use Rattle.std.specs.Prelude.{ℕ, Bool, true, false, List, [], codes, find, Option, None, Some}
use Rattle.std.specs.Option.{option_map}
use Rattle.sv_message.specs.Fields.{is_named}
use Rattle.sv_message.specs.declared.field.Field.{Field}
use Rattle.sv_message.specs.declared.message.Message.{Message}
use Rattle.sv_message.specs.declared.message.Target.{Target}
use Rattle.sv_message.specs.declared.message.Target.TheVariants.{Star, Path}
use Rattle.sv_run.specs.declared.access.Access.{Access}
use Rattle.sv_run.specs.declared.access.LoggedRequest.{LoggedRequest}

abbrev pub target_text : Target → List ℕ
target_text Star = codes "*"
target_text (Path text) = text

-- the value of the first field with the name
abbrev pub first_value : List ℕ → List Field → Option (List ℕ)
first_value name fields = option_map (λ (field : Field). field.value.bytes) (find (is_named name) fields)

-- the request as a log shows it
abbrev pub logged_request : Message → LoggedRequest
logged_request message = record {
  method = message.method;
  target = target_text message.target;
  minor = message.minor;
  referer = first_value (codes "referer") message.fields;
  user_agent = first_value (codes "user-agent") message.fields;
}

-- the access of a message that the container answered itself with this status and so many bytes, or of bytes that were no
-- message
abbrev pub own_access : Option Message → ℕ → ℕ → Access
own_access asked its_status count =
    record { request = option_map logged_request asked; context = None; caller = None; status = its_status; sent = count; entries = 1 }

-- the access of a request that the context at a place handled, with this caller, status, number of bytes and of entries
abbrev pub context_access : ℕ → Option ℕ → LoggedRequest → ℕ → ℕ → ℕ → Access
context_access place its_caller asked its_status count its_entries =
    record { request = Some asked; context = Some place; caller = its_caller; status = its_status; sent = count; entries = its_entries }

-- the accesses if a log wants them, else none
abbrev pub logged : Bool → List Access → List Access
logged true accesses = accesses
logged false accesses = []
