-- The destination of a message (RFC 9112, section 3.2; Jakarta Servlet 6.0, sections 3.5 and 12.1).
use Rattle.std.specs.Prelude.{ℕ, List, [], ◌∷◌, ◌++◌, codes, decimal, map, Option, None, Some, position, Result, Ok, Err}
use Rattle.http_header.specs.FieldValue.{plain_value}
use Rattle.sv_journal.specs.declared.entry.Entry.{Entry}
use Rattle.sv_journal.specs.declared.entry.Entry.TheVariants.{Refused, Hidden}
use Rattle.sv_journal.specs.declared.refusal_cause.RefusalCause.TheVariants as causes
use Rattle.sv_mapping.specs.Chosen.{is_chosen}
use Rattle.sv_run.specs.Contexts.{Theory}
use Rattle.sv_uri.specs.Canonical.{canonical}
use Rattle.sv_uri.specs.declared.fault.PathFault.{PathFault}
use Rattle.sv_uri.specs.declared.path.Canon.{Canon}
use Rattle.sv_message.specs.Phrases.{phrase_of}
use Rattle.sv_message.specs.declared.body.Body.TheVariants.{Whole}
use Rattle.sv_message.specs.declared.message.Target.{Target}
use Rattle.sv_message.specs.declared.message.Target.TheVariants.{Star, Path}
use Rattle.sv_message.specs.declared.response.Response.{Response}

-- the status code and its phrase, as a line
abbrev pub plain_text : ℕ → List ℕ
plain_text status = decimal status ++ codes " " ++ phrase_of status ++ codes "\n"

-- the status code and its phrase, as plain text
abbrev pub plain_response : ℕ → Response
plain_response status =
    record {
      status = status;
      fields = record { name = codes "content-type"; value = plain_value (codes "text/plain") } ∷ [];
      cookie = None;
      body = Whole (plain_text status);
    }

abbrev pub empty_response : Response
empty_response = record { status = 200; fields = []; cookie = None; body = Whole [] }

pub data Destination : Type 0 where
  -- the container answers the message itself
  Itself : Entry → Response → Destination
  -- the context at the place handles it, by the canonical path and query of its target
  Within : ℕ → Canon → Destination

abbrev pub destination_in : Canon → Option ℕ → Destination
destination_in canon None = Itself (Hidden causes.NoContext) (plain_response 404)
destination_in canon (Some place) = Within place canon

-- the destination by the place of the context that serves a path
abbrev pub destination_at : (List ℕ → Option ℕ) → Result Canon PathFault → Destination
destination_at place_for (Err fault) = Itself (Refused (causes.Path fault)) (plain_response 400)
destination_at place_for (Ok canon) = destination_in canon (place_for canon.path)

abbrev pub destination_of : (List ℕ → Option ℕ) → Target → Destination
destination_of place_for Star = Itself (Refused causes.Star) empty_response
destination_of place_for (Path target) = destination_at place_for (canonical target)

module _ {Context Words : Type 0} (theory : Theory Context Words) (contexts : List Context) where
  -- the place of the first context with the longest path that serves the given path
  abbrev pub place_for : List ℕ → Option ℕ
  place_for path = position (λ context. is_chosen (map theory.path_of contexts) path (theory.path_of context)) contexts

  abbrev pub destination : Target → Destination
  destination target = destination_of place_for target
