-- The head of a request, and the judgement on it (RFC 9112, sections 2.1, 3, 5 and 6).
use Rattle.std.specs.Prelude.{ℕ, Bool, true, false, ◌&&◌, ◌||◌, not, List, [], ◌∷◌, ◌++◌, ◌==◌, nat_eq, nat_lt, slice_index, codes, if◌then◌else◌, Option, None, Some, is_none, Result, Ok, Err, ⊤}
use Rattle.std.specs.List.{ends_with, list_any}
use Rattle.httparse.specs.Ascii.{line_feed, carriage_return}
use Rattle.httparse.specs.Grammar.{RequestHead}
use Rattle.sv_wire.specs.declared.body_reader.Framing.{Framing}
use Rattle.sv_wire.specs.declared.body_reader.Framing.TheVariants.{Length, Chunked}
use Rattle.sv_wire.specs.declared.limits.TheConstants.{MAX_BODY_LEN}
use Rattle.sv_message.specs.declared.codings.Codings.{Codings}
use Rattle.sv_message.specs.declared.codings.Codings.TheVariants as codings
use Rattle.sv_message.specs.declared.field.Field.{Field}
use Rattle.sv_message.specs.declared.target.TargetForm.{TargetForm}
use Rattle.sv_message.specs.declared.target.TargetForm.TheVariants.{Origin, Absolute, Star, Unknown}
use Rattle.sv_message.specs.Codings.{coding_kind}
use Rattle.sv_message.specs.Expectation.{asks_to_continue}
use Rattle.sv_message.specs.Fields.{fields_of, has_field, is_named, values_of}
use Rattle.sv_message.specs.Host.{accepts_hosts, with_hosts}
use Rattle.sv_message.specs.Length.{content_length}
use Rattle.sv_message.specs.Persistence.{keeps}
use Rattle.sv_message.specs.TargetForm.{authority_of, path_of, target_form}
use Rattle.sv_text.specs.Faults.{when, first_or}
use Rattle.sv_message.specs.declared.message.Target.{Target}
use Rattle.sv_message.specs.declared.message.Target.TheVariants.{Path}
use Rattle.sv_message.specs.declared.message.Target.TheVariants as targets
use Rattle.sv_wire.specs.declared.owed_head.OwedHead.{OwedHead}
use Rattle.sv_wire.specs.declared.owed_head.Judgement.{Judgement}
use Rattle.sv_wire.specs.declared.owed_head.Judgement.TheVariants.{Refused, Expecting, Accepted}
use Rattle.sv_wire.specs.declared.wire_fault.WireFault.{WireFault}
use Rattle.sv_wire.specs.declared.wire_fault.WireFault.TheVariants.{BadHost, BadFraming, UnknownCoding, BodyTooLarge, BadExpect, BadTarget}

-- Whether a text ends as a head does: with an empty line, CRLF or LF, after the LF of a line.
abbrev pub ends_head : List ℕ → Bool
ends_head text =
    ends_with nat_eq text (line_feed ∷ line_feed ∷ [])
    || ends_with nat_eq text (line_feed ∷ carriage_return ∷ line_feed ∷ [])

-- Whether a text does not begin with a line end.
abbrev pub begins_at_once : List ℕ → Bool
begins_at_once text = not (slice_index text 0 == line_feed || slice_index text 0 == carriage_return)

-- Whether a target is in no form that is served.
abbrev pub is_unknown : TargetForm → Bool
is_unknown Origin = false
is_unknown (Absolute len) = false
is_unknown Star = false
is_unknown Unknown = true

-- Whether the fields name codings of the body, and whether they give its length.
abbrev pub has_codings : List Field → Bool
has_codings fields = has_field (codes "transfer-encoding") fields

abbrev pub has_length : List Field → Bool
has_length fields = has_field (codes "content-length") fields

-- Whether a field gives the framing of the body or an expectation.
abbrev pub tells_of_body : Field → Bool
tells_of_body field =
    is_named (codes "content-length") field || (is_named (codes "transfer-encoding") field || is_named (codes "expect") field)

-- Whether some field does so.
abbrev pub tell_of_body : List Field → Bool
tell_of_body fields = list_any tells_of_body fields

-- The faults of codings of this kind.
abbrev pub faults_by_kind : Codings → List WireFault
faults_by_kind codings.Chunked = []
faults_by_kind codings.Unknown = UnknownCoding ∷ []
faults_by_kind codings.Bad = BadFraming ∷ []

-- The length that the fields give, or 0 if they give none.
abbrev pub number_or_0 : Option ℕ → ℕ
number_or_0 None = 0
number_or_0 (Some number) = number

abbrev pub body_len : List Field → ℕ
body_len fields = number_or_0 (content_length fields)

-- The faults of a body's framing. Codings are allowed only in HTTP/1.1 and without a length.
abbrev pub framing_faults : ℕ → List Field → List WireFault
framing_faults minor fields =
    if has_codings fields then when (not (minor == 1) || has_length fields) BadFraming ++ faults_by_kind (coding_kind fields)
    else when (has_length fields && is_none (content_length fields)) BadFraming ++ when (nat_lt MAX_BODY_LEN (body_len fields)) BodyTooLarge

-- Whether an HTTP/1.1 request has an expectation other than `100-continue`.
abbrev pub is_unknown_expectation : ℕ → List Field → Bool
is_unknown_expectation minor fields = minor == 1 && (has_field (codes "expect") fields && not (asks_to_continue fields))

-- The faults of a head in the order of judgement, by its version, the form of its target and its fields.
abbrev pub faults_of : ℕ → TargetForm → List Field → List WireFault
faults_of minor form fields =
    when (not (accepts_hosts minor (values_of (codes "host") fields))) BadHost
    ++ when (is_unknown form) BadTarget
    ++ framing_faults minor fields
    ++ when (is_unknown_expectation minor fields) BadExpect

-- A head is accepted, or refused for the first of its faults.
abbrev pub accept : ℕ → TargetForm → List Field → Result ⊤ WireFault
accept minor form fields = first_or (faults_of minor form fields) tt

-- How the end of the body is found.
abbrev pub framing_of : List Field → Framing
framing_of fields = if has_codings fields then Chunked else Length (body_len fields)

-- Whether a body with this framing has, or may have, a byte.
abbrev pub has_body : Framing → Bool
has_body (Length count) = nat_lt 0 count
has_body Chunked = true

-- Whether the client awaits `100 Continue` before it sends the body.
abbrev pub awaits_continue : ℕ → List Field → Bool
awaits_continue minor fields = minor == 1 && (asks_to_continue fields && has_body (framing_of fields))

-- The target of a request, by its form.
abbrev pub target_in : TargetForm → List ℕ → Target
target_in Origin target = Path target
target_in (Absolute len) target = Path (path_of target)
target_in Star target = targets.Star
target_in Unknown target = targets.Star

-- The fields of a request with a target in this form. The authority of an absolute form replaces the host.
abbrev pub fields_beside : TargetForm → List ℕ → List Field → List Field
fields_beside Origin target fields = fields
fields_beside (Absolute len) target fields = with_hosts (authority_of target) fields
fields_beside Star target fields = fields
fields_beside Unknown target fields = fields

-- The head of a message without faults.
abbrev pub owed_head : TargetForm → RequestHead → List Field → OwedHead
owed_head form head fields = record {
  message = record {
    method = head.method;
    target = target_in form head.target;
    minor = head.minor;
    fields = fields_beside form head.target fields;
    body = [];
    keep = keeps head.minor fields;
  };
  framing = framing_of fields;
}

-- The refusal for a fault; otherwise the head, and whether it asks for `100 Continue`.
abbrev pub judgement_of : Result ⊤ WireFault → Bool → OwedHead → Judgement
judgement_of (Err fault) asked owed = Refused fault
judgement_of (Ok accepted) true owed = Expecting owed
judgement_of (Ok accepted) false owed = Accepted owed

-- The judgement on a head with a target in this form and these fields.
abbrev pub judgement_on : TargetForm → RequestHead → List Field → Judgement
judgement_on form head fields =
    judgement_of (accept head.minor form fields) (awaits_continue head.minor fields) (owed_head form head fields)

-- The judgement on a head.
abbrev pub judge : RequestHead → Judgement
judge head = judgement_on (target_form head.method head.target) head (fields_of head)
