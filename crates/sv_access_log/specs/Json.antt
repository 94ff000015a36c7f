-- A line as an object of JSON (RFC 8259), with its members in byte order of their names. What is missing is null.
use Rattle.std.specs.Prelude.{ℕ, List, ◌++◌, codes, decimal, Option, None, Some, option_map}
use Rattle.serde_json.specs.Data.{Data, Members, member, no_members, null, number, object, put as with_member, string, unsigned}
use Rattle.serde_json.specs.Written.{compact_text}
use Rattle.sv_access_log.specs.Combined.{agent_of, referer_of}
use Rattle.sv_access_log.specs.Dates.{internet_date}
use Rattle.sv_access_log.specs.Escaping.{escaped}
use Rattle.sv_access_log.specs.declared.circumstances.Circumstances.{Circumstances}
use Rattle.sv_access_log.specs.declared.escaping.Place.TheVariants.{Json}
use Rattle.sv_run.specs.declared.access.Access.{Access}
use Rattle.sv_run.specs.declared.access.LoggedRequest.{LoggedRequest}
use Rattle.sv_uri.specs.ContextPath.{shown_context}

abbrev pub text_value : Option (List ℕ) → Data
text_value None = null
text_value (Some text) = string text

-- Bytes of a client, which may be no text of JSON, are escaped first.
abbrev pub bytes_value : Option (List ℕ) → Data
bytes_value bytes = text_value (option_map (escaped Json) bytes)

abbrev pub number_value : ℕ → Data
number_value n = number (unsigned n)

abbrev pub method_of : Option LoggedRequest → Option (List ℕ)
method_of request = option_map (λ (asked : LoggedRequest). asked.method) request

abbrev pub target_of : Option LoggedRequest → Option (List ℕ)
target_of request = option_map (λ (asked : LoggedRequest). asked.target) request

abbrev pub version_of : Option LoggedRequest → Option (List ℕ)
version_of request = option_map (λ (asked : LoggedRequest). codes "HTTP/1." ++ decimal asked.minor) request

unfoldable pub line_value : Access → Circumstances → Data
line_value access around = object
    (member (codes "address") (text_value around.address)
    (member (codes "agent") (bytes_value (agent_of access.request))
    (member (codes "bytes") (number_value access.sent)
    (member (codes "context") (text_value (option_map shown_context around.context))
    (member (codes "method") (bytes_value (method_of access.request))
    (member (codes "micros") (number_value around.micros)
    (member (codes "outcome") (text_value around.outcome)
    (member (codes "referer") (bytes_value (referer_of access.request))
    (member (codes "status") (number_value access.status)
    (member (codes "target") (bytes_value (target_of access.request))
    (member (codes "time") (string (internet_date around.date))
    (member (codes "user") (text_value around.user)
    (member (codes "version") (text_value (version_of access.request)) no_members)))))))))))))

-- The members, with those of the request.
abbrev pub with_request : Option LoggedRequest → Members → Members
with_request request members =
    with_member (codes "version") (text_value (version_of request))
    (with_member (codes "target") (bytes_value (target_of request))
    (with_member (codes "referer") (bytes_value (referer_of request))
    (with_member (codes "method") (bytes_value (method_of request)) (with_member (codes "agent") (bytes_value (agent_of request)) members))))

-- The members, with those of the client.
abbrev pub with_client : Circumstances → Members → Members
with_client around members =
    with_member (codes "user") (text_value around.user)
    (with_member (codes "time") (string (internet_date around.date)) (with_member (codes "address") (text_value around.address) members))

-- The members, with what became of the message.
abbrev pub with_outcome : Circumstances → Members → Members
with_outcome around members =
    with_member (codes "outcome") (text_value around.outcome)
    (with_member (codes "micros") (number_value around.micros) (with_member (codes "context") (text_value (option_map shown_context around.context)) members))

abbrev pub json_line : Access → Circumstances → List ℕ
json_line access around = compact_text (line_value access around) ++ codes "\n"
