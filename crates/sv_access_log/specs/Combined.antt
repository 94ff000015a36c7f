-- The `combined` format of Apache httpd (mod_log_config) and nginx. The second word, the identity by RFC 1413, is never known.
use Rattle.std.specs.Prelude.{ℕ, List, ◌++◌, codes, decimal, Option, None, Some, option_and_then}
use Rattle.sv_access_log.specs.Dates.{log_date}
use Rattle.sv_access_log.specs.Escaping.{escaped}
use Rattle.sv_access_log.specs.declared.circumstances.Circumstances.{Circumstances}
use Rattle.sv_access_log.specs.declared.escaping.Place.TheVariants.{Word, Quoted}
use Rattle.sv_run.specs.declared.access.Access.{Access}
use Rattle.sv_run.specs.declared.access.LoggedRequest.{LoggedRequest}

abbrev pub word_text : Option (List ℕ) → List ℕ
word_text None = codes "-"
word_text (Some text) = escaped Word text

abbrev pub quoted_text : Option (List ℕ) → List ℕ
quoted_text None = codes "\"-\""
quoted_text (Some text) = codes "\"" ++ escaped Quoted text ++ codes "\""

-- The request line (RFC 9112, section 3).
abbrev pub request_line : LoggedRequest → List ℕ
request_line request =
    codes "\"" ++ escaped Quoted request.method ++ codes " " ++ escaped Quoted request.target ++ codes " HTTP/1." ++ decimal request.minor ++ codes "\""

-- Bytes that were no message have no request.
abbrev pub request_text : Option LoggedRequest → List ℕ
request_text None = codes "\"-\""
request_text (Some request) = request_line request

abbrev pub referer_of : Option LoggedRequest → Option (List ℕ)
referer_of request = option_and_then (λ (asked : LoggedRequest). asked.referer) request

abbrev pub agent_of : Option LoggedRequest → Option (List ℕ)
agent_of request = option_and_then (λ (asked : LoggedRequest). asked.user_agent) request

-- The client, the caller and the time.
abbrev pub client_text : Circumstances → List ℕ
client_text around = word_text around.address ++ codes " - " ++ word_text around.user ++ codes " [" ++ log_date around.date ++ codes "] "

-- The status, and the number of bytes of the response with its head.
abbrev pub answer_text : Access → List ℕ
answer_text access = codes " " ++ decimal access.status ++ codes " " ++ decimal access.sent ++ codes " "

abbrev pub fields_text : Option LoggedRequest → List ℕ
fields_text request = quoted_text (referer_of request) ++ codes " " ++ quoted_text (agent_of request) ++ codes "\n"

abbrev pub combined_line : Access → Circumstances → List ℕ
combined_line access around = client_text around ++ request_text access.request ++ answer_text access ++ fields_text access.request
