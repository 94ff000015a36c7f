-- The text of a response (RFC 9112, sections 4 to 7 and 9.6; RFC 9110, sections 6.6.1, 8.6, 9.3.2 and 15.3.5; RFC 6265,
-- section 4.1).
use Rattle.std.specs.Prelude.{◌≡◌, ℕ, ◌==◌, min, Bool, true, false, ◌&&◌, ◌||◌, not, List, [], ◌++◌, length, codes, decimal, Option, Some, None, if◌then◌else◌}
use Rattle.std.specs.List.{flat_map}
use Rattle.http.specs.StatusCode.{code_digits}
use Rattle.httpdate.specs.Date.{date_text, unix_secs}
use Rattle.httpdate.specs.declared.date.HttpDate.{HttpDate}
use Rattle.sv_message.specs.declared.field.Field.{Field}
use Rattle.sv_message.specs.Content.{content, has_own_end}
use Rattle.sv_message.specs.Cookies.{cookie_text}
use Rattle.sv_message.specs.Phrases.{phrase_of}
use Rattle.sv_message.specs.declared.body.Body.{Body}
use Rattle.sv_message.specs.declared.body.Body.TheVariants.{Whole, Flushed}
use Rattle.sv_message.specs.declared.response.Cookie.{Cookie}
use Rattle.sv_message.specs.declared.response.Response.{Response}
use Rattle.sv_wire.specs.declared.date_text.TheConstants.{LAST_SECOND}
use Rattle.sv_wire.specs.declared.response_text.TheConstants.{NO_CONTENT}

-- The date shows the time, or the last second of the year 9999 if the time is later.
abbrev pub IsDateAt : ℕ → HttpDate → Type 0
IsDateAt moment date = unix_secs date ≡ min moment LAST_SECOND

-- The end of a line.
abbrev pub line_end : List ℕ
line_end = codes "\r\n"

-- The version, the status, and its phrase.
abbrev pub status_line : ℕ → List ℕ
status_line status = codes "HTTP/1.1 " ++ code_digits status ++ codes " " ++ phrase_of status ++ line_end

-- A field: its name and its value.
abbrev pub field_line : List ℕ → List ℕ → List ℕ
field_line name value = name ++ codes ": " ++ value ++ line_end

-- A line for each field, in order.
abbrev pub field_lines : List Field → List ℕ
field_lines fields = flat_map (λ field. field_line field.name field.value.bytes) fields

-- The line that sets the session cookie.
abbrev pub cookie_line : Cookie → List ℕ
cookie_line cookie = field_line (codes "set-cookie") (cookie_text cookie)

-- That line, if there is a cookie.
abbrev pub cookie_lines : Option Cookie → List ℕ
cookie_lines None = []
cookie_lines (Some cookie) = cookie_line cookie

-- Whether a response with this status has content.
abbrev pub allows_content : ℕ → Bool
allows_content status = not (status == NO_CONTENT)

-- The line that gives the end of the body, even if the body is left out: the length of a whole body, or the coding of
-- chunks. There is none if the body ends with the connection.
abbrev pub framing_line : Body → List ℕ
framing_line (Whole bytes) = field_line (codes "content-length") (decimal (length bytes))
framing_line (Flushed pieces true broken) = field_line (codes "transfer-encoding") (codes "chunked")
framing_line (Flushed pieces false broken) = []

-- That line, unless there is no content.
abbrev pub framing_lines : Response → List ℕ
framing_lines response = if allows_content response.status then framing_line response.body else []

-- The line that announces the close of the connection, unless it is kept.
abbrev pub connection_lines : Bool → List ℕ
connection_lines keep = if keep then [] else field_line (codes "connection") (codes "close")

-- The lines before the body, with the empty line that ends them.
unfoldable pub response_head : Response → Bool → HttpDate → List ℕ
response_head response keep date =
    status_line response.status
    ++ field_line (codes "date") (date_text date)
    ++ field_lines response.fields
    ++ cookie_lines response.cookie
    ++ framing_lines response
    ++ connection_lines (keep && has_own_end response.body)
    ++ line_end

-- The body, unless only the head is written or there is no content.
abbrev pub sent_body : Bool → Response → List ℕ
sent_body head_only response = if head_only || not (allows_content response.status) then [] else content response.body

-- The whole text.
abbrev pub response_text : Response → Bool → Bool → HttpDate → List ℕ
response_text response head_only keep date = response_head response keep date ++ sent_body head_only response

-- The text of a response at a time does not depend on which date shows the time.
abbrev pub ResponseTextsAreUnique : Type 0
ResponseTextsAreUnique =
    (response : Response) (head_only keep : Bool) (moment : ℕ) (first second : HttpDate)
    → IsDateAt moment first → IsDateAt moment second
    → response_text response head_only keep first ≡ response_text response head_only keep second
