-- The reason phrases of status codes (RFC 9110, section 15).
use Rattle.std.specs.Prelude.{ℕ, List, [], unwrap_or}
use Rattle.http.specs.StatusCode.{reason_phrase}

-- The phrase of a status code, empty if it has none.
unfoldable pub phrase_of : ℕ → List ℕ
phrase_of status = unwrap_or (reason_phrase status) []
