-- The content types of files by extension (Jakarta Servlet 6.0, section 12.1 defines extensions; RFC 9110, section
-- 8.3).
use Rattle.std.specs.Prelude.{ℕ, ◌||◌, List, codes, if◌then◌else◌, Option, Some, None}
use Rattle.std.specs.Str.{bytes_eq}
use Rattle.sv_mapping.specs.Pattern.{extension}

-- The type of an extension, which is case-sensitive.
unfoldable pub type_of : List ℕ → List ℕ
type_of name =
    if bytes_eq name (codes "html") || bytes_eq name (codes "htm") then codes "text/html"
    else if bytes_eq name (codes "txt") then codes "text/plain"
    else if bytes_eq name (codes "css") then codes "text/css"
    else if bytes_eq name (codes "js") then codes "text/javascript"
    else if bytes_eq name (codes "json") then codes "application/json"
    else if bytes_eq name (codes "svg") then codes "image/svg+xml"
    else codes "application/octet-stream"

abbrev pub type_by : Option (List ℕ) → List ℕ
type_by (Some name) = type_of name
type_by None = codes "application/octet-stream"

abbrev pub content_type : List ℕ → List ℕ
content_type path = type_by (extension path)
