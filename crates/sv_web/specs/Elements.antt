-- Elements of a deployment descriptor as text (Jakarta Servlet 6.0, section 14.4; TOML 1.0, "String" and "Array of Tables").
use Rattle.std.specs.Prelude.{ℕ, ◌==◌, List, [], ◌∷◌, ◌++◌, chars, codes, flat_map, encode_utf8_all, if◌then◌else◌}
use Rattle.std.specs.Borrow.{Bor}
use Rattle.std.specs.Str.{byte}

-- a character as a basic string writes it
abbrev pub quoted_char : ℕ → List ℕ
quoted_char c =
    if c == byte "\"" then codes "\\\""
    else if c == byte "\\" then codes "\\\\"
    else if c == byte "\n" then codes "\\n"
    else if c == byte "\r" then codes "\\r"
    else c ∷ []

-- a text as it is between the quotes of a basic string
unfoldable pub quoted : List ℕ → List ℕ
quoted text = encode_utf8_all (flat_map quoted_char (chars text))

-- a key with a text
unfoldable pub text_line : List ℕ → List ℕ → List ℕ
text_line key text = key ++ codes " = \"" ++ quoted text ++ codes "\"\n"

-- a key with a list of texts
abbrev pub list_item : List ℕ → List ℕ
list_item text = codes "\"" ++ quoted text ++ codes "\", "

unfoldable pub list_line : List ℕ → List (Bor (List ℕ)) → List ℕ
list_line key texts = key ++ codes " = [" ++ flat_map (λ text. list_item text.now) texts ++ codes "]\n"

-- an element with a class
unfoldable pub class_element : List ℕ → List ℕ → List ℕ → List ℕ
class_element header key class = header ++ text_line key class

-- an element with a name, and a class that has the name
unfoldable pub named_element : List ℕ → List ℕ → List ℕ → List ℕ → List ℕ
named_element header name_key class_key name = header ++ text_line name_key name ++ text_line class_key name

-- the URL patterns of a name
unfoldable pub mapping_element : List ℕ → List ℕ → List ℕ → List (Bor (List ℕ)) → List ℕ
mapping_element header name_key name patterns = header ++ text_line name_key name ++ list_line (codes "url-pattern") patterns

-- a servlet with its name as class, and its patterns
abbrev pub servlet_elements : List ℕ → List (Bor (List ℕ)) → List ℕ
servlet_elements name patterns =
    named_element (codes "[[servlet]]\n") (codes "servlet-name") (codes "servlet-class") name
    ++ mapping_element (codes "[[servlet-mapping]]\n") (codes "servlet-name") name patterns

-- a filter with its name as class, and its patterns
abbrev pub filter_elements : List ℕ → List (Bor (List ℕ)) → List ℕ
filter_elements name patterns =
    named_element (codes "[[filter]]\n") (codes "filter-name") (codes "filter-class") name
    ++ mapping_element (codes "[[filter-mapping]]\n") (codes "filter-name") name patterns

-- a listener, whose class is a fixed word
abbrev pub listener_elements : List ℕ
listener_elements = class_element (codes "[[listener]]\n") (codes "listener-class") (codes "listener")
