-- A paragraph in a page (HTML Standard, section 4.4.1).
use Rattle.std.specs.Prelude.{ℕ, List, ◌++◌, codes}
use Rattle.sv_web.specs.Escaping.{html_escaped}

-- the opening tag; the direction of the text depends on the text
unfoldable pub opening : List ℕ → List ℕ
opening class = codes "<p class=\"" ++ class ++ codes "\" dir=\"auto\">"

-- a paragraph of this class, which shows the text and nothing else
unfoldable pub paragraph : List ℕ → List ℕ → List ℕ
paragraph class text = opening class ++ html_escaped text ++ codes "</p>\n"
