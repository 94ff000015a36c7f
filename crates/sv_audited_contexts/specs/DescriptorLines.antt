-- The lines of a descriptor on which its elements begin: security constraints and declared roles.
use Rattle.std.specs.Prelude.{◌≡◌, ℕ, ◌+◌, Bool, ◌||◌, ◌==◌, ◌⊎◌, true, List, [], ◌∷◌, ◌++◌, length, map, slice_get, codes, nat_eq, Option, None, Some, zero, suc, option_and_then, if◌then◌else◌}
use Rattle.std.specs.List.{concat, count_by, flat_map, onto_first, range_with_len, starts_with}
use Rattle.std.specs.Option.{option_map, option_map_or}
use Rattle.toml.specs.Data.{Members, get_member}
use Rattle.sv_program.specs.FileLine.{table_of}
use Rattle.sv_program.specs.Offending.{items}
use Rattle.sv_program.specs.Place.{ends_line, line_behind}
use Rattle.sv_audited_contexts.specs.declared.descriptor_lines.Document.{Document}
use Rattle.sv_audited_contexts.specs.declared.descriptor_lines.Element.{Element}
use Rattle.sv_audited_contexts.specs.declared.descriptor_lines.Element.TheVariants.{Constraint, Role}
use Rattle.sv_audited_contexts.specs.declared.descriptor_lines.Elements.{Elements}
use Rattle.sv_audited_contexts.specs.declared.descriptor_lines.SourceLines.{SourceLines}

-- ---- The parts of a descriptor.

-- How an element begins in TOML.
abbrev pub header : Element → List ℕ
header Constraint = codes "[[security-constraint]]"
header Role = codes "[[security-role]]"

-- Whether a text begins with such an element.
abbrev pub begins : Element → List ℕ → Bool
begins element text = starts_with nat_eq text (header element)

-- Whether an element begins on a line.
abbrev pub is_header : List ℕ → Bool
is_header line = begins Constraint line || begins Role line

-- The lines of a text, each with the line feed that ends it.
abbrev pub lines_of : List ℕ → List (List ℕ)
lines_of [] = []
lines_of (byte ∷ text) = if ends_line byte then (byte ∷ []) ∷ lines_of text else onto_first byte (lines_of text)

-- The lines in groups: those before the first header, and each header with those up to the next.
abbrev pub groups_of : List (List ℕ) → List (List (List ℕ))
groups_of [] = [] ∷ []
groups_of (line ∷ lines) = if is_header line then [] ∷ onto_first line (groups_of lines) else onto_first line (groups_of lines)

-- A text in parts: before its first header, and from each header up to the next.
abbrev pub parts_of : List ℕ → List (List ℕ)
parts_of text = map concat (groups_of (lines_of text))

-- ---- The elements of a document.

-- The key of the elements in the table of a file.
abbrev pub key : Element → List ℕ
key Constraint = codes "security-constraint"
key Role = codes "security-role"

-- The number of elements in the table of a file.
abbrev pub count_in : Element → Members → ℕ
count_in element file = option_map_or (λ value. length (items value)) (get_member (key element) file) 0

-- The number of elements of a text, if it is a TOML document.
abbrev pub count_of : Element → List ℕ → Option ℕ
count_of element text = option_map (count_in element) (table_of text)

-- The elements of a document that begins on this line of a file. The line of the first is known if the document begins with it.
abbrev pub elements_in : Element → ℕ → List ℕ → Members → Elements
elements_in element line text file = record { first = if begins element text then Some line else None; count = count_in element file }

abbrev pub document_in : ℕ → List ℕ → Members → Document
document_in line text file = record { constraints = elements_in Constraint line text file; roles = elements_in Role line text file }

-- The text that begins on this line of a file as a document, if it is one.
abbrev pub document_of : ℕ → List ℕ → Option Document
document_of line text = option_map (document_in line text) (table_of text)

-- The documents that parts of a file are by themselves, up to the first part that is none. The first part begins on this line.
abbrev pub documents_from : ℕ → List (List ℕ) → List Document
documents_from line [] = []
documents_from line (part ∷ parts) =
    option_map_or (λ document. document ∷ documents_from (line + count_by ends_line part) parts) (document_of line part) []

-- ---- Their lines.

abbrev pub elements_of : Element → Document → Elements
elements_of Constraint document = document.constraints
elements_of Role document = document.roles

-- The line of the element of this number in a document, from 0. Only that of the first may be known.
abbrev pub line_at : Option ℕ → ℕ → Option ℕ
line_at first zero = first
line_at first (suc number) = None

-- The lines of so many elements.
abbrev pub lines_with : Option ℕ → ℕ → List (Option ℕ)
lines_with first count = map (line_at first) (range_with_len 0 count)

-- The lines of the elements of a document.
abbrev pub lines_in : Element → Document → List (Option ℕ)
lines_in element document = lines_with (elements_of element document).first (elements_of element document).count

-- The lines, if they are those of all elements of a file.
abbrev pub if_all : Option ℕ → List (Option ℕ) → List (Option ℕ)
if_all None lines = []
if_all (Some count) lines = if length lines == count then lines else []

-- The lines of the elements of a file, by their places: as far as they are known, or none.
abbrev pub element_lines : Element → List ℕ → List (Option ℕ)
element_lines element text = if_all (count_of element text) (flat_map (lines_in element) (documents_from 1 (parts_of text)))

abbrev pub source_lines : List ℕ → SourceLines
source_lines text = record { constraints = element_lines Constraint text; roles = element_lines Role text }

-- No line is known.
abbrev pub no_lines : SourceLines
no_lines = record { constraints = []; roles = [] }

-- ---- What a line means.

-- The number of elements that texts have together, if each is a TOML document.
abbrev pub together : Element → List (List ℕ) → Option ℕ
together element [] = Some 0
together element (text ∷ texts) = option_and_then (λ count. option_map (λ more. count + more) (together element texts)) (count_of element text)

-- Bytes that are whole lines: none, or the last of them is a line feed.
abbrev pub AreWholeLines : List ℕ → Type 0
AreWholeLines bytes = (bytes ≡ []) ⊎ ((front : List ℕ) × (bytes ≡ front ++ 10 ∷ []))

-- The element at this place begins on this line of a text. The lines before it are documents that have together as many
-- elements as there are places before this one. On the line begins a document, and it begins with such an element. These
-- documents and later ones have together as many elements as the whole text.
pub record BeginsOn (element : Element) (text : List ℕ) (place line : ℕ) : Type 0 where
  pub before : List (List ℕ)
  pub part : List ℕ
  pub later : List (List ℕ)
  pub rest : List ℕ
  pub joined : text ≡ concat before ++ part ++ concat later ++ rest
  pub number : line ≡ line_behind (concat before)
  pub cut : AreWholeLines (concat before)
  pub preceding : together element before ≡ Some place
  pub first : begins element part ≡ true
  pub others : ℕ
  pub there : count_of element part ≡ Some (suc others)
  pub total : ℕ
  pub documents : together element (before ++ part ∷ later) ≡ Some total
  pub whole : count_of element text ≡ Some total

-- Each line that is found is the one on which the element of its place begins.
abbrev pub LinesAreRight : Type 0
LinesAreRight = (element : Element) (text : List ℕ) (place line : ℕ) → slice_get (element_lines element text) place ≡ Some (Some line) →
    BeginsOn element text place line
