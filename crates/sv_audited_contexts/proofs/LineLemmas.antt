-- A text in lines, and its lines in parts.
use Rattle.std.proofs.Common.{◌≡◌, ◌∙◌, ℕ, zero, suc, ◌+◌, ◌-◌, ◌<◌, ◌≤◌, Bool, true, false, cond, not, List, [], ◌∷◌, ◌++◌, length, map, take, take-add, take_all, drop, drop-drop, drop_of_length-le, le_refl, add-one, nat_eq, nat_lt, position, Bor, flat_map, get_or, take-suc, append_assoc, append-nil, ap, sym, refl, Option, Some, None, arith}
use Rattle.std.specs.List.{concat, onto_first, position_or_len}
use Rattle.std.specs.Str.{IsUtf8, is_utf8}
use Rattle.std.proofs.lemmas.Grind.{flat_map-append}
use Rattle.std.proofs.lemmas.List.{map_push}
use Rattle.std.proofs.lemmas.Str.{IsUtf8-from_is_utf8, is_utf8-from_IsUtf8}
use Rattle.sv_program.specs.FileLine.{text_of}
use Rattle.sv_program.specs.Place.{ends_line}
use Rattle.sv_audited_contexts.specs.DescriptorLines.{elements_of, groups_of, is_header, lines_in, lines_of, lines_with, parts_of}
use Rattle.sv_audited_contexts.specs.declared.descriptor_lines.Document.{Document}
use Rattle.sv_audited_contexts.specs.declared.descriptor_lines.Element.{Element}
use Rattle.sv_audited_contexts.specs.declared.descriptor_lines.Elements.{Elements}

-- ---- A text.
-- Bytes that are UTF-8, and bytes that are not.
pub is_text : (bytes : List ℕ) → IsUtf8 bytes → text_of bytes ≡ Some bytes
is_text bytes is = rw (is_utf8-from_IsUtf8 bytes is) refl

pub is_no_text : (bytes : List ℕ) → ¬ (IsUtf8 bytes) → text_of bytes ≡ None
is_no_text bytes none = by (is_utf8 bytes) refl
  where
    by : (is : Bool) → is_utf8 bytes ≡ is → cond is (Some bytes) None ≡ None
    by true same = absurd (none (IsUtf8-from_is_utf8 bytes same))
    by false same = refl

-- ---- The first line of a text.
abbrev pub ends_at : List ℕ → ℕ
ends_at text = position_or_len ends_line text

line_of_byte : (byte : ℕ) (text : List ℕ) (n : ℕ) → n ≡ ends_at (byte ∷ text)
    → (ends_at text < length text → lines_of text ≡ take (suc (ends_at text)) text ∷ lines_of (drop (suc (ends_at text)) text))
    → n < suc (length text) → (end : Bool) → ends_line byte ≡ end
    → lines_of (byte ∷ text) ≡ take (suc n) (byte ∷ text) ∷ lines_of (drop (suc n) (byte ∷ text))
line_of_byte byte text n is rest within true same =
    let none : n ≡ 0 = rw same at is in
    rw (same, none) refl
line_of_byte byte text n is rest within false same =
    let more : n ≡ 1 + ends_at text = rw same at is in
    let next : n ≡ suc (ends_at text) = omega (arith, more) in
    rw (same, next) (ap (onto_first byte) (rest (omega (arith, next, within))))

first_line : (text : List ℕ) (n : ℕ) → n ≡ ends_at text → n < length text → lines_of text ≡ take (suc n) text ∷ lines_of (drop (suc n) text)
first_line [] n is within = absurd (omega (arith, within))
first_line (byte ∷ text) n is within = line_of_byte byte text n is (first_line text (ends_at text) refl) within (ends_line byte) refl

-- A text as its one line.
abbrev alone : List ℕ → List (List ℕ)
alone [] = []
alone (byte ∷ text) = (byte ∷ text) ∷ []

one_line : (text : List ℕ) → length text ≤ ends_at text → lines_of text ≡ alone text
one_line [] none = refl
one_line (byte ∷ text) none = by (ends_line byte) refl (one_line text)
  where
    only : (rest : List ℕ) → onto_first byte (alone rest) ≡ (byte ∷ rest) ∷ []
    only [] = refl
    only (next ∷ rest) = refl

    by : (end : Bool) → ends_line byte ≡ end → (length text ≤ ends_at text → lines_of text ≡ alone text) → lines_of (byte ∷ text) ≡ (byte ∷ text) ∷ []
    by true same rest =
        let short = rw same at none in
        absurd (omega (arith, short))
    by false same rest =
        let more = rw same at none in
        rw same (ap (onto_first byte) (rest (omega (arith, more))) ∙ only text)

pub line_to : (text : List ℕ) (at : ℕ) → position ends_line text ≡ Some at → lines_of text ≡ take (at + 1) text ∷ lines_of (drop (at + 1) text)
line_to text at h = by (nat_lt (ends_at text) (length text)) refl h
  where
    by : (within : Bool) → nat_lt (ends_at text) (length text) ≡ within → cond within (Some (ends_at text)) None ≡ Some at
        → lines_of text ≡ take (at + 1) text ∷ lines_of (drop (at + 1) text)
    by true same found =
        let is : ends_at text ≡ at = cc in
        rw add-one (first_line text at (sym is) (grind (arith, is, same)))
    by false same found = absurd cc

whole : (text : List ℕ) → 0 < length text → alone text ≡ take (length text) text ∷ lines_of (drop (length text) text)
whole [] some = absurd (omega (arith, some))
whole (byte ∷ text) some = rw (take_all (length (byte ∷ text)) (byte ∷ text) (le_refl (length (byte ∷ text))), drop_of_length-le (byte ∷ text) (le_refl (length (byte ∷ text)))) refl

pub line_of_all : (text : List ℕ) → 0 < length text → position ends_line text ≡ None → lines_of text ≡ take (length text) text ∷ lines_of (drop (length text) text)
line_of_all text some h = by (nat_lt (ends_at text) (length text)) refl h
  where
    by : (within : Bool) → nat_lt (ends_at text) (length text) ≡ within → cond within (Some (ends_at text)) None ≡ None
        → lines_of text ≡ take (length text) text ∷ lines_of (drop (length text) text)
    by true same found = absurd cc
    by false same found = one_line text (grind (arith, same)) ∙ whole text some

-- ---- The parts of a text.
-- The parts, with a text before the first.
abbrev pub glued : List ℕ → List (List ℕ) → List (List ℕ)
glued front [] = front ∷ []
glued front (part ∷ parts) = (front ++ part) ∷ parts

glued_line : (line : List ℕ) (groups : List (List (List ℕ))) → map concat (onto_first line groups) ≡ glued line (map concat groups)
glued_line line [] = ap (λ text. text ∷ []) (append-nil line)
glued_line line (group ∷ groups) = refl

glued_twice : (one two : List ℕ) (parts : List (List ℕ)) → glued one (glued two parts) ≡ glued (one ++ two) parts
glued_twice one two [] = refl
glued_twice one two (part ∷ parts) = ap (λ text. text ∷ parts) (sym (append_assoc one two part))

-- The parts of lines.
abbrev pub parts_in : List (List ℕ) → List (List ℕ)
parts_in lines = map concat (groups_of lines)

-- A line before others.
pub parts_with : (line : List ℕ) (lines : List (List ℕ)) → parts_in (line ∷ lines) ≡ cond (is_header line) ([] ∷ glued line (parts_in lines)) (glued line (parts_in lines))
parts_with line lines = by (is_header line)
  where
    by : (is : Bool) → map concat (cond is ([] ∷ onto_first line (groups_of lines)) (onto_first line (groups_of lines))) ≡ cond is ([] ∷ glued line (parts_in lines)) (glued line (parts_in lines))
    by true = ap (λ parts. [] ∷ parts) (glued_line line (groups_of lines))
    by false = glued_line line (groups_of lines)

glued_nothing : (lines : List (List ℕ)) → glued [] (parts_in lines) ≡ parts_in lines
glued_nothing [] = refl
glued_nothing (line ∷ lines) = ap (glued []) (parts_with line lines) ∙ by (is_header line) ∙ sym (parts_with line lines)
  where
    by : (is : Bool) → glued [] (cond is ([] ∷ glued line (parts_in lines)) (glued line (parts_in lines))) ≡ cond is ([] ∷ glued line (parts_in lines)) (glued line (parts_in lines))
    by true = refl
    by false = glued_twice [] line (parts_in lines)

pub begun : (text : List ℕ) → glued [] (parts_of text) ≡ parts_of text
begun text = glued_nothing (lines_of text)

-- ---- The parts found so far, and those of the rest of the text, of which the first goes on the part that is not ended.
abbrev pub slice : List ℕ → ℕ → ℕ → List ℕ
slice text start end = take (end - start) (drop start text)

-- The bytes between two places, and those up to a later one.
slices : (text : List ℕ) (start at n : ℕ) → start ≤ at → slice text start at ++ slice text at (at + n) ≡ slice text start (at + n)
slices text start at n before =
    let both : (at - start) + (at + n - at) ≡ at + n - start = omega (arith, before) in
    let there : start + (at - start) ≡ at = omega (arith, before) in
    let rest : drop (at - start) (drop start text) ≡ drop at text = drop-drop (at - start) start text ∙ ap (λ count. drop count text) there in
    ap (λ back. slice text start at ++ take (at + n - at) back) (sym rest)
    ∙ sym (take-add (at - start) (at + n - at) (drop start text)) ∙ ap (λ count. take count (drop start text)) both

-- The parts of the rest of a text, from those after its first line.
parts_from : (text : List ℕ) (at n : ℕ) → lines_of (drop at text) ≡ take n (drop at text) ∷ lines_of (drop n (drop at text))
    → parts_of (drop at text) ≡ cond (is_header (slice text at (at + n))) ([] ∷ glued (slice text at (at + n)) (parts_of (drop (at + n) text))) (glued (slice text at (at + n)) (parts_of (drop (at + n) text)))
parts_from text at n first =
    let whole : n ≡ at + n - at = omega arith in
    ap parts_in first ∙ parts_with (take n (drop at text)) (lines_of (drop n (drop at text)))
    ∙ ap (λ line. cond (is_header line) ([] ∷ glued line (parts_of (drop n (drop at text)))) (glued line (parts_of (drop n (drop at text))))) (ap (λ count. take count (drop at text)) whole)
    ∙ ap (λ rest. cond (is_header (slice text at (at + n))) ([] ∷ glued (slice text at (at + n)) (parts_of rest)) (glued (slice text at (at + n)) (parts_of rest))) (drop-drop n at text)

-- The part is ended by a line that is a header.
pub part_ended : (text : List ℕ) (start at n : ℕ) (parts next : List (Bor (List ℕ))) (part : Bor (List ℕ)) (whole : List (List ℕ))
    → lines_of (drop at text) ≡ take n (drop at text) ∷ lines_of (drop n (drop at text)) → is_header (slice text at (at + n)) ≡ true
    → next ≡ parts ++ part ∷ [] → part.now ≡ slice text start at
    → map (λ part. part.now) parts ++ glued (slice text start at) (parts_of (drop at text)) ≡ whole
    → map (λ part. part.now) next ++ glued (slice text at (at + n)) (parts_of (drop (at + n) text)) ≡ whole
part_ended text start at n parts next part whole first header pushed is known =
    let line = slice text at (at + n) in
    let rest = parts_of (drop (at + n) text) in
    let seen = map (λ part. part.now) parts in
    let cut : parts_of (drop at text) ≡ [] ∷ glued line rest = parts_from text at n first ∙ ap (λ is. cond is ([] ∷ glued line rest) (glued line rest)) header in
    ap (λ items. map (λ part. part.now) items ++ glued line rest) pushed
    ∙ ap (λ items. items ++ glued line rest) (map_push (λ part. part.now) parts part)
    ∙ append_assoc seen (part.now ∷ []) (glued line rest)
    ∙ ap (λ text. seen ++ text ∷ glued line rest) (is ∙ sym (append-nil (slice text start at)))
    ∙ ap (λ parts. seen ++ glued (slice text start at) parts) (sym cut)
    ∙ known

-- The part goes on with a line that is none.
pub part_goes_on : (text : List ℕ) (start at n : ℕ) (parts : List (List ℕ)) (whole : List (List ℕ)) → start ≤ at
    → lines_of (drop at text) ≡ take n (drop at text) ∷ lines_of (drop n (drop at text)) → is_header (slice text at (at + n)) ≡ false
    → parts ++ glued (slice text start at) (parts_of (drop at text)) ≡ whole
    → parts ++ glued (slice text start (at + n)) (parts_of (drop (at + n) text)) ≡ whole
part_goes_on text start at n parts whole before first header known =
    let line = slice text at (at + n) in
    let rest = parts_of (drop (at + n) text) in
    let cut : parts_of (drop at text) ≡ glued line rest = parts_from text at n first ∙ ap (λ is. cond is ([] ∷ glued line rest) (glued line rest)) header in
    ap (λ text. parts ++ glued text rest) (sym (slices text start at n before))
    ∙ ap (λ rest. parts ++ rest) (sym (glued_twice (slice text start at) line rest) ∙ ap (glued (slice text start at)) (sym cut))
    ∙ known

-- ---- The lines of documents.
-- One more document, with its elements.
pub lines_more : (element : Element) (documents : List Document) (i : ℕ) (other : Document) (elements : Elements) (lines next : List (Option ℕ)) → i < length documents
    → elements ≡ elements_of element (get_or documents i other) → next ≡ lines ++ lines_with elements.first elements.count
    → lines ≡ flat_map (lines_in element) (take i documents) → next ≡ flat_map (lines_in element) (take (i + 1) documents)
lines_more element documents i other elements lines next within is pushed known =
    let one = get_or documents i other in
    pushed ∙ ap (λ items. items ++ lines_with elements.first elements.count) known
    ∙ ap (λ elements. flat_map (lines_in element) (take i documents) ++ lines_with elements.first elements.count) is
    ∙ ap (λ back. flat_map (lines_in element) (take i documents) ++ back) (sym (append-nil (lines_in element one)))
    ∙ sym (flat_map-append (lines_in element) (take i documents) (one ∷ []))
    ∙ ap (flat_map (lines_in element)) (sym (rw add-one (take-suc documents i other within)))
