-- Each line that is found is the one on which the element of its place begins.
use Rattle.std.proofs.Common.{◌≡◌, ◌∙◌, ℕ, zero, suc, ◌+◌, ◌<◌, ◌≤◌, Bool, true, false, cond, ◌⊎◌, inl, inr, List, [], ◌∷◌, ◌++◌, length, map, take, drop, append_assoc, append-nil, length-append, ap, sym, subst, refl, Option, Some, None, option_map, option_and_then, slice_get, nat_eq, zero-add, add-zero, add_assoc, count_by, flat_map, arith}
use Rattle.std.specs.List.{concat, onto_first, range_with_len}
use Rattle.std.specs.Option.{option_map_or}
use Rattle.std.proofs.lemmas.List.Folds.{concat-append}
use Rattle.std.proofs.lemmas.List.FromFn.{get_or-range_with_len, length-map-range_with_len, length-range_with_len}
use Rattle.std.proofs.lemmas.List.Sums.{sum_by-append}
use Rattle.std.proofs.lemmas.Option.{slice_get-get_or, slice_get-map, slice_get_within}
use Rattle.toml.specs.Data.{Members}
use Rattle.sv_program.specs.FileLine.{table_of}
use Rattle.sv_program.specs.Place.{ends_line}
use Rattle.sv_audited_contexts.specs.DescriptorLines.{AreWholeLines, BeginsOn, LinesAreRight, begins, count_in, count_of, document_in, document_of, documents_from, element_lines, groups_of, if_all, is_header, line_at, lines_in, lines_of, lines_with, parts_of, together}
use Rattle.sv_audited_contexts.specs.declared.descriptor_lines.Document.{Document}
use Rattle.sv_audited_contexts.specs.declared.descriptor_lines.Element.{Element}
use Rattle.sv_audited_contexts.specs.declared.descriptor_lines.Element.TheVariants.{Constraint, Role}
use Rattle.sv_audited_contexts.proofs.LineLemmas.{glued, parts_in, parts_with}

-- ---- The parts together are the text.
lines_joined : (text : List ℕ) → concat (lines_of text) ≡ text
lines_joined [] = refl
lines_joined (byte ∷ text) = by (ends_line byte) ∙ ap (λ rest. byte ∷ rest) (lines_joined text)
  where
    onto : (lines : List (List ℕ)) → concat (onto_first byte lines) ≡ byte ∷ concat lines
    onto [] = refl
    onto (line ∷ lines) = refl

    by : (end : Bool) → concat (cond end ((byte ∷ []) ∷ lines_of text) (onto_first byte (lines_of text))) ≡ byte ∷ concat (lines_of text)
    by true = refl
    by false = onto (lines_of text)

glued_joined : (front : List ℕ) (parts : List (List ℕ)) → concat (glued front parts) ≡ front ++ concat parts
glued_joined front [] = refl
glued_joined front (part ∷ parts) = append_assoc front part (concat parts)

groups_joined : (lines : List (List ℕ)) → concat (parts_in lines) ≡ concat lines
groups_joined [] = refl
groups_joined (line ∷ lines) = ap concat (parts_with line lines) ∙ by (is_header line) ∙ glued_joined line (parts_in lines) ∙ ap (λ rest. line ++ rest) (groups_joined lines)
  where
    by : (is : Bool) → concat (cond is ([] ∷ glued line (parts_in lines)) (glued line (parts_in lines))) ≡ concat (glued line (parts_in lines))
    by true = refl
    by false = refl

pub parts_joined : (text : List ℕ) → concat (parts_of text) ≡ text
parts_joined text = groups_joined (lines_of text) ∙ lines_joined text

-- ---- Parts before another one are whole lines.
-- A line with its line feed.
abbrev EndsLine : List ℕ → Type 0
EndsLine line = (front : List ℕ) × (line ≡ front ++ 10 ∷ [])

-- All lines but the last one have their line feeds.
abbrev AllEnd : List (List ℕ) → Type 0
AllEnd [] = Unit
AllEnd (line ∷ []) = Unit
AllEnd (line ∷ next ∷ lines) = EndsLine line × AllEnd (next ∷ lines)

whole_with : (one two : List ℕ) → AreWholeLines one → AreWholeLines two → AreWholeLines (one ++ two)
whole_with one two first (inl none) = subst AreWholeLines (sym (ap (λ back. one ++ back) none ∙ append-nil one)) first
whole_with one two first (inr (front, is)) = inr (one ++ front, ap (λ back. one ++ back) is ∙ sym (append_assoc one front (10 ∷ [])))

line_before : (line : List ℕ) (lines : List (List ℕ)) → EndsLine line → AllEnd lines → AllEnd (line ∷ lines)
line_before line [] ends all = tt
line_before line (next ∷ lines) ends all = (ends, all)

byte_before : (byte : ℕ) (lines : List (List ℕ)) → AllEnd lines → AllEnd (onto_first byte lines)
byte_before byte [] all = tt
byte_before byte (line ∷ []) all = tt
byte_before byte (line ∷ next ∷ lines) ((front, is), all) = ((byte ∷ front, ap (λ text. byte ∷ text) is), all)

feed : (byte : ℕ) → ends_line byte ≡ true → byte ≡ 10
feed byte h = grind (arith, h)

lines_end : (text : List ℕ) → AllEnd (lines_of text)
lines_end [] = tt
lines_end (byte ∷ text) = by (ends_line byte) refl (lines_end text)
  where
    by : (end : Bool) → ends_line byte ≡ end → AllEnd (lines_of text) → AllEnd (cond end ((byte ∷ []) ∷ lines_of text) (onto_first byte (lines_of text)))
    by true same all = line_before (byte ∷ []) (lines_of text) ([], ap (λ byte. byte ∷ []) (feed byte same)) all
    by false same all = byte_before byte (lines_of text) all

-- All parts but the last one are whole lines.
abbrev AllWhole : List (List ℕ) → Type 0
AllWhole [] = Unit
AllWhole (part ∷ []) = Unit
AllWhole (part ∷ next ∷ parts) = AreWholeLines part × AllWhole (next ∷ parts)

part_before : (part : List ℕ) (parts : List (List ℕ)) → AreWholeLines part → AllWhole parts → AllWhole (part ∷ parts)
part_before part [] whole all = tt
part_before part (next ∷ parts) whole all = (whole, all)

line_onto : (line : List ℕ) (parts : List (List ℕ)) → EndsLine line → AllWhole parts → AllWhole (glued line parts)
line_onto line [] ends all = tt
line_onto line (part ∷ []) ends all = tt
line_onto line (part ∷ next ∷ parts) ends (whole, all) = (whole_with line part (inr ends) whole, all)

parts_whole : (lines : List (List ℕ)) → AllEnd lines → AllWhole (parts_in lines)
parts_whole [] all = tt
parts_whole (line ∷ []) all = subst AllWhole (sym (parts_with line [])) (by (is_header line))
  where
    by : (is : Bool) → AllWhole (cond is ([] ∷ glued line (parts_in [])) (glued line (parts_in [])))
    by true = (inl refl, tt)
    by false = tt
parts_whole (line ∷ next ∷ lines) (ends, all) =
    subst AllWhole (sym (parts_with line (next ∷ lines))) (by (is_header line) (line_onto line (parts_in (next ∷ lines)) ends (parts_whole (next ∷ lines) all)))
  where
    by : (is : Bool) → AllWhole (glued line (parts_in (next ∷ lines))) → AllWhole (cond is ([] ∷ glued line (parts_in (next ∷ lines))) (glued line (parts_in (next ∷ lines))))
    by true rest = part_before [] (glued line (parts_in (next ∷ lines))) (inl refl) rest
    by false rest = rest

fronts_whole : (before : List (List ℕ)) (part : List ℕ) (after : List (List ℕ)) → AllWhole (before ++ part ∷ after) → AreWholeLines (concat before)
fronts_whole [] part after all = inl refl
fronts_whole (one ∷ []) part after (whole, all) = whole_with one [] whole (inl refl)
fronts_whole (one ∷ two ∷ before) part after (whole, all) = whole_with one (concat (two ∷ before)) whole (fronts_whole (two ∷ before) part after all)

-- ---- The lines of a document.
with_count : (first : Option ℕ) (count : ℕ) → length (lines_with first count) ≡ count
with_count first count = length-map-range_with_len (line_at first) 0 count

-- The lines of a document that begins on this line.
lines_there : (element : Element) (from : ℕ) (part : List ℕ) (file : Members)
    → lines_in element (document_in from part file) ≡ lines_with (cond (begins element part) (Some from) None) (count_in element file)
lines_there Constraint from part file = refl
lines_there Role from part file = refl

count_there : (element : Element) (from : ℕ) (part : List ℕ) (file : Members) → length (lines_in element (document_in from part file)) ≡ count_in element file
count_there element from part file =
    ap length (lines_there element from part file) ∙ with_count (cond (begins element part) (Some from) None) (count_in element file)

-- Only the first line is known.
record IsFirst (first : Option ℕ) (count place line : ℕ) : Type 0 where
  zeroth : place ≡ 0
  known : first ≡ Some line
  others : ℕ
  some : count ≡ suc others

only_first : (first : Option ℕ) (count place line : ℕ) → slice_get (lines_with first count) place ≡ Some (Some line) → IsFirst first count place line
only_first first count place line h =
    let inside : place < length (lines_with first count) = slice_get_within (lines_with first count) place (Some line) h in
    let within : place < count = rw (with_count first count) at inside in
    let there : slice_get (range_with_len 0 count) place ≡ Some place =
    slice_get-get_or (range_with_len 0 count) place 0 (rw (length-range_with_len 0 count) within)
    ∙ ap Some (get_or-range_with_len 0 count place 0 within ∙ zero-add place) in
    let read : Some (line_at first place) ≡ Some (Some line) =
    ap (option_map (line_at first)) (sym there) ∙ sym (slice_get-map (line_at first) (range_with_len 0 count) place) ∙ h in
    by place read (before count within)
  where
    before : (count : ℕ) → place < count → (others : ℕ) × (count ≡ suc others)
    before zero within = absurd (omega (arith, within))
    before (suc others) within = (others, refl)

    by : (place : ℕ) → Some (line_at first place) ≡ Some (Some line) → (others : ℕ) × (count ≡ suc others) → IsFirst first count place line
    by zero read (others, some) = record { zeroth = refl; known = cc; others = others; some = some }
    by (suc place) read more = absurd cc

-- ---- The documents of parts.
document_first : (from : ℕ) (part : List ℕ) (parts : List (List ℕ)) (file : Members) → table_of part ≡ Some file
    → documents_from from (part ∷ parts) ≡ document_in from part file ∷ documents_from (from + count_by ends_line part) parts
document_first from part parts file is = rw is refl

-- The lines of the documents of parts.
abbrev known : Element → ℕ → List (List ℕ) → List (Option ℕ)
known element from parts = flat_map (lines_in element) (documents_from from parts)

-- The lines of one more document.
known_first : (element : Element) (from : ℕ) (part : List ℕ) (parts : List (List ℕ)) (file : Members) → table_of part ≡ Some file
    → known element from (part ∷ parts) ≡ lines_in element (document_in from part file) ++ known element (from + count_by ends_line part) parts
known_first element from part parts file is = ap (flat_map (lines_in element)) (document_first from part parts file is)

-- One more document has its elements more.
together_first : (element : Element) (from : ℕ) (part : List ℕ) (parts texts : List (List ℕ)) (file : Members) → table_of part ≡ Some file
    → together element texts ≡ Some (length (known element (from + count_by ends_line part) parts))
    → together element (part ∷ texts) ≡ Some (length (known element from (part ∷ parts)))
together_first element from part parts texts file is rest =
    let lines = lines_in element (document_in from part file) in
    let others = known element (from + count_by ends_line part) parts in
    let sum : length (known element from (part ∷ parts)) ≡ count_in element file + length others =
    ap length (known_first element from part parts file is) ∙ length-append lines others ∙ ap (λ count. count + length others) (count_there element from part file) in
    ap (λ table. option_and_then (λ count. option_map (λ more. count + more) (together element texts)) (option_map (count_in element) table)) is
    ∙ ap (option_map (λ more. count_in element file + more)) rest ∙ ap Some (sym sum)

-- The parts that are read, which have together as many elements as there are lines.
record IsRead (element : Element) (parts : List (List ℕ)) (from : ℕ) : Type 0 where
  read : List (List ℕ)
  rest : List (List ℕ)
  split : parts ≡ read ++ rest
  documents : together element read ≡ Some (length (known element from parts))

are_read : (element : Element) (parts : List (List ℕ)) (from : ℕ) → IsRead element parts from
are_read element [] from = record { read = []; rest = []; split = refl; documents = refl }
are_read element (part ∷ parts) from = by (table_of part) refl (are_read element parts (from + count_by ends_line part))
  where
    none : table_of part ≡ None → Some 0 ≡ Some (length (known element from (part ∷ parts)))
    none is = rw is refl

    by : (file : Option Members) → table_of part ≡ file → IsRead element parts (from + count_by ends_line part) → IsRead element (part ∷ parts) from
    by None is more = record { read = []; rest = part ∷ parts; split = refl; documents = none is }
    by (Some file) is more = record {
      read = part ∷ more.read;
      rest = more.rest;
      split = ap (λ parts. part ∷ parts) more.split;
      documents = together_first element from part parts more.read file is more.documents;
    }

-- ---- A line that is found.
in_either : {A : Type 0} (xs ys : List A) (place : ℕ) (x : A) → slice_get (xs ++ ys) place ≡ Some x
    → (slice_get xs place ≡ Some x) ⊎ ((rest : ℕ) × (place ≡ length xs + rest) × (slice_get ys rest ≡ Some x))
in_either [] ys place x h = inr (place, sym (zero-add place), h)
in_either (first ∷ xs) ys zero x h = inl h
in_either (first ∷ xs) ys (suc place) x h = by (in_either xs ys place x h)
  where
    by : (slice_get xs place ≡ Some x) ⊎ ((rest : ℕ) × (place ≡ length xs + rest) × (slice_get ys rest ≡ Some x))
        → (slice_get xs place ≡ Some x) ⊎ ((rest : ℕ) × (suc place ≡ suc (length xs) + rest) × (slice_get ys rest ≡ Some x))
    by (inl found) = inl found
    by (inr (rest, at, found)) = inr (rest, omega (arith, at), found)

record IsFound (element : Element) (parts : List (List ℕ)) (from place line : ℕ) : Type 0 where
  before : List (List ℕ)
  part : List ℕ
  later : List (List ℕ)
  rest : List (List ℕ)
  split : parts ≡ before ++ part ∷ (later ++ rest)
  number : line ≡ from + count_by ends_line (concat before)
  preceding : together element before ≡ Some place
  first : begins element part ≡ true
  others : ℕ
  there : count_of element part ≡ Some (suc others)
  documents : together element (before ++ part ∷ later) ≡ Some (length (known element from parts))

begun_by : (is : Bool) (from line : ℕ) → cond is (Some from) None ≡ Some line → (is ≡ true) × (line ≡ from)
begun_by true from line h = (refl, cc)
begun_by false from line h = absurd cc

-- The line of the first element of the first part.
found_here : (element : Element) (from place line : ℕ) (part : List ℕ) (parts : List (List ℕ)) (file : Members) → table_of part ≡ Some file
    → IsRead element parts (from + count_by ends_line part) → IsFirst (cond (begins element part) (Some from) None) (count_in element file) place line
    → IsFound element (part ∷ parts) from place line
found_here element from place line part parts file is more it =
    let begins = begun_by (begins element part) from line it.known in
    record {
      before = [];
      part = part;
      later = more.read;
      rest = more.rest;
      split = ap (λ parts. part ∷ parts) more.split;
      number = begins.1 ∙ sym (add-zero from);
      preceding = ap Some (sym it.zeroth);
      first = begins.0;
      others = it.others;
      there = ap (option_map (count_in element)) is ∙ ap Some it.some;
      documents = together_first element from part parts more.read file is more.documents;
    }

-- The line of an element of a later part.
found_later : (element : Element) (from place rest line : ℕ) (part : List ℕ) (parts : List (List ℕ)) (file : Members) → table_of part ≡ Some file
    → place ≡ length (lines_in element (document_in from part file)) + rest → IsFound element parts (from + count_by ends_line part) rest line
    → IsFound element (part ∷ parts) from place line
found_later element from place rest line part parts file is at it =
    let feeds = sum_by-append (λ byte. cond (ends_line byte) 1 0) part (concat it.before) in
    record {
      before = part ∷ it.before;
      part = it.part;
      later = it.later;
      rest = it.rest;
      split = ap (λ parts. part ∷ parts) it.split;
      number = it.number ∙ add_assoc from (count_by ends_line part) (count_by ends_line (concat it.before)) ∙ ap (λ count. from + count) (sym feeds);
      preceding =
          ap (λ table. option_and_then (λ count. option_map (λ more. count + more) (together element it.before)) (option_map (count_in element) table)) is
          ∙ ap (option_map (λ more. count_in element file + more)) it.preceding
          ∙ ap Some (ap (λ count. count + rest) (sym (count_there element from part file)) ∙ sym at);
      first = it.first;
      others = it.others;
      there = it.there;
      documents = together_first element from part parts (it.before ++ it.part ∷ it.later) file is it.documents;
    }

apart : {A : Type 0} (x : A) → ¬ (None ≡ Some x)
apart x h = absurd cc

found_at : (element : Element) (parts : List (List ℕ)) (from place line : ℕ) → slice_get (known element from parts) place ≡ Some (Some line) → IsFound element parts from place line
found_at element [] from place line h = absurd cc
found_at element (part ∷ parts) from place line h = by (table_of part) refl (λ rest. found_at element parts (from + count_by ends_line part) rest line)
  where
    none : table_of part ≡ None → None ≡ Some (Some line)
    none is = rw is at h

    either : (file : Members) → table_of part ≡ Some file → ((rest : ℕ) → slice_get (known element (from + count_by ends_line part) parts) rest ≡ Some (Some line) → IsFound element parts (from + count_by ends_line part) rest line)
        → (slice_get (lines_in element (document_in from part file)) place ≡ Some (Some line))
        ⊎ ((rest : ℕ) × (place ≡ length (lines_in element (document_in from part file)) + rest) × (slice_get (known element (from + count_by ends_line part) parts) rest ≡ Some (Some line)))
        → IsFound element (part ∷ parts) from place line
    either file is more (inl here) =
        found_here element from place line part parts file is (are_read element parts (from + count_by ends_line part))
        (only_first (cond (begins element part) (Some from) None) (count_in element file) place line (ap (λ lines. slice_get lines place) (sym (lines_there element from part file)) ∙ here))
    either file is more (inr (rest, at, there)) = found_later element from place rest line part parts file is at (more rest there)

    by : (file : Option Members) → table_of part ≡ file → ((rest : ℕ) → slice_get (known element (from + count_by ends_line part) parts) rest ≡ Some (Some line) → IsFound element parts (from + count_by ends_line part) rest line)
        → IsFound element (part ∷ parts) from place line
    by None is more = absurd (apart (Some line) (none is))
    by (Some file) is more =
        either file is more
        (in_either (lines_in element (document_in from part file)) (known element (from + count_by ends_line part) parts) place (Some line)
        (ap (λ lines. slice_get lines place) (sym (known_first element from part parts file is)) ∙ h))

record IsAll (count : Option ℕ) (lines : List (Option ℕ)) (place : ℕ) (line : Option ℕ) : Type 0 where
  whole : count ≡ Some (length lines)
  there : slice_get lines place ≡ Some line

all_of : (count : Option ℕ) (lines : List (Option ℕ)) (place : ℕ) (line : Option ℕ) → slice_get (if_all count lines) place ≡ Some line → IsAll count lines place line
all_of None lines place line h = absurd (apart line h)
all_of (Some count) lines place line h = by (nat_eq (length lines) count) refl h
  where
    by : (same : Bool) → nat_eq (length lines) count ≡ same → slice_get (cond same lines []) place ≡ Some line → IsAll (Some count) lines place line
    by true is there = record { whole = ap Some (grind (arith, is)); there = there }
    by false is there = absurd (apart line there)

right_at : (element : Element) (text : List ℕ) (place line : ℕ) → IsFound element (parts_of text) 1 place line
    → count_of element text ≡ Some (length (known element 1 (parts_of text))) → BeginsOn element text place line
right_at element text place line it whole = record {
  before = it.before;
  part = it.part;
  later = it.later;
  rest = concat it.rest;
  joined =
      sym (parts_joined text) ∙ ap concat it.split ∙ concat-append it.before (it.part ∷ (it.later ++ it.rest))
      ∙ ap (λ back. concat it.before ++ (it.part ++ back)) (concat-append it.later it.rest)
      ∙ sym (append_assoc (concat it.before) it.part (concat it.later ++ concat it.rest))
      ∙ sym (append_assoc (concat it.before ++ it.part) (concat it.later) (concat it.rest));
  number = it.number ∙ omega arith;
  cut = fronts_whole it.before it.part (it.later ++ it.rest) (subst AllWhole it.split (parts_whole (lines_of text) (lines_end text)));
  preceding = it.preceding;
  first = it.first;
  others = it.others;
  there = it.there;
  total = length (known element 1 (parts_of text));
  documents = it.documents;
  whole = whole;
}

pub lines_are_right : LinesAreRight
lines_are_right element text place line h =
    let all = all_of (count_of element text) (known element 1 (parts_of text)) place (Some line) h in
    right_at element text place line (found_at element (parts_of text) 1 place line all.there) all.whole
