-- Size lines: the end of a line, its size, and its uniqueness.
use Rattle.std.proofs.Common.{◌≡◌, ℕ, ◌+◌, ◌-◌, ◌^◌, ◌<◌, ◌≤◌, true, false, ◌||◌, eqb, leb, List, [], ◌∷◌, ◌++◌, length, take, drop, All, None, Some, refl, sym, ap, ◌∙◌, subst, arith, append_assoc, append-nil, length-append, take_all, le-leb, ne_eqb}
use Rattle.std.specs.Char.{is_ascii_hexdigit}
use Rattle.std.specs.Fmt.{digits}
use Rattle.std.specs.Int.{is_in_range}
use Rattle.std.proofs.lemmas.Bool.{and_from, and_left, or_left, or_right}
use Rattle.std.proofs.lemmas.Fmt.{digits_is_IsNumeral, hex_one_digit}
use Rattle.std.proofs.lemmas.List.{drop-append-le, take-append-le}
use Rattle.std.proofs.lemmas.List.Elements.{All-append, All-cons, All-drop, All-from_recursion, All-head, All-nil, All-take}
use Rattle.httparse.specs.Grammar.{ChunkLine, IsChunkLine, chunk_size, print_chunk_line}
use Rattle.httparse.proofs.ChunkLemmas.{chunk_line_unique}
use Rattle.sv_wire.specs.declared.limits.TheConstants.{MAX_SIZE_LINE_LEN}
use Rattle.sv_wire.specs.Chunks.{ReadsSize}
use Rattle.sv_wire.proofs.ListLemmas.{drop_behind}
use Rattle.sv_text.specs.declared.front.Cut.TheVariants.{Whole}
use Rattle.sv_text.specs.Front.{cut, cut_at, shortest_front}
use Rattle.sv_text.proofs.FrontLemmas.{shortest_front_some}
use Rattle.sv_message.specs.Chunking.{size_line}
use Rattle.sv_wire.specs.ChunkedBody.{BeginsWithSize, ends_line}
use Rattle.sv_wire.proofs.CutLemmas.{whole_fits, whole_stays}
use Rattle.sv_wire.proofs.Digits.{digits_all, digits_few}
use lib.Pointwise.{pointwise}

-- ---- where a line ends

abbrev IsNoLf : ℕ → Type 0
IsNoLf b = b ≡ 10 → ⊥

no_line : (text : List ℕ) → All IsNoLf text → ends_line text ≡ false
no_line text none = is_other (drop (length text - 1) text) (All-drop IsNoLf (length text - 1) text none)
  where
    is_other : (xs : List ℕ) → All IsNoLf xs → pointwise eqb (10 ∷ []) xs ≡ false
    is_other [] none = refl
    is_other (x ∷ xs) none = and_left (eqb 10 x) (pointwise eqb [] xs) (ne_eqb 10 x (λ same. All-head IsNoLf x xs none (sym same)))

module _ (bytes : List ℕ) (none : All IsNoLf bytes) (short : length bytes < MAX_SIZE_LINE_LEN) where
  abbrev line : List ℕ
  line = bytes ++ (10 ∷ [])

  line_len : length line ≡ length bytes + 1
  line_len = length-append bytes (10 ∷ [])

  line_whole : cut ends_line MAX_SIZE_LINE_LEN line ≡ Whole (length bytes + 1)
  line_whole =
      ap (λ text. cut_at MAX_SIZE_LINE_LEN line (shortest_front ends_line text)) (take_all MAX_SIZE_LINE_LEN line (omega (arith, line_len, short)))
      ∙ ap (cut_at MAX_SIZE_LINE_LEN line) (
      shortest_front_some ends_line line (length bytes + 1) (record {
        fits = omega (arith, line_len);
        passes = ap ends_line (take_all (length bytes + 1) line (omega (arith, line_len)))
            ∙ ap (pointwise eqb (10 ∷ [])) (drop_behind bytes (10 ∷ []) (length line - 1) 0 (omega (arith, line_len)));
        first = λ k below. ap ends_line (take-append-le k bytes (10 ∷ []) (omega arith)) ∙ no_line (take k bytes) (All-take IsNoLf k bytes none);
      })
      )

  line_begins : (size : ℕ) (rest : List ℕ) → ReadsSize line (Some size) → BeginsWithSize (line ++ rest) size rest
  line_begins size rest reads = (
    length bytes + 1,
    whole_stays ends_line MAX_SIZE_LINE_LEN line rest (length bytes + 1) line_whole,
    subst (λ text. ReadsSize text (Some size)) (sym (take-append-le (length bytes + 1) line rest (omega (arith, line_len))
        ∙ take_all (length bytes + 1) line (omega (arith, line_len)))) reads,
    sym (drop_behind line rest (length bytes + 1) 0 (omega (arith, line_len))),
  )

-- ---- the line that is written

hex_pass : (n : ℕ) → All (λ c. is_ascii_hexdigit c ≡ true) (digits 16 false n)
hex_pass n = All-from_recursion (λ c. is_ascii_hexdigit c ≡ true) (digits 16 false n) (digits_all (λ c. is_ascii_hexdigit c ≡ true) digit letter n)
  where
    digit : (c : ℕ) → 48 ≤ c → c < 58 → is_ascii_hexdigit c ≡ true
    digit c low high =
        or_left (is_in_range 48 57 c || is_in_range 65 70 c) (is_in_range 97 102 c) (or_left (is_in_range 48 57 c) (is_in_range 65 70 c)
        (and_from (leb 48 c) (leb c 57) (le-leb 48 c low) (le-leb c 57 (omega arith))))

    letter : (c : ℕ) → 97 ≤ c → c < 103 → is_ascii_hexdigit c ≡ true
    letter c low high =
        or_right (is_in_range 48 57 c || is_in_range 65 70 c) (is_in_range 97 102 c)
        (and_from (leb 97 c) (leb c 102) (le-leb 97 c low) (le-leb c 102 (omega arith)))

digits_no_lf : (n : ℕ) → All IsNoLf (digits 16 false n)
digits_no_lf n = All-from_recursion IsNoLf (digits 16 false n) (digits_all IsNoLf (λ c low high same. omega arith) (λ c low high same. omega arith) n)

abbrev digits_line : ℕ → ChunkLine
digits_line n = record { digits = digits 16 false n; pad = []; extension = None }

line_reads : (n : ℕ) → n < 2 ^ 64 → ReadsSize ((digits 16 false n ++ (13 ∷ [])) ++ (10 ∷ [])) (Some n)
unfolding print_chunk_line
line_reads n small =
    let ds = digits 16 false n in
    let numeral = digits_is_IsNumeral 16 false (omega arith) (omega arith) n (omega (arith, small)) in
    let is : IsChunkLine (digits_line n) = record {
      digits = (numeral.0.0, digits_few n small, hex_pass n);
      pad = All-nil _;
      extension = tt;
    } in
    let text : (ds ++ (13 ∷ [])) ++ (10 ∷ []) ≡ print_chunk_line (digits_line n) ++ [] =
    append_assoc ds (13 ∷ []) (10 ∷ [])
    ∙ ap (λ t. t ++ (13 ∷ 10 ∷ [])) (sym (append-nil (ds ++ []) ∙ append-nil ds))
    ∙ sym (append-nil (print_chunk_line (digits_line n))) in
    (digits_line n, (is, text), sym numeral.1)

pub size_line_begins : (n : ℕ) (rest : List ℕ) → n < 2 ^ 64 → BeginsWithSize (size_line n ++ rest) n rest
size_line_begins n rest small =
    let ds = digits 16 false n in
    subst (λ line. BeginsWithSize (line ++ rest) n rest) (append_assoc ds (13 ∷ []) (10 ∷ []))
    (line_begins (ds ++ (13 ∷ []))
    (All-append IsNoLf ds (13 ∷ []) (digits_no_lf n) (All-cons IsNoLf 13 [] (λ same. omega arith) (All-nil IsNoLf)))
    (omega (arith, length-append ds (13 ∷ []), digits_few n small)) n rest (line_reads n small))

pub zero_line_begins : (rest : List ℕ) → BeginsWithSize (48 ∷ 13 ∷ 10 ∷ rest) 0 rest
zero_line_begins rest =
    subst (λ ds. BeginsWithSize ((ds ++ (13 ∷ 10 ∷ [])) ++ rest) 0 rest) (hex_one_digit false 0 (omega arith)) (size_line_begins 0 rest (omega arith))

-- ---- any line

pub BeginsWithSize-unique : (text : List ℕ) (size other : ℕ) (rest others : List ℕ) → BeginsWithSize text size rest → BeginsWithSize text other others
    → (size ≡ other) × (rest ≡ others)
BeginsWithSize-unique text size other rest others a b =
    let same : b.0 ≡ a.0 = cc in
    let reads : ReadsSize (take a.0 text) (Some other) = subst (λ len. ReadsSize (take len text) (Some other)) same b.2 in (
      a.2.2 ∙ ap (λ l. chunk_size l) (chunk_line_unique (take a.0 text) a.2.0 reads.0 [] [] a.2.1 reads.1).0 ∙ sym reads.2,
      a.3 ∙ ap (λ len. drop len text) (sym same) ∙ sym b.3,
    )

pub BeginsWithSize_more : (text : List ℕ) (size : ℕ) (rest more : List ℕ) → BeginsWithSize text size rest → BeginsWithSize (text ++ more) size (rest ++ more)
BeginsWithSize_more text size rest more begins =
    let fits = whole_fits ends_line MAX_SIZE_LINE_LEN text begins.0 begins.1 in (
      begins.0,
      whole_stays ends_line MAX_SIZE_LINE_LEN text more begins.0 begins.1,
      subst (λ line. ReadsSize line (Some size)) (sym (take-append-le begins.0 text more fits)) begins.2,
      ap (λ t. t ++ more) begins.3 ∙ sym (drop-append-le begins.0 text more fits),
    )
