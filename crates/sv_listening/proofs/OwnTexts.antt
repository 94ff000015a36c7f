-- A whole body is all of the text before the bytes that follow it. So it ends with the last byte that it awaited.
use Rattle.std.proofs.Common.{◌≡◌, ℕ, ◌+◌, ◌-◌, ◌≤◌, ◌<◌, Bool, true, false, ◌||◌, ◌⊎◌, List, [], ◌∷◌, ◌++◌, length, take, drop, Option, None, Some, refl, sym, ap, ◌∙◌, subst, inl, inr, cond, ltb, eqb, arith, append_assoc, append-nil, length-append, nat_eq, bytes_eq}
use Rattle.std.specs.List.{ends_with}
use Rattle.std.proofs.lemmas.Bool.{cases_lt, cond-false, cond-true, ltb-false}
use Rattle.std.proofs.lemmas.List.{drop-append-le, length-drop, length-take, length-take-le, take-append-drop, take-append-le, take-take, take_all}
use Rattle.httparse.specs.Ascii.{crlf_bytes, line_feed}
use Rattle.sv_wire.specs.declared.body_fault.BodyFault.TheVariants.{BadChunk, TooLarge}
use Rattle.sv_wire.specs.declared.body_reader.Framing.{Framing}
use Rattle.sv_wire.specs.declared.body_reader.Framing.TheVariants.{Length, Chunked}
use Rattle.sv_wire.specs.declared.limits.TheConstants.{MAX_BODY_LEN, MAX_SIZE_LINE_LEN, MAX_TRAILER_LEN}
use Rattle.sv_wire.specs.Body.{ReadsBody}
use Rattle.sv_wire.specs.Chunks.{unfinished, complete, broken, Part, chunk, last, ReadsSize, trailer_at, read_trailer, read_data, after_line, BeginsAt, Begins, ReadsChunks}
use Rattle.sv_wire.proofs.BodyLemmas.{ReadsBody-unique}
use Rattle.sv_wire.proofs.ListLemmas.{drop_behind, take_behind}
use Rattle.sv_wire.proofs.MachineLemmas.{data_end, read_data_long, read_length_long}
use Rattle.sv_text.proofs.FrontLemmas.{cut-append, cut-whole, shortest_front_some}
use Rattle.sv_text.specs.declared.front.Cut.{Cut}
use Rattle.sv_text.specs.declared.front.Cut.TheVariants.{Endless, Unended, Whole}
use Rattle.sv_text.specs.Front.{cut, cut_at, shortest_front}

-- A front of the text is read in this way with `rest` after it, and with any other bytes after it.
abbrev pub Owns : (List ℕ → List ℕ → Type 0) → List ℕ → List ℕ → Type 0
Owns Reads text rest = (own : List ℕ) × (text ≡ own ++ rest) × ((more : List ℕ) → Reads (own ++ more) more)

-- One text after another.
owns_both : (First Second Both : List ℕ → List ℕ → Type 0) (text between rest : List ℕ)
    → ((whole middle end : List ℕ) → First whole middle → Second middle end → Both whole end)
    → Owns First text between → Owns Second between rest → Owns Both text rest
owns_both First Second Both text between rest both (front, is, reads) (back, later_is, later) = (
  front ++ back,
  is ∙ ap (λ t. front ++ t) later_is ∙ sym (append_assoc front back rest),
  λ more.
      subst (λ t. Both t more) (sym (append_assoc front back more))
      (both (front ++ (back ++ more)) (back ++ more) more (reads (back ++ more)) (later more)),
)

-- ---- A cut

module _ (ends : List ℕ → Bool) (limit : ℕ) (text : List ℕ) (n : ℕ) (is : cut ends limit text ≡ Whole n) where
  whole_fits : n ≤ length text
  whole_fits = omega (arith, (cut-whole ends limit text n is).fits, length-take limit text)

  -- The text that was cut is cut in the same way by itself.
  cut_itself : cut ends limit (take n text) ≡ Whole n
  cut_itself =
      let found = cut-whole ends limit text n is in
      let below : n ≤ limit = omega (arith, found.fits, length-take limit text) in
      let long : length (take n text) ≡ n = length-take-le n text whole_fits in
      let all : take limit (take n text) ≡ take n text = take_all limit (take n text) (omega (arith, long, below)) in
      let same : (k : ℕ) → k ≤ n → take k (take n text) ≡ take k (take limit text) = λ k within.
      take-take k n text within ∙ sym (take-take k limit text (omega (arith, within, below))) in
      ap (cut_at limit (take n text)) (ap (shortest_front ends) all ∙ shortest_front_some ends (take n text) n (record {
        fits = omega (arith, long);
        passes = ap ends (same n (omega arith)) ∙ found.passes;
        first = λ k less. ap ends (same k (omega (arith, less))) ∙ found.first k less;
      }))

  cut_own : (more : List ℕ) → cut ends limit (take n text ++ more) ≡ Whole n
  cut_own more = by_cut (cut-append ends limit (take n text) more (Whole n) cut_itself)
    where
      by_cut : (Whole n ≡ Unended) ⊎ (cut ends limit (take n text ++ more) ≡ Whole n) → cut ends limit (take n text ++ more) ≡ Whole n
      by_cut (inl none) = absurd (cc)
      by_cut (inr same) = same

-- The first `n` bytes, whatever follows them.
module _ (text : List ℕ) (n : ℕ) (fits : n ≤ length text) where
  front_text : text ≡ take n text ++ drop n text
  front_text = sym (take-append-drop n text)

  front_take : (more : List ℕ) → take n (take n text ++ more) ≡ take n text
  front_take more =
      take_behind (take n text) more n 0 (omega (arith, length-take-le n text fits)) ∙ append-nil (take n text)

  front_drop : (more : List ℕ) → drop n (take n text ++ more) ≡ more
  front_drop more = drop_behind (take n text) more n 0 (omega (arith, length-take-le n text fits))

-- ---- The parts of a chunked body

-- A line with a size.
abbrev BeginsWithSize : ℕ → List ℕ → List ℕ → Type 0
BeginsWithSize size text rest =
    (n : ℕ) × (cut (λ line. ends_with nat_eq line (line_feed ∷ [])) MAX_SIZE_LINE_LEN text ≡ Whole n) × ReadsSize (take n text) (Some size)
    × (rest ≡ drop n text)

size_owns : (size : ℕ) (text rest : List ℕ) → BeginsWithSize size text rest → Owns (BeginsWithSize size) text rest
size_owns size text rest (n, is, reads, behind) =
    let fits = whole_fits _ MAX_SIZE_LINE_LEN text n is in (
      take n text,
      front_text text n fits ∙ ap (λ t. take n text ++ t) (sym behind),
      λ more. (
        n,
        cut_own _ MAX_SIZE_LINE_LEN text n is more,
        subst (λ line. ReadsSize line (Some size)) (sym (front_take text n fits more)) reads,
        sym (front_drop text n fits more),
      ),
    )

-- The bytes of a chunk and CRLF.
module _ (size : ℕ) (text : List ℕ) (long : size + 2 ≤ length text) (ends : bytes_eq (take 2 (drop size text)) crlf_bytes ≡ true) (more : List ℕ) where
  abbrev own_data : List ℕ
  own_data = take (size + 2) text

  own_long : length own_data ≡ size + 2
  own_long = length-take-le (size + 2) text long

  same_end : take 2 (drop size (own_data ++ more)) ≡ take 2 (drop size text)
  same_end =
      ap (take 2) (drop-append-le size own_data more (omega (arith, own_long)))
      ∙ take-append-le 2 (drop size own_data) more (omega (arith, own_long, length-drop size own_data))
      ∙ sym (take-append-le 2 (drop size own_data) (drop (size + 2) text) (omega (arith, own_long, length-drop size own_data)))
      ∙ ap (take 2) (sym (drop-append-le size own_data (drop (size + 2) text) (omega (arith, own_long))))
      ∙ ap (λ t. take 2 (drop size t)) (take-append-drop (size + 2) text)

  data_reads : read_data size (take (size + 2) text ++ more) ≡ chunk (take size text) more
  data_reads =
      read_data_long size (own_data ++ more) (omega (arith, own_long, length-append own_data more))
      ∙ cond-true (bytes_eq (take 2 (drop size (own_data ++ more))) crlf_bytes) (chunk (take size (own_data ++ more)) (drop (size + 2) (own_data ++ more)))
      (last (broken BadChunk (drop (size + 2) (own_data ++ more)))) (ap (λ t. bytes_eq t crlf_bytes) same_end ∙ ends)
      ∙ (λ i. chunk ((take-append-le size own_data more (omega (arith, own_long)) ∙ take-take size (size + 2) text (omega arith)) i)
      (front_drop text (size + 2) long more i))

data_owns : (size : ℕ) (bytes text rest : List ℕ) → read_data size text ≡ chunk bytes rest → Owns (λ t r. read_data size t ≡ chunk bytes r) text rest
data_owns size bytes text rest = by_test (ltb (length text) (size + 2)) refl
  where
    by_end : (t : Bool) → bytes_eq (take 2 (drop size text)) crlf_bytes ≡ t → size + 2 ≤ length text
        → cond t (chunk (take size text) (drop (size + 2) text)) (last (broken BadChunk (drop (size + 2) text))) ≡ chunk bytes rest
        → Owns (λ t r. read_data size t ≡ chunk bytes r) text rest
    by_end false ends long same = absurd (cc)
    by_end true ends long same =
        let same_bytes : take size text ≡ bytes = cc in
        let same_rest : drop (size + 2) text ≡ rest = cc in (
          take (size + 2) text,
          front_text text (size + 2) long ∙ ap (λ t. take (size + 2) text ++ t) same_rest,
          λ more. data_reads size text long ends more ∙ ap (λ bs. chunk bs more) same_bytes,
        )

    by_test : (t : Bool) → ltb (length text) (size + 2) ≡ t → cond t (last unfinished) (data_end size text) ≡ chunk bytes rest
        → Owns (λ t r. read_data size t ≡ chunk bytes r) text rest
    by_test true short same = absurd (cc)
    by_test false long same = by_end (bytes_eq (take 2 (drop size text)) crlf_bytes) refl (ltb-false (length text) (size + 2) long) same

-- The trailer section.
abbrev ends_trailer : List ℕ → Bool
ends_trailer text = bytes_eq text crlf_bytes || ends_with nat_eq text (crlf_bytes ++ crlf_bytes)

trailer_owns : (bytes text whole rest : List ℕ) → read_trailer bytes text ≡ complete whole rest
    → Owns (λ t r. read_trailer bytes t ≡ complete whole r) text rest
trailer_owns bytes text whole rest = by_cut (cut ends_trailer MAX_TRAILER_LEN text) refl
  where
    by_cut : (c : Cut) → cut ends_trailer MAX_TRAILER_LEN text ≡ c → trailer_at c bytes text ≡ complete whole rest
        → Owns (λ t r. read_trailer bytes t ≡ complete whole r) text rest
    by_cut Endless is same = absurd (cc)
    by_cut Unended is same = absurd (cc)
    by_cut (Whole n) is same =
        let same_bytes : bytes ≡ whole = cc in
        let same_rest : drop n text ≡ rest = cc in
        let fits = whole_fits ends_trailer MAX_TRAILER_LEN text n is in (
          take n text,
          front_text text n fits ∙ ap (λ t. take n text ++ t) same_rest,
          λ more.
              ap (λ c. trailer_at c bytes (take n text ++ more)) (cut_own ends_trailer MAX_TRAILER_LEN text n is more)
              ∙ (λ i. complete (same_bytes i) (front_drop text n fits more i)),
        )

-- ---- A chunk, and the text after the last one

-- The text after a size line begins in this way.
abbrev IsAfterLine : List ℕ → ℕ → Part → List ℕ → Type 0
IsAfterLine bytes size part text = part ≡ after_line bytes (Some size) text

chunk_after : (bytes : List ℕ) (size : ℕ) (data_bytes text rest : List ℕ) → IsAfterLine bytes size (chunk data_bytes rest) text
    → Owns (λ t r. IsAfterLine bytes size (chunk data_bytes r) t) text rest
chunk_after bytes size data_bytes text rest = by_test (ltb MAX_BODY_LEN (length bytes + size)) refl
  where
    by_zero : (t : Bool) → ltb MAX_BODY_LEN (length bytes + size) ≡ false → eqb size 0 ≡ t
        → chunk data_bytes rest ≡ cond t (last (read_trailer bytes text)) (read_data size text)
        → Owns (λ t r. IsAfterLine bytes size (chunk data_bytes r) t) text rest
    by_zero true fits zero same = absurd (cc)
    by_zero false fits some same =
        let (own, is, reads) = data_owns size data_bytes text rest (sym same) in (
          own,
          is,
          λ more.
              sym (cond-false (ltb MAX_BODY_LEN (length bytes + size)) (last (broken TooLarge (own ++ more)))
              (cond (eqb size 0) (last (read_trailer bytes (own ++ more))) (read_data size (own ++ more))) fits
              ∙ cond-false (eqb size 0) (last (read_trailer bytes (own ++ more))) (read_data size (own ++ more)) some ∙ reads more),
        )

    by_test : (t : Bool) → ltb MAX_BODY_LEN (length bytes + size) ≡ t
        → chunk data_bytes rest ≡ cond t (last (broken TooLarge text)) (cond (eqb size 0) (last (read_trailer bytes text)) (read_data size text))
        → Owns (λ t r. IsAfterLine bytes size (chunk data_bytes r) t) text rest
    by_test true large same = absurd (cc)
    by_test false fits same = by_zero (eqb size 0) fits refl same

end_after : (bytes : List ℕ) (size : ℕ) (whole text rest : List ℕ) → IsAfterLine bytes size (last (complete whole rest)) text
    → Owns (λ t r. IsAfterLine bytes size (last (complete whole r)) t) text rest
end_after bytes size whole text rest = by_test (ltb MAX_BODY_LEN (length bytes + size)) refl
  where
    by_end : (t : Bool)
        → last (complete whole rest) ≡ cond t (chunk (take size text) (drop (size + 2) text)) (last (broken BadChunk (drop (size + 2) text))) → ⊥
    by_end true same = absurd (cc)
    by_end false same = absurd (cc)

    by_data : (t : Bool) → last (complete whole rest) ≡ cond t (last unfinished) (data_end size text) → ⊥
    by_data true same = absurd (cc)
    by_data false same = by_end (bytes_eq (take 2 (drop size text)) crlf_bytes) same

    by_zero : (t : Bool) → ltb MAX_BODY_LEN (length bytes + size) ≡ false → eqb size 0 ≡ t
        → last (complete whole rest) ≡ cond t (last (read_trailer bytes text)) (read_data size text)
        → Owns (λ t r. IsAfterLine bytes size (last (complete whole r)) t) text rest
    by_zero false fits some same = absurd (by_data (ltb (length text) (size + 2)) same)
    by_zero true fits zero same =
        let same_end : read_trailer bytes text ≡ complete whole rest = cc in
        let (own, is, reads) = trailer_owns bytes text whole rest same_end in (
          own,
          is,
          λ more.
              sym (cond-false (ltb MAX_BODY_LEN (length bytes + size)) (last (broken TooLarge (own ++ more)))
              (cond (eqb size 0) (last (read_trailer bytes (own ++ more))) (read_data size (own ++ more))) fits
              ∙ cond-true (eqb size 0) (last (read_trailer bytes (own ++ more))) (read_data size (own ++ more)) zero ∙ ap last (reads more)),
        )

    by_test : (t : Bool) → ltb MAX_BODY_LEN (length bytes + size) ≡ t
        → last (complete whole rest) ≡ cond t (last (broken TooLarge text)) (cond (eqb size 0) (last (read_trailer bytes text)) (read_data size text))
        → Owns (λ t r. IsAfterLine bytes size (last (complete whole r)) t) text rest
    by_test true large same = absurd (cc)
    by_test false fits same = by_zero (eqb size 0) fits refl same

-- The text begins with a size line, and the text after it begins in this way.
from_size : (bytes : List ℕ) (size : ℕ) (part : Part) (text between : List ℕ) → BeginsWithSize size text between → IsAfterLine bytes size part between
    → Begins bytes text part
from_size bytes size part text between (n, is, reads, behind) after =
    subst (λ c. BeginsAt c bytes text part) (sym is) (Some size, reads, after ∙ ap (after_line bytes (Some size)) behind)

-- A size line, and the part of a body that follows it.
abbrev AfterASize : List ℕ → List ℕ → Part → Type 0
AfterASize bytes text part = (size : ℕ) × (between : List ℕ) × BeginsWithSize size text between × IsAfterLine bytes size part between

chunk_size_of : (bytes text data_bytes rest : List ℕ) → Begins bytes text (chunk data_bytes rest) → AfterASize bytes text (chunk data_bytes rest)
chunk_size_of bytes text data_bytes rest = by_cut _ refl
  where
    by_size : (n : ℕ) (size : Option ℕ) → cut (λ line. ends_with nat_eq line (line_feed ∷ [])) MAX_SIZE_LINE_LEN text ≡ Whole n → ReadsSize (take n text) size
        → chunk data_bytes rest ≡ after_line bytes size (drop n text) → AfterASize bytes text (chunk data_bytes rest)
    by_size n None is reads after = absurd (cc)
    by_size n (Some size) is reads after = (size, drop n text, (n, is, reads, refl), after)

    by_cut : (c : Cut) → cut (λ line. ends_with nat_eq line (line_feed ∷ [])) MAX_SIZE_LINE_LEN text ≡ c → BeginsAt c bytes text (chunk data_bytes rest)
        → AfterASize bytes text (chunk data_bytes rest)
    by_cut (Whole n) is (size, reads, after) = by_size n size is reads after
    by_cut Endless is same = absurd (cc)
    by_cut Unended is same = absurd (cc)

end_size_of : (bytes text whole rest : List ℕ) → Begins bytes text (last (complete whole rest)) → AfterASize bytes text (last (complete whole rest))
end_size_of bytes text whole rest = by_cut _ refl
  where
    by_size : (n : ℕ) (size : Option ℕ) → cut (λ line. ends_with nat_eq line (line_feed ∷ [])) MAX_SIZE_LINE_LEN text ≡ Whole n → ReadsSize (take n text) size
        → last (complete whole rest) ≡ after_line bytes size (drop n text) → AfterASize bytes text (last (complete whole rest))
    by_size n None is reads after = absurd (cc)
    by_size n (Some size) is reads after = (size, drop n text, (n, is, reads, refl), after)

    by_cut : (c : Cut) → cut (λ line. ends_with nat_eq line (line_feed ∷ [])) MAX_SIZE_LINE_LEN text ≡ c → BeginsAt c bytes text (last (complete whole rest))
        → AfterASize bytes text (last (complete whole rest))
    by_cut (Whole n) is (size, reads, after) = by_size n size is reads after
    by_cut Endless is same = absurd (cc)
    by_cut Unended is same = absurd (cc)

-- ---- Bodies

abbrev ReadsWhole : List ℕ → List (List ℕ) → List ℕ → List ℕ → List ℕ → Type 0
ReadsWhole bytes chunks whole text rest = ReadsChunks bytes text chunks (complete whole rest)

chunks_own : (bytes text : List ℕ) (chunks : List (List ℕ)) (whole rest : List ℕ) → ReadsWhole bytes chunks whole text rest
    → Owns (ReadsWhole bytes chunks whole) text rest
chunks_own bytes text [] whole rest reads =
    let (size, between, begins, after) = end_size_of bytes text whole rest reads in
    owns_both (BeginsWithSize size) (λ t r. IsAfterLine bytes size (last (complete whole r)) t) (ReadsWhole bytes [] whole) text between rest
    (λ t middle end first second. from_size bytes size (last (complete whole end)) t middle first second)
    (size_owns size text between begins) (end_after bytes size whole between rest after)
chunks_own bytes text (data_bytes ∷ chunks) whole rest (behind, reads, later) =
    let (size, between, begins, after) = chunk_size_of bytes text data_bytes behind reads in
    owns_both (λ t r. Begins bytes t (chunk data_bytes r)) (ReadsWhole (bytes ++ data_bytes) chunks whole) (ReadsWhole bytes (data_bytes ∷ chunks) whole)
    text behind rest (λ t middle end first second. (middle, first, second))
    (owns_both (BeginsWithSize size) (λ t r. IsAfterLine bytes size (chunk data_bytes r) t) (λ t r. Begins bytes t (chunk data_bytes r)) text between behind
    (λ t middle end first second. from_size bytes size (chunk data_bytes end) t middle first second)
    (size_owns size text between begins) (chunk_after bytes size data_bytes between behind after))
    (chunks_own (bytes ++ data_bytes) behind chunks whole rest later)

length_owns : (count : ℕ) (text whole rest : List ℕ) → ReadsBody (Length count) text (complete whole rest)
    → Owns (λ t r. ReadsBody (Length count) t (complete whole r)) text rest
length_owns count text whole rest = by_test (ltb (length text) count) refl
  where
    by_test : (t : Bool) → ltb (length text) count ≡ t
        → complete whole rest ≡ cond t unfinished (complete (take count text) (drop count text))
        → Owns (λ t r. ReadsBody (Length count) t (complete whole r)) text rest
    by_test true short same = absurd (cc)
    by_test false long same =
        let fits : count ≤ length text = ltb-false (length text) count long in
        let same_whole : take count text ≡ whole = cc in
        let same_rest : drop count text ≡ rest = cc in (
          take count text,
          front_text text count fits ∙ ap (λ t. take count text ++ t) same_rest,
          λ more.
              sym (read_length_long [] count (take count text ++ more) (omega (arith, length-take-le count text fits, length-append (take count text) more))
              ∙ (λ i. complete ((front_take text count fits more ∙ same_whole) i) (front_drop text count fits more i))),
        )

-- The text of a whole body.
pub body_owns : (framing : Framing) (text whole rest : List ℕ) → ReadsBody framing text (complete whole rest)
    → Owns (λ t r. ReadsBody framing t (complete whole r)) text rest
body_owns (Length count) text whole rest reads = length_owns count text whole rest reads
body_owns Chunked text whole rest (chunks, reads) =
    let (own, is, again) = chunks_own [] text chunks whole rest reads in (own, is, λ more. (chunks, again more))

-- If more bytes complete an unfinished body, the bytes that follow it are among these.
pub body_ends : (framing : Framing) (text more whole rest : List ℕ) → ReadsBody framing text unfinished
    → ReadsBody framing (text ++ more) (complete whole rest) → (k : ℕ) × (rest ≡ drop k more)
body_ends framing text more whole rest unended reads = by_order (cases_lt (length text) (length own.0))
  where
    own : Owns (λ t r. ReadsBody framing t (complete whole r)) (text ++ more) rest
    own = body_owns framing (text ++ more) whole rest reads

    rest_is : drop (length own.0) (text ++ more) ≡ rest
    rest_is = ap (drop (length own.0)) own.1 ∙ drop_behind own.0 rest (length own.0) 0 (omega arith)

    by_order : (length text < length own.0) ⊎ (length own.0 ≤ length text) → (k : ℕ) × (rest ≡ drop k more)
    by_order (inl beyond) =
        (length own.0 - length text, sym rest_is ∙ drop_behind text more (length own.0) (length own.0 - length text) (omega (arith, beyond)))
    by_order (inr within) =
        let front : take (length own.0) text ≡ own.0 =
        sym (take-append-le (length own.0) text more within) ∙ ap (take (length own.0)) own.1
        ∙ take_behind own.0 rest (length own.0) 0 (omega arith) ∙ append-nil own.0 in
        let text_is : own.0 ++ drop (length own.0) text ≡ text = ap (λ t. t ++ drop (length own.0) text) (sym front) ∙ take-append-drop (length own.0) text in
        let held = subst (λ t. ReadsBody framing t (complete whole (drop (length own.0) text))) text_is (own.2 (drop (length own.0) text)) in
        let same = ReadsBody-unique framing text unfinished (complete whole (drop (length own.0) text)) unended held in absurd (cc)
