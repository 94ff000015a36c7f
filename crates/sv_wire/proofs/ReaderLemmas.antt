-- The reader of bodies reads exactly the chunked bodies within its limit.
use Rattle.std.proofs.Common.{◌≡◌, ℕ, ◌+◌, ◌<◌, ◌≤◌, Bool, true, false, cond, eqb, ltb, ◌⊎◌, inl, inr, List, [], ◌∷◌, ◌++◌, length, take, drop, All, Option, None, Some, refl, sym, ap, ◌∙◌, subst, arith, append_assoc, append-nil, length-append, length-take, le-ltb, ltb-false, eqb-true}
use Rattle.std.proofs.lemmas.Bool.{cond-false, eqb-false, ne_eqb}
use Rattle.std.proofs.lemmas.List.Elements.{All-cons, All-nil}
use Rattle.sv_wire.specs.declared.body_reader.Framing.TheVariants.{Chunked}
use Rattle.sv_wire.specs.declared.body_fault.BodyFault.TheVariants.{TooLarge}
use Rattle.sv_wire.specs.declared.limits.TheConstants.{MAX_BODY_LEN, MAX_SIZE_LINE_LEN}
use Rattle.sv_wire.specs.Body.{ReadsBody}
use Rattle.sv_wire.specs.Chunks.{Begins, BeginsAt, Body, Part, ReadsChunks, ReadsSize, after_line, broken, chunk, complete, last, read_data, read_trailer, unfinished}
use Rattle.sv_wire.proofs.BodyLemmas.{ReadsBody-unique, ReadsBody_front, and_more}
use Rattle.sv_text.specs.declared.front.Cut.{Cut}
use Rattle.sv_text.specs.declared.front.Cut.TheVariants.{Endless, Unended, Whole}
use Rattle.sv_text.specs.Front.{cut}
use Rattle.sv_message.specs.Chunking.{flushed_content, joined}
use Rattle.sv_wire.specs.ChunkedBody.{BeginsWithBody, BeginsWithChunk, BeginsWithEnd, ends_line}
use Rattle.sv_wire.specs.RoundTrip.{FitsMemory, ReaderAwaitsTheEnd, ReaderDecodes, ReaderReadsChunksBack}
use Rattle.sv_wire.proofs.DataLemmas.{IsData-from, IsTrailer-from, read_data-no_end, read_trailer-is}
use Rattle.sv_wire.proofs.Written.{chunks_are_read_back}

-- ---- after a size line

-- The reading after a size line, if the size is within the limit.
within_line : (bytes : List ℕ) (size : ℕ) (text : List ℕ) → length bytes + size ≤ MAX_BODY_LEN
    → after_line bytes (Some size) text ≡ cond (eqb size 0) (last (read_trailer bytes text)) (read_data size text)
within_line bytes size text fits =
    cond-false (ltb MAX_BODY_LEN (length bytes + size)) (last (broken TooLarge text)) _ (le-ltb MAX_BODY_LEN (length bytes + size) fits)

module _ (bytes text : List ℕ) where
  after_line-chunk : (size : Option ℕ) (data_bytes rest : List ℕ) → chunk data_bytes rest ≡ after_line bytes size text
      → (n : ℕ) × (size ≡ Some n) × (length bytes + n ≤ MAX_BODY_LEN) × (0 < n) × (read_data n text ≡ chunk data_bytes rest)
  after_line-chunk None data_bytes rest same = absurd (cc)
  after_line-chunk (Some size) data_bytes rest same = by_test (ltb MAX_BODY_LEN (length bytes + size)) refl same
    where
      by_zero : (t : Bool) → eqb size 0 ≡ t → length bytes + size ≤ MAX_BODY_LEN
          → chunk data_bytes rest ≡ cond t (last (read_trailer bytes text)) (read_data size text)
          → (n : ℕ) × (Some size ≡ Some n) × (length bytes + n ≤ MAX_BODY_LEN) × (0 < n) × (read_data n text ≡ chunk data_bytes rest)
      by_zero true zero fits same = absurd (cc)
      by_zero false some fits same =
          let not : size ≡ 0 → ⊥ = eqb-false size 0 some in
          (size, refl, fits, omega arith, sym same)

      by_test : (t : Bool) → ltb MAX_BODY_LEN (length bytes + size) ≡ t
          → chunk data_bytes rest ≡ cond t (last (broken TooLarge text)) (cond (eqb size 0) (last (read_trailer bytes text)) (read_data size text))
          → (n : ℕ) × (Some size ≡ Some n) × (length bytes + n ≤ MAX_BODY_LEN) × (0 < n) × (read_data n text ≡ chunk data_bytes rest)
      by_test true over same = absurd (cc)
      by_test false within same = by_zero (eqb size 0) refl (ltb-false MAX_BODY_LEN (length bytes + size) within) same

  after_line-end : (size : Option ℕ) (whole rest : List ℕ) → last (complete whole rest) ≡ after_line bytes size text
      → (size ≡ Some 0) × (length bytes ≤ MAX_BODY_LEN) × (read_trailer bytes text ≡ complete whole rest)
  after_line-end None whole rest same = absurd (cc)
  after_line-end (Some size) whole rest same = by_test (ltb MAX_BODY_LEN (length bytes + size)) refl same
    where
      by_zero : (t : Bool) → eqb size 0 ≡ t → length bytes + size ≤ MAX_BODY_LEN
          → last (complete whole rest) ≡ cond t (last (read_trailer bytes text)) (read_data size text)
          → (Some size ≡ Some 0) × (length bytes ≤ MAX_BODY_LEN) × (read_trailer bytes text ≡ complete whole rest)
      by_zero true zero fits same = (ap Some (eqb-true size 0 zero), omega (arith, fits), cc)
      by_zero false some fits same = absurd (read_data-no_end size text whole rest (sym same))

      by_test : (t : Bool) → ltb MAX_BODY_LEN (length bytes + size) ≡ t
          → last (complete whole rest) ≡ cond t (last (broken TooLarge text)) (cond (eqb size 0) (last (read_trailer bytes text)) (read_data size text))
          → (Some size ≡ Some 0) × (length bytes ≤ MAX_BODY_LEN) × (read_trailer bytes text ≡ complete whole rest)
      by_test true over same = absurd (cc)
      by_test false within same = by_zero (eqb size 0) refl (ltb-false MAX_BODY_LEN (length bytes + size) within) same

-- ---- one part

begins_at : (c : Cut) (bytes text : List ℕ) (part : Part) → cut ends_line MAX_SIZE_LINE_LEN text ≡ c → BeginsAt c bytes text part → Begins bytes text part
begins_at c bytes text part is begins = subst (λ k. BeginsAt k bytes text part) (sym is) begins

Begins-chunk : (bytes text data_bytes rest : List ℕ) → Begins bytes text (chunk data_bytes rest)
    → BeginsWithChunk text data_bytes rest × (length (bytes ++ data_bytes) ≤ MAX_BODY_LEN)
Begins-chunk bytes text data_bytes rest = by_cut (cut ends_line MAX_SIZE_LINE_LEN text) refl
  where
    by_cut : (c : Cut) → cut ends_line MAX_SIZE_LINE_LEN text ≡ c → BeginsAt c bytes text (chunk data_bytes rest)
        → BeginsWithChunk text data_bytes rest × (length (bytes ++ data_bytes) ≤ MAX_BODY_LEN)
    by_cut (Whole len) is begins =
        let (n, some, fits, positive, read) = after_line-chunk bytes (drop len text) begins.0 data_bytes rest begins.2 in
        let data_is = IsData-from n (drop len text) data_bytes rest read in (
          (n, drop len text, (len, is, subst (ReadsSize (take len text)) some begins.1, refl), positive, read),
          omega (arith, fits, length-append bytes data_bytes, ap length data_is.2, length-take n (drop len text)),
        )
    by_cut Endless is begins = absurd (cc)
    by_cut Unended is begins = absurd (cc)

chunk-Begins : (bytes text data_bytes rest : List ℕ) → BeginsWithChunk text data_bytes rest → length (bytes ++ data_bytes) ≤ MAX_BODY_LEN
    → Begins bytes text (chunk data_bytes rest)
chunk-Begins bytes text data_bytes rest (size, behind, line, positive, read) fits =
    let data_is = IsData-from size behind data_bytes rest read in
    let within : length bytes + size ≤ MAX_BODY_LEN =
    omega (arith, fits, length-append bytes data_bytes, ap length data_is.2, length-take size behind, data_is.0) in
    begins_at (Whole line.0) bytes text (chunk data_bytes rest) line.1 (
      Some size,
      line.2,
      sym (ap (after_line bytes (Some size)) (sym line.3) ∙ within_line bytes size behind within
          ∙ cond-false (eqb size 0) (last (read_trailer bytes behind)) (read_data size behind) (ne_eqb size 0 (λ zero. omega arith)) ∙ read),
    )

Begins-end : (bytes text whole rest : List ℕ) → Begins bytes text (last (complete whole rest))
    → BeginsWithEnd text rest × (whole ≡ bytes) × (length bytes ≤ MAX_BODY_LEN)
Begins-end bytes text whole rest = by_cut (cut ends_line MAX_SIZE_LINE_LEN text) refl
  where
    by_cut : (c : Cut) → cut ends_line MAX_SIZE_LINE_LEN text ≡ c → BeginsAt c bytes text (last (complete whole rest))
        → BeginsWithEnd text rest × (whole ≡ bytes) × (length bytes ≤ MAX_BODY_LEN)
    by_cut (Whole len) is begins =
        let (zero, fits, read) = after_line-end bytes (drop len text) begins.0 whole rest begins.2 in
        let trailer = IsTrailer-from bytes (drop len text) whole rest read in (
          (drop len text, (len, is, subst (ReadsSize (take len text)) zero begins.1, refl), read_trailer-is [] (drop len text) rest trailer.0),
          trailer.1,
          fits,
        )
    by_cut Endless is begins = absurd (cc)
    by_cut Unended is begins = absurd (cc)

end-Begins : (bytes text rest : List ℕ) → BeginsWithEnd text rest → length bytes ≤ MAX_BODY_LEN → Begins bytes text (last (complete bytes rest))
end-Begins bytes text rest (behind, line, read) fits =
    let trailer = (IsTrailer-from [] behind [] rest read).0 in
    begins_at (Whole line.0) bytes text (last (complete bytes rest)) line.1 (
      Some 0,
      line.2,
      sym (ap (after_line bytes (Some 0)) (sym line.3) ∙ within_line bytes 0 behind (omega (arith, fits))
          ∙ ap last (read_trailer-is bytes behind rest trailer)),
    )

-- ---- complete bodies

chunks-body : (bytes text : List ℕ) (chunks : List (List ℕ)) (whole behind : List ℕ) → ReadsChunks bytes text chunks (complete whole behind)
    → BeginsWithBody text chunks behind × (whole ≡ bytes ++ joined chunks) × (length whole ≤ MAX_BODY_LEN)
chunks-body bytes text [] whole behind reads =
    let (ends, same, fits) = Begins-end bytes text whole behind reads in
    (ends, same ∙ sym (append-nil bytes), omega (arith, fits, ap length same))
chunks-body bytes text (d ∷ chunks) whole behind (rest, begins, reads) =
    let later = chunks-body (bytes ++ d) rest chunks whole behind reads in
    ((rest, (Begins-chunk bytes text d rest begins).0, later.0), later.1 ∙ append_assoc bytes d (joined chunks), later.2)

body-chunks : (bytes text : List ℕ) (chunks : List (List ℕ)) (behind : List ℕ) → BeginsWithBody text chunks behind
    → length (bytes ++ joined chunks) ≤ MAX_BODY_LEN → ReadsChunks bytes text chunks (complete (bytes ++ joined chunks) behind)
body-chunks bytes text [] behind ends fits =
    subst (λ whole. Begins bytes text (last (complete whole behind))) (sym (append-nil bytes))
    (end-Begins bytes text behind ends (omega (arith, fits, length-append bytes [])))
body-chunks bytes text (d ∷ chunks) behind (rest, begins, body) fits =
    let long = length-append bytes (d ++ joined chunks) in
    let longer = length-append d (joined chunks) in
    let front = length-append bytes d in
    let all = length-append (bytes ++ d) (joined chunks) in (
      rest,
      chunk-Begins bytes text d rest begins (omega (arith, fits, long, longer, front)),
      subst (λ whole. ReadsChunks (bytes ++ d) rest chunks (complete whole behind)) (append_assoc bytes d (joined chunks))
          (body-chunks (bytes ++ d) rest chunks behind body (omega (arith, fits, long, longer, front, all))),
    )

-- ---- the laws

pub reader_decodes : ReaderDecodes
reader_decodes text bytes behind = (
  λ reads. let (body, same, fits) = chunks-body [] text reads.0 bytes behind reads.1 in ((reads.0, body, same), fits),
  λ (decoded, fits). (
    decoded.0,
    subst (λ whole. ReadsChunks [] text decoded.0 (complete whole behind)) (sym decoded.2)
        (body-chunks [] text decoded.0 behind decoded.1 (omega (arith, fits, ap length decoded.2))),
  ),
)

-- Pieces fit in memory if they are within the limit when joined.
fit_memory : (pieces : List (List ℕ)) → length (joined pieces) ≤ MAX_BODY_LEN → All FitsMemory pieces
fit_memory [] fits = All-nil FitsMemory
fit_memory (piece ∷ pieces) fits =
    let long = length-append piece (joined pieces) in
    All-cons FitsMemory piece pieces (omega (arith, fits, long)) (fit_memory pieces (omega (arith, fits, long)))

reads_back : (pieces : List (List ℕ)) (later : List ℕ) → length (joined pieces) ≤ MAX_BODY_LEN
    → ReadsBody Chunked (flushed_content pieces true false ++ later) (complete (joined pieces) later)
reads_back pieces later fits =
    (reader_decodes (flushed_content pieces true false ++ later) (joined pieces) later).1
    ((chunks_are_read_back pieces later (joined pieces) later (fit_memory pieces fits)).1 (refl, refl), fits)

pub reader_reads_chunks_back : ReaderReadsChunksBack
reader_reads_chunks_back pieces later body fits =
    let text = flushed_content pieces true false ++ later in
    let whole : Body = complete (joined pieces) later in
    let reads = reads_back pieces later fits in
    (λ other. ReadsBody-unique Chunked text body whole other reads, λ is. subst (ReadsBody Chunked text) (sym is) reads)

pub reader_awaits_the_end : ReaderAwaitsTheEnd
reader_awaits_the_end pieces came lost body fits is some =
    (λ other. ReadsBody-unique Chunked came body unfinished other awaits, λ same. subst (ReadsBody Chunked came) (sym same) awaits)
  where
    whole : ReadsBody Chunked (came ++ lost) (complete (joined pieces) [])
    whole =
        subst (λ text. ReadsBody Chunked text (complete (joined pieces) [])) (append-nil (flushed_content pieces true false) ∙ sym is)
        (reads_back pieces [] fits)

    by_front : (front : Body) → ReadsBody Chunked came front → (front ≡ unfinished) ⊎ (complete (joined pieces) [] ≡ and_more front lost)
        → ReadsBody Chunked came unfinished
    by_front front reads (inl none) = subst (ReadsBody Chunked came) none reads
    by_front unfinished reads (inr same) = reads
    by_front (complete bytes rest) reads (inr same) =
        let left : rest ++ lost ≡ [] = cc in absurd (omega (arith, some, length-append rest lost, ap length left))
    by_front (broken fault rest) reads (inr same) = absurd (cc)

    awaits : ReadsBody Chunked came unfinished
    awaits = let (front, reads, how) = ReadsBody_front Chunked came lost (complete (joined pieces) []) whole in by_front front reads how
