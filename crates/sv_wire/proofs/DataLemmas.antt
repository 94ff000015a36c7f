-- The bytes of a chunk, and the trailer section.
use Rattle.std.proofs.Common.{◌≡◌, ℕ, ◌+◌, ◌≤◌, Bool, true, false, cond, ltb, ◌||◌, List, [], ◌∷◌, ◌++◌, length, take, drop, nat_eq, bytes_eq, refl, sym, ap, ◌∙◌, arith, append-nil, length-append, length-drop, ltb-false}
use Rattle.std.specs.List.{ends_with}
use Rattle.std.proofs.lemmas.Bool.{cond-true}
use Rattle.std.proofs.lemmas.List.{drop-append-le, take-append-le}
use Rattle.httparse.specs.Ascii.{crlf_bytes}
use Rattle.sv_wire.specs.declared.body_fault.BodyFault.TheVariants.{BadChunk}
use Rattle.sv_wire.specs.declared.limits.TheConstants.{MAX_TRAILER_LEN}
use Rattle.sv_wire.specs.Chunks.{broken, chunk, complete, last, read_data, read_trailer, trailer_at, unfinished}
use Rattle.sv_wire.proofs.ListLemmas.{drop_behind, take_behind}
use Rattle.sv_wire.proofs.MachineLemmas.{data_end, read_data_long}
use Rattle.sv_text.specs.declared.front.Cut.{Cut}
use Rattle.sv_text.specs.declared.front.Cut.TheVariants.{Endless, Unended, Whole}
use Rattle.sv_text.specs.Front.{cut}
use Rattle.sv_wire.proofs.CutLemmas.{whole_fits, whole_stays}

-- ---- the bytes of a chunk

-- The text begins with this number of bytes and a line end, followed by the rest.
abbrev pub IsData : ℕ → List ℕ → List ℕ → List ℕ → Type 0
IsData size text data_bytes rest =
    (size + 2 ≤ length text) × (bytes_eq (take 2 (drop size text)) crlf_bytes ≡ true) × (data_bytes ≡ take size text) × (rest ≡ drop (size + 2) text)

module _ (size : ℕ) (text : List ℕ) where
  pub IsData-from : (data_bytes rest : List ℕ) → read_data size text ≡ chunk data_bytes rest → IsData size text data_bytes rest
  IsData-from data_bytes rest = by_test (ltb (length text) (size + 2)) refl
    where
      by_end : (t : Bool) → bytes_eq (take 2 (drop size text)) crlf_bytes ≡ t → size + 2 ≤ length text
          → cond t (chunk (take size text) (drop (size + 2) text)) (last (broken BadChunk (drop (size + 2) text))) ≡ chunk data_bytes rest
          → IsData size text data_bytes rest
      by_end true ends long same = (long, ends, cc, cc)
      by_end false ends long same = absurd (cc)

      by_test : (t : Bool) → ltb (length text) (size + 2) ≡ t → cond t (last unfinished) (data_end size text) ≡ chunk data_bytes rest
          → IsData size text data_bytes rest
      by_test true short same = absurd (cc)
      by_test false long same = by_end (bytes_eq (take 2 (drop size text)) crlf_bytes) refl (ltb-false (length text) (size + 2) long) same

  pub read_data-is : (data_bytes rest : List ℕ) → IsData size text data_bytes rest → read_data size text ≡ chunk data_bytes rest
  read_data-is data_bytes rest is =
      read_data_long size text is.0
      ∙ cond-true (bytes_eq (take 2 (drop size text)) crlf_bytes) (chunk (take size text) (drop (size + 2) text))
      (last (broken BadChunk (drop (size + 2) text))) is.1
      ∙ (λ i. chunk (sym is.2 i) (sym is.3 i))

  -- Reading the bytes of a chunk never gives a complete body.
  pub read_data-no_end : (bytes rest : List ℕ) → read_data size text ≡ last (complete bytes rest) → ⊥
  read_data-no_end bytes rest = by_test (ltb (length text) (size + 2))
    where
      by_end : (t : Bool)
          → cond t (chunk (take size text) (drop (size + 2) text)) (last (broken BadChunk (drop (size + 2) text))) ≡ last (complete bytes rest) → ⊥
      by_end true same = absurd (cc)
      by_end false same = absurd (cc)

      by_test : (t : Bool) → cond t (last unfinished) (data_end size text) ≡ last (complete bytes rest) → ⊥
      by_test true same = absurd (cc)
      by_test false same = by_end (bytes_eq (take 2 (drop size text)) crlf_bytes) same

  pub IsData_more : (data_bytes rest more : List ℕ) → IsData size text data_bytes rest → IsData size (text ++ more) data_bytes (rest ++ more)
  IsData_more data_bytes rest more is =
      let fits : size ≤ length text = omega (arith, is.0) in (
        omega (arith, is.0, length-append text more),
        ap (λ front. bytes_eq front crlf_bytes)
            (ap (take 2) (drop-append-le size text more fits) ∙ take-append-le 2 (drop size text) more (omega (arith, is.0, length-drop size text))) ∙ is.1,
        is.2 ∙ sym (take-append-le size text more fits),
        ap (λ t. t ++ more) is.3 ∙ sym (drop-append-le (size + 2) text more is.0),
      )

-- A piece and a line end are the bytes of a chunk.
pub piece_is : (piece rest : List ℕ) → IsData (length piece) (piece ++ (13 ∷ 10 ∷ rest)) piece rest
piece_is piece rest =
    let n = length piece in (
      omega (arith, length-append piece (13 ∷ 10 ∷ rest)),
      ap (λ t. bytes_eq (take 2 t) crlf_bytes) (drop_behind piece (13 ∷ 10 ∷ rest) n 0 (omega arith)),
      sym (take_behind piece (13 ∷ 10 ∷ rest) n 0 (omega arith) ∙ append-nil piece),
      sym (drop_behind piece (13 ∷ 10 ∷ rest) (n + 2) 2 (omega arith)),
    )

-- ---- the trailer section

abbrev ends_trailer : List ℕ → Bool
ends_trailer text = bytes_eq text crlf_bytes || ends_with nat_eq text (crlf_bytes ++ crlf_bytes)

-- The text begins with a trailer section, followed by the rest.
abbrev pub IsTrailer : List ℕ → List ℕ → Type 0
IsTrailer text rest = (len : ℕ) × (cut ends_trailer MAX_TRAILER_LEN text ≡ Whole len) × (rest ≡ drop len text)

pub IsTrailer-from : (bytes text whole rest : List ℕ) → read_trailer bytes text ≡ complete whole rest → IsTrailer text rest × (whole ≡ bytes)
IsTrailer-from bytes text whole rest = by_cut (cut ends_trailer MAX_TRAILER_LEN text) refl
  where
    by_cut : (c : Cut) → cut ends_trailer MAX_TRAILER_LEN text ≡ c → trailer_at c bytes text ≡ complete whole rest → IsTrailer text rest × (whole ≡ bytes)
    by_cut (Whole len) is same = ((len, is, cc), cc)
    by_cut Endless is same = absurd (cc)
    by_cut Unended is same = absurd (cc)

pub read_trailer-is : (bytes text rest : List ℕ) → IsTrailer text rest → read_trailer bytes text ≡ complete bytes rest
read_trailer-is bytes text rest is = ap (λ c. trailer_at c bytes text) is.1 ∙ ap (complete bytes) (sym is.2)

pub IsTrailer_more : (text rest more : List ℕ) → IsTrailer text rest → IsTrailer (text ++ more) (rest ++ more)
IsTrailer_more text rest more is =
    let fits = whole_fits ends_trailer MAX_TRAILER_LEN text is.0 is.1 in (
      is.0,
      whole_stays ends_trailer MAX_TRAILER_LEN text more is.0 is.1,
      ap (λ t. t ++ more) is.2 ∙ sym (drop-append-le is.0 text more fits),
    )

-- An empty line is a trailer section without fields.
pub empty_is : (rest : List ℕ) → IsTrailer (13 ∷ 10 ∷ rest) rest
empty_is rest = (2, whole_stays ends_trailer MAX_TRAILER_LEN (13 ∷ 10 ∷ []) rest 2 refl, refl)
