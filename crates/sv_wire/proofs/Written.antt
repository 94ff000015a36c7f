-- The text written from pieces is a chunked body of them.
use Rattle.std.proofs.Common.{◌≡◌, ℕ, ◌^◌, ◌<◌, Bool, true, false, cond, eqb, List, [], ◌∷◌, ◌++◌, length, All, refl, sym, ap, ◌∙◌, subst, arith, append_assoc, append-nil, length-append, eqb-true}
use Rattle.std.proofs.lemmas.Bool.{eqb-false}
use Rattle.std.proofs.lemmas.List.Elements.{All-head, All-tail}
use Rattle.sv_message.specs.Chunking.{chunk, chunks, flushed_content, joined, size_line}
use Rattle.sv_wire.specs.ChunkedBody.{BeginsWithBody, BeginsWithChunk, BeginsWithEnd}
use Rattle.sv_wire.specs.RoundTrip.{BrokenChunksAreNoBody, ChunksAreReadBack, CutChunksAreNoBody, FitsMemory}
use Rattle.sv_wire.proofs.RoundTripLemmas.{body_more, body_unique}
use Rattle.sv_wire.proofs.DataLemmas.{empty_is, piece_is, read_data-is, read_trailer-is}
use Rattle.sv_wire.proofs.SizeLines.{size_line_begins, zero_line_begins}

-- The text begins with a chunked body of these pieces joined, followed by the rest.
abbrev pub Holds : List ℕ → List (List ℕ) → List ℕ → Type 0
Holds text pieces behind = (found : List (List ℕ)) × BeginsWithBody text found behind × (joined pieces ≡ joined found)

end_begins : (later : List ℕ) → BeginsWithEnd (48 ∷ 13 ∷ 10 ∷ 13 ∷ 10 ∷ later) later
end_begins later = (13 ∷ 10 ∷ later, zero_line_begins (13 ∷ 10 ∷ later), read_trailer-is [] (13 ∷ 10 ∷ later) later (empty_is later))

chunk_begins : (piece rest : List ℕ) → 0 < length piece → length piece < 2 ^ 64
    → BeginsWithChunk (((size_line (length piece) ++ piece) ++ (13 ∷ 10 ∷ [])) ++ rest) piece rest
chunk_begins piece rest some small =
    let line = size_line (length piece) in
    let text : ((line ++ piece) ++ (13 ∷ 10 ∷ [])) ++ rest ≡ line ++ (piece ++ (13 ∷ 10 ∷ rest)) =
    append_assoc (line ++ piece) (13 ∷ 10 ∷ []) rest ∙ append_assoc line piece (13 ∷ 10 ∷ rest) in
    subst (λ t. BeginsWithChunk t piece rest) (sym text) (
      length piece,
      piece ++ (13 ∷ 10 ∷ rest),
      size_line_begins (length piece) (piece ++ (13 ∷ 10 ∷ rest)) small,
      some,
      read_data-is (length piece) (piece ++ (13 ∷ 10 ∷ rest)) piece rest (piece_is piece rest),
    )

-- A piece is put before others that are already written.
one_more : (piece : List ℕ) (pieces : List (List ℕ)) (rest behind : List ℕ) → length piece < 2 ^ 64 → Holds rest pieces behind
    → Holds (chunk piece ++ rest) (piece ∷ pieces) behind
one_more piece pieces rest behind small (found, begins, same) = by_test (eqb (length piece) 0) refl
  where
    nothing : length piece ≡ 0 → (xs : List ℕ) → xs ≡ piece → xs ≡ []
    nothing none [] is = refl
    nothing none (x ∷ xs) is = absurd (omega (arith, none, ap length is))

    by_test : (t : Bool) → eqb (length piece) 0 ≡ t
        → Holds (cond t [] ((size_line (length piece) ++ piece) ++ (13 ∷ 10 ∷ [])) ++ rest) (piece ∷ pieces) behind
    by_test true none = (found, begins, ap (λ t. t ++ joined pieces) (nothing (eqb-true (length piece) 0 none) piece refl) ∙ same)
    by_test false some = (
      piece ∷ found,
      (rest, chunk_begins piece rest (let not : length piece ≡ 0 → ⊥ = eqb-false (length piece) 0 some in omega arith) small, begins),
      ap (λ t. piece ++ t) same,
    )

pub written : (pieces : List (List ℕ)) (later : List ℕ) → All FitsMemory pieces → Holds (flushed_content pieces true false ++ later) pieces later
written [] later small = ([], end_begins later, refl)
written (piece ∷ pieces) later small =
    let last = 48 ∷ 13 ∷ 10 ∷ 13 ∷ 10 ∷ [] in
    let text : ((chunk piece ++ chunks pieces) ++ last) ++ later ≡ chunk piece ++ ((chunks pieces ++ last) ++ later) =
    ap (λ t. t ++ later) (append_assoc (chunk piece) (chunks pieces) last) ∙ append_assoc (chunk piece) (chunks pieces ++ last) later in
    subst (λ t. Holds t (piece ∷ pieces) later) (sym text)
    (one_more piece pieces ((chunks pieces ++ last) ++ later) later (All-head FitsMemory piece pieces small)
    (written pieces later (All-tail FitsMemory piece pieces small)))

-- ---- the laws

pub chunks_are_read_back : ChunksAreReadBack
chunks_are_read_back pieces later bytes behind small =
    let text = flushed_content pieces true false ++ later in
    let (found, begins, same) = written pieces later small in (
      λ decoded. let only = body_unique text decoded.0 found behind later decoded.1 begins in (decoded.2 ∙ ap joined only.0 ∙ sym same, only.1),
      λ is. (found, subst (λ rest. BeginsWithBody text found rest) (sym is.1) begins, is.0 ∙ same),
    )

pub cut_chunks_are_no_body : CutChunksAreNoBody
cut_chunks_are_no_body pieces came lost bytes behind small is some decoded =
    let text = flushed_content pieces true false in
    let (found, begins, same) = written pieces [] small in
    let longer : BeginsWithBody text decoded.0 (behind ++ lost) =
    subst (λ t. BeginsWithBody t decoded.0 (behind ++ lost)) is (body_more came decoded.0 behind lost decoded.1) in
    let whole : BeginsWithBody text found [] = subst (λ t. BeginsWithBody t found []) (append-nil text) begins in
    omega (arith, some, length-append behind lost, ap length (body_unique text decoded.0 found (behind ++ lost) [] longer whole).1)

pub broken_chunks_are_no_body : BrokenChunksAreNoBody
broken_chunks_are_no_body pieces came lost bytes behind small is decoded =
    let last = 48 ∷ 13 ∷ 10 ∷ 13 ∷ 10 ∷ [] in
    cut_chunks_are_no_body pieces came (lost ++ last) bytes behind small
    (sym (append_assoc came lost last) ∙ ap (λ t. t ++ last) (is ∙ append-nil (chunks pieces)))
    (omega (arith, length-append lost last)) decoded
