-- A chunked body is unique, and more bytes after it do not change it.
use Rattle.std.proofs.Common.{◌≡◌, ℕ, List, [], ◌∷◌, ◌++◌, sym, ap, ◌∙◌, subst, arith}
use Rattle.sv_wire.specs.Chunks.{chunk, complete, read_data, read_trailer}
use Rattle.sv_wire.specs.ChunkedBody.{BeginsWithBody, BeginsWithChunk, BeginsWithEnd}
use Rattle.sv_wire.proofs.DataLemmas.{IsData-from, IsData_more, IsTrailer-from, IsTrailer_more, read_data-is, read_trailer-is}
use Rattle.sv_wire.proofs.SizeLines.{BeginsWithSize-unique, BeginsWithSize_more}

-- ---- uniqueness

no_end_at_chunk : (text data_bytes rest behind : List ℕ) → BeginsWithChunk text data_bytes rest → BeginsWithEnd text behind → ⊥
no_end_at_chunk text data_bytes rest behind a b = omega (arith, a.3, (BeginsWithSize-unique text a.0 0 a.1 b.0 a.2 b.1).0)

chunk_unique : (text data_bytes other rest others : List ℕ) → BeginsWithChunk text data_bytes rest → BeginsWithChunk text other others
    → (data_bytes ≡ other) × (rest ≡ others)
chunk_unique text data_bytes other rest others a b =
    let same = BeginsWithSize-unique text a.0 b.0 a.1 b.1 a.2 b.2 in
    let parts : chunk data_bytes rest ≡ chunk other others = sym a.4 ∙ (λ i. read_data (same.0 i) (same.1 i)) ∙ b.4 in
    (cc, cc)

end_unique : (text behind other : List ℕ) → BeginsWithEnd text behind → BeginsWithEnd text other → behind ≡ other
end_unique text behind other a b =
    let same = BeginsWithSize-unique text 0 0 a.0 b.0 a.1 b.1 in
    let bodies : complete [] behind ≡ complete [] other = sym a.2 ∙ ap (read_trailer []) same.1 ∙ b.2 in
    cc

pub body_unique : (text : List ℕ) (chunks others : List (List ℕ)) (behind other : List ℕ) → BeginsWithBody text chunks behind
    → BeginsWithBody text others other → (chunks ≡ others) × (behind ≡ other)
body_unique text [] [] behind other a b = (cc, end_unique text behind other a b)
body_unique text [] (d ∷ others) behind other a b = absurd (no_end_at_chunk text d b.0 behind b.1 a)
body_unique text (d ∷ chunks) [] behind other a b = absurd (no_end_at_chunk text d a.0 other a.1 b)
body_unique text (d ∷ chunks) (e ∷ others) behind other a b =
    let first = chunk_unique text d e a.0 b.0 a.1 b.1 in
    let rest = body_unique a.0 chunks others behind other a.2 (subst (λ t. BeginsWithBody t others other) (sym first.1) b.2) in
    (λ i. first.0 i ∷ rest.0 i, rest.1)

-- ---- more bytes

chunk_more : (text data_bytes rest more : List ℕ) → BeginsWithChunk text data_bytes rest → BeginsWithChunk (text ++ more) data_bytes (rest ++ more)
chunk_more text data_bytes rest more begins = (
  begins.0,
  begins.1 ++ more,
  BeginsWithSize_more text begins.0 begins.1 more begins.2,
  begins.3,
  read_data-is begins.0 (begins.1 ++ more) data_bytes (rest ++ more)
      (IsData_more begins.0 begins.1 data_bytes rest more (IsData-from begins.0 begins.1 data_bytes rest begins.4)),
)

end_more : (text behind more : List ℕ) → BeginsWithEnd text behind → BeginsWithEnd (text ++ more) (behind ++ more)
end_more text behind more begins = (
  begins.0 ++ more,
  BeginsWithSize_more text 0 begins.0 more begins.1,
  read_trailer-is [] (begins.0 ++ more) (behind ++ more) (IsTrailer_more begins.0 behind more (IsTrailer-from [] begins.0 [] behind begins.2).0),
)

pub body_more : (text : List ℕ) (chunks : List (List ℕ)) (behind more : List ℕ) → BeginsWithBody text chunks behind
    → BeginsWithBody (text ++ more) chunks (behind ++ more)
body_more text [] behind more begins = end_more text behind more begins
body_more text (d ∷ chunks) behind more begins =
    (begins.0 ++ more, chunk_more text d begins.0 more begins.1, body_more begins.0 chunks behind more begins.2)
