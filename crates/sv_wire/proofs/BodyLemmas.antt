-- The reading of a body is unique, and more bytes do not change it.
use Rattle.std.proofs.Common.{◌≡◌, ℕ, ◌+◌, ◌≤◌, Bool, true, false, ◌⊎◌, List, [], ◌∷◌, ◌++◌, length, take, drop, Option, None, Some, refl, sym, ap, ◌∙◌, subst, inl, inr, cond, ltb, eqb, arith, length-append}
use Rattle.std.specs.Str.{bytes_eq}
use Rattle.std.proofs.lemmas.Bool.{ltb-false}
use Rattle.std.proofs.lemmas.List.{take-append-le, drop-append-le, length-take, length-drop}
use Rattle.httparse.specs.Ascii.{crlf_bytes}
use Rattle.httparse.specs.Grammar.{chunk_size}
use Rattle.httparse.proofs.ChunkLemmas.{chunk_line_unique}
use Rattle.sv_wire.specs.declared.body_fault.BodyFault.TheVariants.{BadChunk, TooLarge, TrailerTooLarge}
use Rattle.sv_text.specs.declared.front.Cut.{Cut}
use Rattle.sv_text.specs.declared.front.Cut.TheVariants.{Whole, Endless, Unended}
use Rattle.sv_wire.specs.declared.text_kind.TextKind.{TextKind}
use Rattle.sv_wire.specs.declared.text_kind.TextKind.TheVariants.{SizeLine, Trailer}
use Rattle.sv_wire.specs.declared.body_reader.Framing.{Framing}
use Rattle.sv_wire.specs.declared.body_reader.Framing.TheVariants.{Length, Chunked}
use Rattle.sv_wire.specs.declared.limits.TheConstants.{MAX_BODY_LEN, MAX_SIZE_LINE_LEN, MAX_TRAILER_LEN}
use Rattle.sv_wire.specs.Body.{read_length, ReadsBody}
use Rattle.sv_wire.specs.Chunks.{Body, unfinished, complete, broken, Part, chunk, last, ends_text, text_limit, cut_text, ReadsSize, trailer_at, read_trailer, read_data, after_line, BeginsAt, Begins, ReadsChunks}
use Rattle.sv_wire.specs.Machine.{ReadsRest}
use Rattle.sv_text.proofs.FrontLemmas.{cut-whole, cut-append, Endless-inverse}
use Rattle.sv_wire.proofs.MachineLemmas.{read_length_long, read_data_long, data_end}

-- ---- more bytes

-- A reading of a body, with more bytes after it.
abbrev pub and_more : Body → List ℕ → Body
and_more unfinished more = unfinished
and_more (complete bytes rest) more = complete bytes (rest ++ more)
and_more (broken fault rest) more = broken fault (rest ++ more)

abbrev part_more : Part → List ℕ → Part
part_more (chunk bytes rest) more = chunk bytes (rest ++ more)
part_more (last body) more = last (and_more body more)

-- A cut does not change when more bytes follow, and the bytes that it takes are present.
module _ (kind : TextKind) (text more : List ℕ) where
  pub whole_stays : (n : ℕ) → cut_text kind text ≡ Whole n → (cut_text kind (text ++ more) ≡ Whole n) × (n ≤ length text)
  whole_stays n is = (
    by_cut (cut-append (ends_text kind) (text_limit kind) text more (Whole n) is),
    omega (arith, (cut-whole (ends_text kind) (text_limit kind) text n is).fits, length-take (text_limit kind) text),
  )
    where
      by_cut : (Whole n ≡ Unended) ⊎ (cut_text kind (text ++ more) ≡ Whole n) → cut_text kind (text ++ more) ≡ Whole n
      by_cut (inl none) = absurd (cc)
      by_cut (inr same) = same

  pub endless_stays : cut_text kind text ≡ Endless → (cut_text kind (text ++ more) ≡ Endless) × (text_limit kind ≤ length text)
  endless_stays is =
      (by_cut (cut-append (ends_text kind) (text_limit kind) text more Endless is), (Endless-inverse (text_limit kind) text _ is).1)
    where
      by_cut : (Endless ≡ Unended) ⊎ (cut_text kind (text ++ more) ≡ Endless) → cut_text kind (text ++ more) ≡ Endless
      by_cut (inl none) = absurd (cc)
      by_cut (inr same) = same

read_length_more : (bytes : List ℕ) (count : ℕ) (text more : List ℕ)
    → (read_length bytes count text ≡ unfinished) ⊎ (read_length bytes count (text ++ more) ≡ and_more (read_length bytes count text) more)
read_length_more bytes count text more = by_test (ltb (length text) count) refl
  where
    by_test : (t : Bool) → ltb (length text) count ≡ t
        → (cond t unfinished (complete (bytes ++ take count text) (drop count text)) ≡ unfinished)
        ⊎ (read_length bytes count (text ++ more) ≡ and_more (cond t unfinished (complete (bytes ++ take count text) (drop count text))) more)
    by_test true short = inl refl
    by_test false long =
        let fits = ltb-false (length text) count long in
        inr (
        read_length_long bytes count (text ++ more) (omega (arith, fits, length-append text more))
        ∙ (λ i. complete (bytes ++ take-append-le count text more fits i) (drop-append-le count text more fits i))
        )

read_data_more : (size : ℕ) (text more : List ℕ)
    → (read_data size text ≡ last unfinished) ⊎ (read_data size (text ++ more) ≡ part_more (read_data size text) more)
read_data_more size text more = by_test (ltb (length text) (size + 2)) refl
  where
    by_end : (t : Bool) → size ≤ length text → size + 2 ≤ length text
        → cond t (chunk (take size (text ++ more)) (drop (size + 2) (text ++ more))) (last (broken BadChunk (drop (size + 2) (text ++ more))))
        ≡ part_more (cond t (chunk (take size text) (drop (size + 2) text)) (last (broken BadChunk (drop (size + 2) text)))) more
    by_end true fits long = λ i. chunk (take-append-le size text more fits i) (drop-append-le (size + 2) text more long i)
    by_end false fits long = λ i. last (broken BadChunk (drop-append-le (size + 2) text more long i))

    same_end : size ≤ length text → size + 2 ≤ length text → take 2 (drop size (text ++ more)) ≡ take 2 (drop size text)
    same_end fits long =
        ap (take 2) (drop-append-le size text more fits) ∙ take-append-le 2 (drop size text) more (omega (arith, long, length-drop size text))

    by_test : (t : Bool) → ltb (length text) (size + 2) ≡ t
        → (cond t (last unfinished) (data_end size text) ≡ last unfinished)
        ⊎ (read_data size (text ++ more) ≡ part_more (cond t (last unfinished) (data_end size text)) more)
    by_test true short = inl refl
    by_test false long =
        let both = ltb-false (length text) (size + 2) long in
        let fits : size ≤ length text = omega (arith, both) in
        inr (
        read_data_long size (text ++ more) (omega (arith, both, length-append text more))
        ∙ ap (λ t. cond (bytes_eq t crlf_bytes) (chunk (take size (text ++ more)) (drop (size + 2) (text ++ more))) (last (broken BadChunk (drop (size + 2) (text ++ more))))) (same_end fits both)
        ∙ by_end (bytes_eq (take 2 (drop size text)) crlf_bytes) fits both
        )

read_trailer_more : (bytes text more : List ℕ)
    → (read_trailer bytes text ≡ unfinished) ⊎ (read_trailer bytes (text ++ more) ≡ and_more (read_trailer bytes text) more)
read_trailer_more bytes text more = by_cut (cut_text Trailer text) refl
  where
    by_cut : (c : Cut) → cut_text Trailer text ≡ c
        → (trailer_at c bytes text ≡ unfinished) ⊎ (read_trailer bytes (text ++ more) ≡ and_more (trailer_at c bytes text) more)
    by_cut (Whole n) is =
        let stays = whole_stays Trailer text more n is in
        inr (ap (λ c. trailer_at c bytes (text ++ more)) stays.0 ∙ ap (complete bytes) (drop-append-le n text more stays.1))
    by_cut Endless is =
        let stays = endless_stays Trailer text more is in
        inr (ap (λ c. trailer_at c bytes (text ++ more)) stays.0 ∙ ap (broken TrailerTooLarge) (drop-append-le MAX_TRAILER_LEN text more stays.1))
    by_cut Unended is = inl refl

after_line_more : (bytes : List ℕ) (size : Option ℕ) (text more : List ℕ)
    → (after_line bytes size text ≡ last unfinished) ⊎ (after_line bytes size (text ++ more) ≡ part_more (after_line bytes size text) more)
after_line_more bytes None text more = inr refl
after_line_more bytes (Some size) text more = by_test (ltb MAX_BODY_LEN (length bytes + size))
  where
    by_trailer : (read_trailer bytes text ≡ unfinished) ⊎ (read_trailer bytes (text ++ more) ≡ and_more (read_trailer bytes text) more)
        → (last (read_trailer bytes text) ≡ last unfinished) ⊎ (last (read_trailer bytes (text ++ more)) ≡ last (and_more (read_trailer bytes text) more))
    by_trailer (inl none) = inl (ap last none)
    by_trailer (inr same) = inr (ap last same)

    by_zero : (t : Bool)
        → (cond t (last (read_trailer bytes text)) (read_data size text) ≡ last unfinished)
        ⊎ (cond t (last (read_trailer bytes (text ++ more))) (read_data size (text ++ more)) ≡ part_more (cond t (last (read_trailer bytes text)) (read_data size text)) more)
    by_zero true = by_trailer (read_trailer_more bytes text more)
    by_zero false = read_data_more size text more

    by_test : (t : Bool)
        → (cond t (last (broken TooLarge text)) (cond (eqb size 0) (last (read_trailer bytes text)) (read_data size text)) ≡ last unfinished)
        ⊎ (cond t (last (broken TooLarge (text ++ more))) (cond (eqb size 0) (last (read_trailer bytes (text ++ more))) (read_data size (text ++ more)))
        ≡ part_more (cond t (last (broken TooLarge text)) (cond (eqb size 0) (last (read_trailer bytes text)) (read_data size text))) more)
    by_test true = inr refl
    by_test false = by_zero (eqb size 0)

-- ---- one part

Begins_more : (bytes text more : List ℕ) (part : Part) → Begins bytes text part
    → (part ≡ last unfinished) ⊎ Begins bytes (text ++ more) (part_more part more)
Begins_more bytes text more part = by_cut (cut_text SizeLine text) refl
  where
    by_line : (n : ℕ) (size : Option ℕ) → ReadsSize (take n text) size → (cut_text SizeLine (text ++ more) ≡ Whole n) × (n ≤ length text)
        → (front : Part) → front ≡ after_line bytes size (drop n text)
        → (after_line bytes size (drop n text) ≡ last unfinished) ⊎ (after_line bytes size (drop n text ++ more) ≡ part_more (after_line bytes size (drop n text)) more)
        → (front ≡ last unfinished) ⊎ Begins bytes (text ++ more) (part_more front more)
    by_line n size reads stays front is (inl none) = inl (is ∙ none)
    by_line n size reads stays front is (inr same) = inr (
        subst (λ c. BeginsAt c bytes (text ++ more) (part_more front more)) (sym stays.0) (
          size,
          subst (λ line. ReadsSize line size) (sym (take-append-le n text more stays.1)) reads,
          ap (λ p. part_more p more) is ∙ sym same ∙ ap (after_line bytes size) (sym (drop-append-le n text more stays.1)),
        )
        )

    by_cut : (c : Cut) → cut_text SizeLine text ≡ c → BeginsAt c bytes text part
        → (part ≡ last unfinished) ⊎ Begins bytes (text ++ more) (part_more part more)
    by_cut (Whole n) is begins =
        by_line n begins.0 begins.1 (whole_stays SizeLine text more n is) part begins.2 (after_line_more bytes begins.0 (drop n text) more)
    by_cut Endless is begins =
        let stays = endless_stays SizeLine text more is in
        inr (
        subst (λ c. BeginsAt c bytes (text ++ more) (part_more part more)) (sym stays.0)
        (ap (λ p. part_more p more) begins ∙ ap (λ t. last (broken BadChunk t)) (sym (drop-append-le MAX_SIZE_LINE_LEN text more stays.1)))
        )
    by_cut Unended is begins = inl begins

-- If a longer text begins with a part, the shorter one begins with the same part, or its part is unfinished.
Begins_front : (bytes text more : List ℕ) (part : Part) → Begins bytes (text ++ more) part
    → (front : Part) × Begins bytes text front × ((front ≡ last unfinished) ⊎ (part ≡ part_more front more))
Begins_front bytes text more part begins = by_cut (cut_text SizeLine text) refl
  where
    by_line : (front after : Part) → (front ≡ last unfinished) ⊎ (after ≡ part_more front more) → part ≡ after
        → (front ≡ last unfinished) ⊎ (part ≡ part_more front more)
    by_line front after (inl none) is = inl none
    by_line front after (inr same) is = inr (is ∙ same)

    at_cut : (c : Cut) → cut_text SizeLine (text ++ more) ≡ c → BeginsAt c bytes (text ++ more) part
    at_cut c is = subst (λ k. BeginsAt k bytes (text ++ more) part) is begins

    by_cut : (c : Cut) → cut_text SizeLine text ≡ c
        → (front : Part) × BeginsAt c bytes text front × ((front ≡ last unfinished) ⊎ (part ≡ part_more front more))
    by_cut (Whole n) is =
        let stays = whole_stays SizeLine text more n is in
        let line = at_cut (Whole n) stays.0 in (
          after_line bytes line.0 (drop n text),
          (line.0, subst (λ t. ReadsSize t line.0) (take-append-le n text more stays.1) line.1, refl),
          by_line (after_line bytes line.0 (drop n text)) (after_line bytes line.0 (drop n text ++ more)) (after_line_more bytes line.0 (drop n text) more)
              (line.2 ∙ ap (after_line bytes line.0) (drop-append-le n text more stays.1)),
        )
    by_cut Endless is =
        let stays = endless_stays SizeLine text more is in (
          last (broken BadChunk (drop MAX_SIZE_LINE_LEN text)),
          refl,
          inr (at_cut Endless stays.0 ∙ ap (λ t. last (broken BadChunk t)) (drop-append-le MAX_SIZE_LINE_LEN text more stays.1)),
        )
    by_cut Unended is = (last unfinished, refl, inl refl)

ReadsSize-unique : (line : List ℕ) (size other : Option ℕ) → ReadsSize line size → ReadsSize line other → size ≡ other
ReadsSize-unique line None None a b = refl
ReadsSize-unique line None (Some n) a b = absurd (a b.0 b.1)
ReadsSize-unique line (Some m) None a b = absurd (b a.0 a.1)
ReadsSize-unique line (Some m) (Some n) a b =
    ap Some (a.2 ∙ ap (λ l. chunk_size l) (chunk_line_unique line a.0 b.0 [] [] a.1 b.1).0 ∙ sym b.2)

Begins-unique : (bytes text : List ℕ) (part other : Part) → Begins bytes text part → Begins bytes text other → part ≡ other
Begins-unique bytes text part other = by_cut (cut_text SizeLine text)
  where
    by_cut : (c : Cut) → BeginsAt c bytes text part → BeginsAt c bytes text other → part ≡ other
    by_cut (Whole n) a b =
        a.2 ∙ ap (λ size. after_line bytes size (drop n text)) (ReadsSize-unique (take n text) a.0 b.0 a.1 b.1) ∙ sym b.2
    by_cut Endless a b = a ∙ sym b
    by_cut Unended a b = a ∙ sym b

-- ---- chunks

ReadsChunks_more : (bytes text more : List ℕ) (chunks : List (List ℕ)) (body : Body) → ReadsChunks bytes text chunks body
    → (body ≡ unfinished) ⊎ ReadsChunks bytes (text ++ more) chunks (and_more body more)
ReadsChunks_more bytes text more [] body reads = by_part (Begins_more bytes text more (last body) reads)
  where
    by_part : (last body ≡ last unfinished) ⊎ Begins bytes (text ++ more) (last (and_more body more))
        → (body ≡ unfinished) ⊎ Begins bytes (text ++ more) (last (and_more body more))
    by_part (inl none) = inl (cc)
    by_part (inr begins) = inr begins
ReadsChunks_more bytes text more (data_bytes ∷ chunks) body reads =
    by_part (Begins_more bytes text more (chunk data_bytes reads.0) reads.1) (ReadsChunks_more (bytes ++ data_bytes) reads.0 more chunks body reads.2)
  where
    by_part : (chunk data_bytes reads.0 ≡ last unfinished) ⊎ Begins bytes (text ++ more) (chunk data_bytes (reads.0 ++ more))
        → (body ≡ unfinished) ⊎ ReadsChunks (bytes ++ data_bytes) (reads.0 ++ more) chunks (and_more body more)
        → (body ≡ unfinished) ⊎ ReadsChunks bytes (text ++ more) (data_bytes ∷ chunks) (and_more body more)
    by_part (inl none) later = absurd (cc)
    by_part (inr begins) (inl none) = inl none
    by_part (inr begins) (inr later) = inr (reads.0 ++ more, begins, later)

abbrev Front : List ℕ → List ℕ → List ℕ → Body → Type 0
Front bytes text more body = (front : Body) × ReadsRest bytes text front × ((front ≡ unfinished) ⊎ (body ≡ and_more front more))

ReadsChunks_front : (bytes text more : List ℕ) (chunks : List (List ℕ)) (body : Body) → ReadsChunks bytes (text ++ more) chunks body
    → Front bytes text more body
ReadsChunks_front bytes text more [] body reads =
    let found = Begins_front bytes text more (last body) reads in by_part found.0 found.1 found.2
  where
    by_part : (part : Part) → Begins bytes text part → (part ≡ last unfinished) ⊎ (last body ≡ part_more part more) → Front bytes text more body
    by_part (chunk data_bytes rest) begins (inl none) = absurd (cc)
    by_part (chunk data_bytes rest) begins (inr same) = absurd (cc)
    by_part (last front) begins (inl none) = (front, ([], begins), inl (cc))
    by_part (last front) begins (inr same) = (front, ([], begins), inr (cc))
ReadsChunks_front bytes text more (data_bytes ∷ chunks) body reads =
    let found = Begins_front bytes text more (chunk data_bytes reads.0) reads.1 in
    by_part (λ bs rest. ReadsChunks_front bs rest more chunks body) found.0 found.1 found.2
  where
    by_part : ((bs rest : List ℕ) → ReadsChunks bs (rest ++ more) chunks body → Front bs rest more body)
        → (part : Part) → Begins bytes text part → (part ≡ last unfinished) ⊎ (chunk data_bytes reads.0 ≡ part_more part more)
        → Front bytes text more body
    by_part later (chunk front_bytes rest) begins (inl none) = absurd (cc)
    by_part later (chunk front_bytes rest) begins (inr same) =
        let same_bytes : data_bytes ≡ front_bytes = cc in
        let same_rest : reads.0 ≡ rest ++ more = cc in
        let found = later (bytes ++ front_bytes) rest
        (subst (λ bs. ReadsChunks (bytes ++ bs) (rest ++ more) chunks body) same_bytes
        (subst (λ t. ReadsChunks (bytes ++ data_bytes) t chunks body) same_rest reads.2)) in
        (found.0, (front_bytes ∷ found.1.0, (rest, begins, found.1.1)), found.2)
    by_part later (last front) begins (inl none) = (unfinished, ([], subst (λ p. Begins bytes text p) none begins), inl refl)
    by_part later (last front) begins (inr same) = absurd (cc)

ReadsChunks-unique : (bytes text : List ℕ) (chunks others : List (List ℕ)) (body other : Body)
    → ReadsChunks bytes text chunks body → ReadsChunks bytes text others other → body ≡ other
ReadsChunks-unique bytes text [] [] body other a b =
    let same = Begins-unique bytes text (last body) (last other) a b in cc
ReadsChunks-unique bytes text [] (d ∷ others) body other a b =
    let same = Begins-unique bytes text (last body) (chunk d b.0) a b.1 in absurd (cc)
ReadsChunks-unique bytes text (d ∷ chunks) [] body other a b =
    let same = Begins-unique bytes text (chunk d a.0) (last other) a.1 b in absurd (cc)
ReadsChunks-unique bytes text (d ∷ chunks) (e ∷ others) body other a b =
    let same = Begins-unique bytes text (chunk d a.0) (chunk e b.0) a.1 b.1 in
    let same_bytes : e ≡ d = cc in
    let same_rest : b.0 ≡ a.0 = cc in
    ReadsChunks-unique (bytes ++ d) a.0 chunks others body other a.2
    (subst (λ bs. ReadsChunks (bytes ++ bs) a.0 others other) same_bytes
    (subst (λ t. ReadsChunks (bytes ++ e) t others other) same_rest b.2))

-- ---- bodies

pub ReadsBody-unique : (framing : Framing) (text : List ℕ) (body other : Body) → ReadsBody framing text body → ReadsBody framing text other
    → body ≡ other
ReadsBody-unique (Length count) text body other a b = a ∙ sym b
ReadsBody-unique Chunked text body other a b = ReadsChunks-unique [] text a.0 b.0 body other a.1 b.1

-- More bytes do not change the reading of a body, unless it is unfinished.
pub ReadsBody_more : (framing : Framing) (text more : List ℕ) (body : Body) → ReadsBody framing text body
    → (body ≡ unfinished) ⊎ ReadsBody framing (text ++ more) (and_more body more)
ReadsBody_more (Length count) text more body reads = by_length (read_length_more [] count text more)
  where
    by_length : (read_length [] count text ≡ unfinished) ⊎ (read_length [] count (text ++ more) ≡ and_more (read_length [] count text) more)
        → (body ≡ unfinished) ⊎ (and_more body more ≡ read_length [] count (text ++ more))
    by_length (inl none) = inl (reads ∙ none)
    by_length (inr same) = inr (ap (λ b. and_more b more) reads ∙ sym same)
ReadsBody_more Chunked text more body reads = by_chunks (ReadsChunks_more [] text more reads.0 body reads.1)
  where
    by_chunks : (body ≡ unfinished) ⊎ ReadsChunks [] (text ++ more) reads.0 (and_more body more)
        → (body ≡ unfinished) ⊎ ReadsBody Chunked (text ++ more) (and_more body more)
    by_chunks (inl none) = inl none
    by_chunks (inr same) = inr (reads.0, same)

-- If a longer text has a reading, the shorter one has the same reading, or is unfinished.
pub ReadsBody_front : (framing : Framing) (text more : List ℕ) (body : Body) → ReadsBody framing (text ++ more) body
    → (front : Body) × ReadsBody framing text front × ((front ≡ unfinished) ⊎ (body ≡ and_more front more))
ReadsBody_front (Length count) text more body reads = (read_length [] count text, refl, by_length (read_length_more [] count text more))
  where
    by_length : (read_length [] count text ≡ unfinished) ⊎ (read_length [] count (text ++ more) ≡ and_more (read_length [] count text) more)
        → (read_length [] count text ≡ unfinished) ⊎ (body ≡ and_more (read_length [] count text) more)
    by_length (inl none) = inl none
    by_length (inr same) = inr (reads ∙ same)
ReadsBody_front Chunked text more body reads =
    let found = ReadsChunks_front [] text more reads.0 body reads.1 in (found.0, found.1, found.2)
