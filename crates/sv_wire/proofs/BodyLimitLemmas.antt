-- The number of bytes in a body, and in the rest after it.
use Rattle.std.proofs.Common.{◌≡◌, ℕ, ◌+◌, ◌≤◌, ◌<◌, Bool, true, false, List, [], ◌∷◌, ◌++◌, length, take, drop, Option, None, Some, refl, sym, ap, subst, cond, ltb, eqb, arith, length-append}
use Rattle.std.specs.Str.{bytes_eq}
use Rattle.std.proofs.lemmas.Bool.{ltb-false}
use Rattle.std.proofs.lemmas.List.{length-take, length-drop}
use Rattle.httparse.specs.Ascii.{crlf_bytes}
use Rattle.sv_text.specs.declared.front.Cut.{Cut}
use Rattle.sv_text.specs.declared.front.Cut.TheVariants.{Whole, Endless, Unended}
use Rattle.sv_wire.specs.declared.body_fault.BodyFault.TheVariants.{BadChunk, TooLarge}
use Rattle.sv_wire.specs.declared.body_reader.Framing.{Framing}
use Rattle.sv_wire.specs.declared.body_reader.Framing.TheVariants.{Length, Chunked}
use Rattle.sv_wire.specs.declared.limits.TheConstants.{MAX_BODY_LEN}
use Rattle.sv_wire.specs.declared.text_kind.TextKind.TheVariants.{SizeLine, Trailer}
use Rattle.sv_wire.specs.Body.{read_length, ReadsBody, FitsLimit}
use Rattle.sv_wire.specs.Chunks.{Body, unfinished, complete, broken, Part, chunk, last, cut_text, trailer_at, read_trailer, read_data, after_line, BeginsAt, Begins, ReadsChunks}
use Rattle.sv_wire.proofs.MachineLemmas.{data_end}

-- The rest after a body is no longer than the text.
abbrev pub LeavesRest : Body → List ℕ → Type 0
LeavesRest unfinished text = Unit {0}
LeavesRest (complete bytes rest) text = length rest ≤ length text
LeavesRest (broken fault rest) text = length rest ≤ length text

-- If the body is complete, it has exactly these bytes.
abbrev IsOf : List ℕ → Body → Type 0
IsOf bytes unfinished = Unit {0}
IsOf bytes (complete whole rest) = whole ≡ bytes
IsOf bytes (broken fault rest) = Unit {0}

-- A chunk takes bytes and keeps the body within its limit. The last part adds no bytes to the body.
abbrev Keeps : List ℕ → List ℕ → Part → Type 0
Keeps bytes text (chunk more rest) = (length bytes + length more ≤ MAX_BODY_LEN) × (length rest < length text)
Keeps bytes text (last body) = IsOf bytes body × LeavesRest body text

trailer_keeps : (c : Cut) (bytes text : List ℕ) → Keeps bytes text (last (trailer_at c bytes text))
trailer_keeps (Whole n) bytes text = (refl, omega (arith, length-drop n text))
trailer_keeps Endless bytes text = (tt, omega (arith, length-drop 8192 text))
trailer_keeps Unended bytes text = (tt, tt)

data_keeps : (bytes text : List ℕ) (size : ℕ) → length bytes + size ≤ MAX_BODY_LEN → Keeps bytes text (read_data size text)
data_keeps bytes text size fits = by_test (ltb (length text) (size + 2)) refl
  where
    by_end : (t : Bool) → size + 2 ≤ length text
        → Keeps bytes text (cond t (chunk (take size text) (drop (size + 2) text)) (last (broken BadChunk (drop (size + 2) text))))
    by_end true long = (omega (arith, fits, length-take size text), omega (arith, long, length-drop (size + 2) text))
    by_end false long = (tt, omega (arith, length-drop (size + 2) text))

    by_test : (t : Bool) → ltb (length text) (size + 2) ≡ t → Keeps bytes text (cond t (last unfinished) (data_end size text))
    by_test true short = (tt, tt)
    by_test false long = by_end (bytes_eq (take 2 (drop size text)) crlf_bytes) (ltb-false (length text) (size + 2) long)

line_keeps : (bytes text : List ℕ) (size : Option ℕ) → Keeps bytes text (after_line bytes size text)
line_keeps bytes text None = (tt, omega arith)
line_keeps bytes text (Some size) = by_test (ltb MAX_BODY_LEN (length bytes + size)) refl
  where
    by_zero : (t : Bool) → length bytes + size ≤ MAX_BODY_LEN → Keeps bytes text (cond t (last (read_trailer bytes text)) (read_data size text))
    by_zero true fits = trailer_keeps (cut_text Trailer text) bytes text
    by_zero false fits = data_keeps bytes text size fits

    by_test : (t : Bool) → ltb MAX_BODY_LEN (length bytes + size) ≡ t
        → Keeps bytes text (cond t (last (broken TooLarge text)) (cond (eqb size 0) (last (read_trailer bytes text)) (read_data size text)))
    by_test true over = (tt, omega arith)
    by_test false within = by_zero (eqb size 0) (ltb-false MAX_BODY_LEN (length bytes + size) within)

-- `Keeps` carries over to a longer text.
keeps_longer : (bytes front text : List ℕ) (part : Part) → length front ≤ length text → Keeps bytes front part → Keeps bytes text part
keeps_longer bytes front text (chunk more rest) longer keeps = (keeps.0, omega (arith, longer, keeps.1))
keeps_longer bytes front text (last unfinished) longer keeps = keeps
keeps_longer bytes front text (last (complete whole rest)) longer keeps = (keeps.0, omega (arith, longer, keeps.1))
keeps_longer bytes front text (last (broken fault rest)) longer keeps = (keeps.0, omega (arith, longer, keeps.1))

pub Begins_keeps : (bytes text : List ℕ) (part : Part) → Begins bytes text part → Keeps bytes text part
Begins_keeps bytes text part = by_cut (cut_text SizeLine text)
  where
    by_cut : (c : Cut) → BeginsAt c bytes text part → Keeps bytes text part
    by_cut (Whole n) begins =
        subst (Keeps bytes text) (sym begins.2)
        (keeps_longer bytes (drop n text) text (after_line bytes begins.0 (drop n text)) (omega (arith, length-drop n text)) (line_keeps bytes (drop n text) begins.0))
    by_cut Endless begins = subst (Keeps bytes text) (sym begins) (tt, omega (arith, length-drop 256 text))
    by_cut Unended begins = subst (Keeps bytes text) (sym begins) (tt, tt)

-- ---- complete bodies

-- A complete body is within the limit.
abbrev pub IsWithin : Body → Type 0
IsWithin unfinished = Unit {0}
IsWithin (complete bytes rest) = length bytes ≤ MAX_BODY_LEN
IsWithin (broken fault rest) = Unit {0}

of_within : (bytes : List ℕ) (body : Body) → length bytes ≤ MAX_BODY_LEN → IsOf bytes body → IsWithin body
of_within bytes unfinished fits of = tt
of_within bytes (complete whole rest) fits of = omega (arith, fits, ap length of)
of_within bytes (broken fault rest) fits of = tt

pub leaves_longer : (body : Body) (front text : List ℕ) → length front ≤ length text → LeavesRest body front → LeavesRest body text
leaves_longer unfinished front text longer leaves = tt
leaves_longer (complete bytes rest) front text longer leaves = omega (arith, longer, leaves)
leaves_longer (broken fault rest) front text longer leaves = omega (arith, longer, leaves)

ReadsChunks_keeps : (bytes text : List ℕ) (chunks : List (List ℕ)) (body : Body) → length bytes ≤ MAX_BODY_LEN → ReadsChunks bytes text chunks body
    → IsWithin body × LeavesRest body text
ReadsChunks_keeps bytes text [] body fits reads =
    let keeps = Begins_keeps bytes text (last body) reads in (of_within bytes body fits keeps.0, keeps.1)
ReadsChunks_keeps bytes text (more ∷ chunks) body fits reads =
    let keeps = Begins_keeps bytes text (chunk more reads.0) reads.1 in
    let later = ReadsChunks_keeps (bytes ++ more) reads.0 chunks body (omega (arith, keeps.0, length-append bytes more)) reads.2 in
    (later.0, leaves_longer body reads.0 text (omega (arith, keeps.1)) later.1)

length_keeps : (count : ℕ) (text : List ℕ) → count ≤ MAX_BODY_LEN
    → IsWithin (read_length [] count text) × LeavesRest (read_length [] count text) text
length_keeps count text fits = by_test (ltb (length text) count)
  where
    by_test : (t : Bool) → IsWithin (cond t unfinished (complete (take count text) (drop count text)))
        × LeavesRest (cond t unfinished (complete (take count text) (drop count text))) text
    by_test true = (tt, tt)
    by_test false = (omega (arith, fits, length-take count text), omega (arith, length-drop count text))

-- A body is within the limit if its framing is.
pub ReadsBody_keeps : (framing : Framing) (text : List ℕ) (body : Body) → FitsLimit framing → ReadsBody framing text body → IsWithin body × LeavesRest body text
ReadsBody_keeps (Length count) text body fits reads =
    subst (λ b. IsWithin b × LeavesRest b text) (sym reads) (length_keeps count text fits)
ReadsBody_keeps Chunked text body fits reads = ReadsChunks_keeps [] text reads.0 body (omega arith) reads.1
