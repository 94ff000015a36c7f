-- Every text has a reading as a body, up to double negation.
use Rattle.std.proofs.Common.{ℕ, zero, suc, ◌<◌, Bool, true, false, List, [], ◌∷◌, ◌++◌, length, take, drop, Option, None, Some, refl, sym, subst, cond, ltb, arith}
use Rattle.std.proofs.lemmas.List.{length-drop}
use Rattle.httparse.specs.Grammar.{chunk_size}
use Rattle.sv_text.specs.declared.front.Cut.{Cut}
use Rattle.sv_text.specs.declared.front.Cut.TheVariants.{Whole, Endless, Unended}
use Rattle.sv_wire.specs.declared.body_reader.Framing.{Framing}
use Rattle.sv_wire.specs.declared.body_reader.Framing.TheVariants.{Length, Chunked}
use Rattle.sv_wire.specs.declared.text_kind.TextKind.TheVariants.{SizeLine}
use Rattle.sv_wire.specs.Body.{read_length, ReadsBody}
use Rattle.sv_wire.specs.Chunks.{Body, unfinished, complete, Part, chunk, last, cut_text, ReadsSize, after_line, BeginsAt, Begins, ReadsChunks}
use Rattle.sv_wire.proofs.BodyLimitLemmas.{LeavesRest, leaves_longer, Begins_keeps}

-- It is impossible that there is none.
abbrev pub NotNone : Type 0 → Type 0
NotNone X = (X → ⊥) → ⊥

sizes : (line : List ℕ) → NotNone ((size : Option ℕ) × ReadsSize line size)
sizes line none = none (None, λ l reads. none (Some (chunk_size l), (l, reads, refl)))

parts : (bytes text : List ℕ) → NotNone ((part : Part) × Begins bytes text part)
parts bytes text = by_cut (cut_text SizeLine text)
  where
    by_cut : (c : Cut) → NotNone ((part : Part) × BeginsAt c bytes text part)
    by_cut (Whole n) none = sizes (take n text) (λ found. none (after_line bytes found.0 (drop n text), (found.0, found.1, refl)))
    by_cut Endless none = none (_, refl)
    by_cut Unended none = none (_, refl)

abbrev SomeChunks : List ℕ → List ℕ → Type 0
SomeChunks bytes text = (body : Body) × ((chunks : List (List ℕ)) × ReadsChunks bytes text chunks body)

chunks_by : (bytes text : List ℕ) (part : Part) → Begins bytes text part
    → ((more rest : List ℕ) → length rest < length text → NotNone (SomeChunks (bytes ++ more) rest)) → NotNone (SomeChunks bytes text)
chunks_by bytes text (last body) begins later none = none (body, ([], begins))
chunks_by bytes text (chunk more rest) begins later none =
    later more rest (Begins_keeps bytes text (chunk more rest) begins).1
    (λ found. none (found.0, (more ∷ found.1.0, (rest, begins, found.1.1))))

some_chunks : (bound : ℕ) (bytes text : List ℕ) → length text < bound → NotNone (SomeChunks bytes text)
some_chunks zero bytes text short none = absurd (omega (arith, short))
some_chunks (suc bound) bytes text short none =
    parts bytes text (λ found. chunks_by bytes text found.0 found.1
    (λ more rest shorter. some_chunks bound (bytes ++ more) rest (omega (arith, short, shorter))) none)

pub some_body : (framing : Framing) (text : List ℕ) → NotNone ((body : Body) × ReadsBody framing text body)
some_body (Length count) text none = none (read_length [] count text, refl)
some_body Chunked text none = some_chunks (suc (length text)) [] text (omega arith) none

-- ---- the rest after a body

ReadsChunks_leaves : (bytes text : List ℕ) (chunks : List (List ℕ)) (body : Body) → ReadsChunks bytes text chunks body → LeavesRest body text
ReadsChunks_leaves bytes text [] body reads = (Begins_keeps bytes text (last body) reads).1
ReadsChunks_leaves bytes text (more ∷ chunks) body reads =
    leaves_longer body reads.0 text (omega (arith, (Begins_keeps bytes text (chunk more reads.0) reads.1).1))
    (ReadsChunks_leaves (bytes ++ more) reads.0 chunks body reads.2)

pub ReadsBody_leaves : (framing : Framing) (text : List ℕ) (body : Body) → ReadsBody framing text body → LeavesRest body text
ReadsBody_leaves (Length count) text body reads = subst (λ b. LeavesRest b text) (sym reads) (by_test (ltb (length text) count))
  where
    by_test : (t : Bool) → LeavesRest (cond t unfinished (complete (take count text) (drop count text))) text
    by_test true = tt
    by_test false = omega (arith, length-drop count text)
ReadsBody_leaves Chunked text body reads = ReadsChunks_leaves [] text reads.0 body reads.1
