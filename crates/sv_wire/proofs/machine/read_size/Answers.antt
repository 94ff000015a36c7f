use Rattle.std.proofs.Common.{◌≡◌, ℕ, List, [], length, drop, sym, ap, subst, arith, length-append}
use Rattle.std.proofs.lemmas.List.{append-nil, length-drop}
use Rattle.httparse.specs.Grammar.{ChunkLine, ReadsChunkLine, print_chunk_line}
use Rattle.httparse.specs.Spans.{IsChunkLineAt}
use Rattle.httparse.proofs.ChunkLemmas.{chunk_line_unique}
use Rattle.sv_wire.proofs.machine.read_size.Goals as goal

-- A line that is longer than the size line at its start is not a size line.
not_whole : (line : List ℕ) (len size : ℕ) (l k : ChunkLine) → IsChunkLineAt line len size l → (len ≡ length line → ⊥)
    → ReadsChunkLine line k [] → ⊥
not_whole line len size l k at part reads =
    let rest = (chunk_line_unique line l k (drop len line) [] at.reads reads).1 in
    part (omega (arith, ap length rest, length-drop len line, at.len_is, ap length at.reads.1, length-append (print_chunk_line l) (drop len line)))

pub returns-in-Ok-Complete-2 : goal.returns-in-Ok-Complete-2
returns-in-Ok-Complete-2 c =
    let line = c.args.line.now in
    let found : (l : ChunkLine) × IsChunkLineAt line c.in-Ok-Complete.len c.in-Ok-Complete.size l =
    rw c.in-Ok-Complete.field-0-is at c.in-Ok-Complete.ensures.complete in
    λ k reads. not_whole line c.in-Ok-Complete.len c.in-Ok-Complete.size found.0 k found.1 c.if-len-line.false reads

pub returns-in-Err : goal.returns-in-Err
returns-in-Err c =
    λ l reads. c.in-Err.ensures.invalid [] l [] (subst (λ text. ReadsChunkLine text l []) (sym (append-nil c.args.line.now)) reads)
