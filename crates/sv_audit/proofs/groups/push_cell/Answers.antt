use Rattle.std.proofs.Common.{[], ◌∷◌, map, ap, sym, ◌∙◌}
use Rattle.std.specs.Borrow.{Bor}
use Rattle.std.specs.List.{list_any}
use Rattle.std.proofs.lemmas.List.{map-append}
use Rattle.sv_policy.proofs.Listed.{any_seen}
use Rattle.sv_audit.proofs.Made.{pushed_last, pushed_not}
use Rattle.sv_audit.specs.Same.{same_cell}
use Rattle.sv_audit.specs.declared.access.Cell.{Cell}
use Rattle.sv_audit.proofs.groups.push_cell.Goals as goal

pub returns-then-is_among : goal.returns-then-is_among
returns-then-is_among c =
    pushed_not (map (λ (other : Bor Cell). other.now) c.args.cells.now.items) (list_any (λ other. same_cell other c.args.cell.now) (map (λ (other : Bor Cell). other.now) c.args.cells.now.items)) c.args.cell.now
    (any_seen (λ other. same_cell other c.args.cell.now) (λ (other : Bor Cell). other.now) c.args.cells.now.items
    ∙ ap (list_any (λ (other : Bor Cell). same_cell other.now c.args.cell.now)) (sym c.as_slice.ensures.value) ∙ sym c.is_among.ensures ∙ c.if-is_among.true)

pub returns : goal.returns
returns c =
    ap (map (λ (other : Bor Cell). other.now)) c.in_ok-push.ensures.items ∙ map-append (λ (other : Bor Cell). other.now) c.args.cells.now.items (c.args.cell ∷ [])
    ∙ pushed_last (map (λ (other : Bor Cell). other.now) c.args.cells.now.items) (list_any (λ other. same_cell other c.args.cell.now) (map (λ (other : Bor Cell). other.now) c.args.cells.now.items)) c.args.cell.now
    (any_seen (λ other. same_cell other c.args.cell.now) (λ (other : Bor Cell). other.now) c.args.cells.now.items
    ∙ ap (list_any (λ (other : Bor Cell). same_cell other.now c.args.cell.now)) (sym c.as_slice.ensures.value) ∙ sym c.is_among.ensures ∙ c.if-is_among.false)
