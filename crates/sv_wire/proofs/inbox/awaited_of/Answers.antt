use Rattle.std.proofs.Common.{◌≡◌, ◌==◌, false, length, subst, sym, ◌∙◌}
use Rattle.sv_text.specs.declared.front.Cut.TheVariants.{Unended}
use Rattle.sv_wire.specs.Pending.{IsSound}
use Rattle.sv_wire.specs.Reads.{cut_head}
use Rattle.sv_wire.specs.State.{IsSoundState}
use Rattle.sv_wire.proofs.PendingLemmas.{body_awaited, head_awaited}
use Rattle.sv_wire.proofs.inbox.awaited_of.Goals as goal

pub returns-in-Body : goal.returns-in-Body
returns-in-Body c =
    let pending = c.in-Body.field-0 in
    let sound : IsSound pending = subst IsSoundState c.in-Body.is c.requires in
    rw c.in-Body.is (sym (body_awaited pending.is_asked pending.head.bytes pending.reader.came pending.owed sound.1))

pub returns-else-is_empty : goal.returns-else-is_empty
returns-else-is_empty c =
    let held = c.in-Head.held in
    let unended : cut_head held.items ≡ Unended = subst IsSoundState c.in-Head.is c.requires in
    let some : (length held.items == 0) ≡ false = rw (← held.ok.0) (sym c.is_empty.ensures ∙ c.if-is_empty.false) in
    rw c.in-Head.is (sym (head_awaited held.items unended some))
