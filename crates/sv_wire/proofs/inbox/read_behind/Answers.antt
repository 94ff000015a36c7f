use Rattle.std.proofs.Common.{subst, ap, arith}
use Rattle.std.proofs.lemmas.List.{take_rest}
use Rattle.sv_wire.specs.declared.body_reader.Progress.TheVariants.{Awaits, Ended}
use Rattle.sv_wire.specs.declared.pending_message.Pending.{Pending}
use Rattle.sv_wire.specs.Pending.{ReadsPiece}
use Rattle.sv_wire.specs.Reads.{item_of}
use Rattle.sv_wire.specs.State.{ReadsAfter}
use Rattle.sv_wire.proofs.PendingLemmas.{body_ended, body_awaits, if_ok_map}
use Rattle.sv_wire.proofs.ReadingLemmas.{body_goes_on, body_ends}
use Rattle.sv_wire.proofs.inbox.read_behind.Goals as goal

pub returns-in-Awaits : goal.returns-in-Awaits
returns-in-Awaits c =
    let pending = c.args.pending in
    let after = c.read.new.self in
    let piece = c.args.piece.now in
    let reads : ReadsPiece pending piece Awaits after = subst (λ p. ReadsPiece pending piece p after) c.in-Awaits.is c.in_ok-read.ensures in
    rw c.requires.empty (body_goes_on pending piece after (body_awaits pending piece 0 (omega arith) c.requires.sound after reads))

pub returns-in-Ended : goal.returns-in-Ended
returns-in-Ended c =
    let pending = c.args.pending in
    let after = c.read.new.self in
    let piece = c.args.piece.now in
    let reads : ReadsPiece pending piece (Ended c.in-Ended.end c.in-Ended.len) after =
    subst (λ p. ReadsPiece pending piece p after) c.in-Ended.is c.in_ok-read.ensures in
    let item = item_of after.owed c.in-Ended.end in
    let next = body_ended pending piece 0 (omega arith) c.requires.sound c.in-Ended.end c.in-Ended.len item
    (ap (λ (p : Pending). item_of p.owed c.in-Ended.end) reads.1) after.reader reads.0 in
    if_ok_map _ _ c.read_after.result
    (λ state behind. body_ends pending piece item c.in-Ended.len c.read_after.new.items.items state next
    (subst (λ t. ReadsAfter item t c.read_after.new.items.items state) (take_rest piece c.in-Ended.len) behind))
    c.read_after.ensures
