use Rattle.std.proofs.Common.{drop, subst, ap, ◌∙◌}
use Rattle.std.proofs.lemmas.List.{take_rest}
use Rattle.sv_wire.specs.declared.body_reader.Progress.TheVariants.{Awaits, Ended}
use Rattle.sv_wire.specs.declared.pending_message.Pending.{Pending}
use Rattle.sv_wire.specs.Pending.{ReadsPiece}
use Rattle.sv_wire.specs.Reads.{item_of}
use Rattle.sv_wire.proofs.PendingLemmas.{body_ended, body_awaits}
use Rattle.sv_wire.proofs.read_items.next_in_body.Goals as goal

pub returns-in-Awaits : goal.returns-in-Awaits
returns-in-Awaits c =
    let pending = c.args.pending in
    let after = c.read.new.self in
    let stream = c.args.stream.now in
    let reads : ReadsPiece pending (drop c.args.at stream) Awaits after =
    subst (λ p. ReadsPiece pending (drop c.args.at stream) p after) c.in-Awaits.is
    (subst (λ t. ReadsPiece pending t c.in_ok-read.field-0 after) (take_rest stream c.args.at) c.in_ok-read.ensures) in
    body_awaits pending stream c.args.at c.requires.within c.requires.sound after reads

pub returns-in-Ended : goal.returns-in-Ended
returns-in-Ended c =
    let pending = c.args.pending in
    let after = c.read.new.self in
    let stream = c.args.stream.now in
    let reads : ReadsPiece pending (drop c.args.at stream) (Ended c.in-Ended.end c.in-Ended.len) after =
    subst (λ p. ReadsPiece pending (drop c.args.at stream) p after) c.in-Ended.is
    (subst (λ t. ReadsPiece pending t c.in_ok-read.field-0 after) (take_rest stream c.args.at) c.in_ok-read.ensures) in
    body_ended pending stream c.args.at c.requires.within c.requires.sound c.in-Ended.end c.in-Ended.len c.into_item.result
    (c.into_item.ensures ∙ ap (λ (p : Pending). item_of p.owed c.in-Ended.end) reads.1) after.reader reads.0
