use Rattle.std.proofs.Common.{ℕ, ◌+◌, List, Err, Ok, Option, refl, subst, sym}
use Rattle.sv_streams.specs.Lines.{LinesState, NextLine}
use Rattle.sv_streams.specs.declared.lines_fault.LinesFault.{LinesFault}
use Rattle.sv_script.proofs.ProgressLemmas.{Progress, end_met, line_failed, line_less, line_played, no_line, no_progress, read_failed, too_many}
use Rattle.sv_script.proofs.script_replay.replay.Goals as goal

pub loop-line-init : goal.loop-line-init
loop-line-init g c =
    let P : LinesState → Type 0 = λ state.
    Progress g.R.EventHandler.steps g.I.Stream.makes g.O.Stream.makes c.args.handler.now c.args.script.now c.args.output.now
    state (record { moment = 0; lines = 0; events = 0 }) c.args.handler.now c.args.script.now c.args.output.now in
    subst P (sym c.new-lines.ensures) (no_progress g.R.EventHandler.steps g.I.Stream.makes g.O.Stream.makes c.args.handler.now c.args.script.now c.args.output.now)

pub returns-in-Err : goal.returns-in-Err
returns-in-Err g c =
    let P : Option (List ℕ) → Type 0 = λ found. NextLine g.I.Stream.makes c.loop-line.script c.loop-line.lines (Ok found) c.next_line.new.source c.next_line.new.self in
    line_failed g.R.EventHandler.steps g.I.Stream.makes g.O.Stream.makes c.args.handler.now c.args.script.now c.args.output.now
    c.loop-line.lines c.next_line.new.self c.loop-line.course c.loop-line.handler c.loop-line.script c.next_line.new.source c.loop-line.output c.loop-line.invariant
    c.in-Err.fault c.play.new.course c.play.new.handler c.play.new.output c.as_slice.result.now
    (rw c.as_slice.ensures (subst P c.in-Ok-Some.field-0-is c.in-Ok-Some.ensures)) c.in-Err.ensures

pub loop-line-smaller : goal.loop-line-smaller
loop-line-smaller g c =
    let P : Option (List ℕ) → Type 0 = λ found. NextLine g.I.Stream.makes c.loop-line.script c.loop-line.lines (Ok found) c.next_line.new.source c.next_line.new.self in
    line_less g.R.EventHandler.steps g.I.Stream.makes g.O.Stream.makes c.args.handler.now c.args.script.now c.args.output.now
    c.loop-line.lines c.next_line.new.self c.loop-line.course c.loop-line.handler c.loop-line.script c.next_line.new.source c.loop-line.output c.loop-line.invariant
    c.in-Ok-Some.line (subst P c.in-Ok-Some.field-0-is c.in-Ok-Some.ensures)

pub loop-line-preserved : goal.loop-line-preserved
loop-line-preserved g c =
    let P : Option (List ℕ) → Type 0 = λ found. NextLine g.I.Stream.makes c.loop-line.script c.loop-line.lines (Ok found) c.next_line.new.source c.next_line.new.self in
    line_played g.R.EventHandler.steps g.I.Stream.makes g.O.Stream.makes c.args.handler.now c.args.script.now c.args.output.now
    c.loop-line.lines c.next_line.new.self c.loop-line.course c.loop-line.handler c.loop-line.script c.next_line.new.source c.loop-line.output c.loop-line.invariant
    c.play.new.course c.play.new.handler c.play.new.output c.as_slice.result.now
    (rw c.as_slice.ensures (subst P c.in-Ok-Some.field-0-is c.in-Ok-Some.ensures)) c.in-Ok.ensures

pub returns-in-Ok-None : goal.returns-in-Ok-None
returns-in-Ok-None g c =
    let P : Option (List ℕ) → Type 0 = λ found. NextLine g.I.Stream.makes c.loop-line.script c.loop-line.lines (Ok found) c.next_line.new.source c.next_line.new.self in
    end_met g.R.EventHandler.steps g.I.Stream.makes g.O.Stream.makes c.args.handler.now c.args.script.now c.args.output.now
    c.loop-line.lines c.next_line.new.self c.loop-line.course c.loop-line.handler c.loop-line.script c.next_line.new.source c.loop-line.output c.loop-line.invariant
    (subst P c.in-Ok-None.field-0-is c.in-Ok-None.ensures)

pub returns-in-Err-ReadFailed : goal.returns-in-Err-ReadFailed
returns-in-Err-ReadFailed g c =
    let P : LinesFault → Type 0 = λ fault. NextLine g.I.Stream.makes c.loop-line.script c.loop-line.lines (Err fault) c.next_line.new.source c.next_line.new.self in
    read_failed g.R.EventHandler.steps g.I.Stream.makes g.O.Stream.makes c.args.handler.now c.args.script.now c.args.output.now
    c.loop-line.lines c.next_line.new.self c.loop-line.course c.loop-line.handler c.loop-line.script c.next_line.new.source c.loop-line.output c.loop-line.invariant
    (c.loop-line.course.lines + 1) refl (subst P c.in-Err-ReadFailed.field-0-is c.in-Err-ReadFailed.ensures)

pub returns-in-Err-TooManyReads : goal.returns-in-Err-TooManyReads
returns-in-Err-TooManyReads g c =
    let P : LinesFault → Type 0 = λ fault. NextLine g.I.Stream.makes c.loop-line.script c.loop-line.lines (Err fault) c.next_line.new.source c.next_line.new.self in
    too_many g.R.EventHandler.steps g.I.Stream.makes g.O.Stream.makes c.args.handler.now c.args.script.now c.args.output.now
    c.loop-line.lines c.next_line.new.self c.loop-line.course c.loop-line.handler c.loop-line.script c.next_line.new.source c.loop-line.output c.loop-line.invariant
    (c.loop-line.course.lines + 1) refl (subst P c.in-Err-TooManyReads.field-0-is c.in-Err-TooManyReads.ensures)

pub returns-in-Err-NoMemory : goal.returns-in-Err-NoMemory
returns-in-Err-NoMemory g c =
    let P : LinesFault → Type 0 = λ fault. NextLine g.I.Stream.makes c.loop-line.script c.loop-line.lines (Err fault) c.next_line.new.source c.next_line.new.self in
    no_line g.R.EventHandler.steps g.I.Stream.makes g.O.Stream.makes c.args.handler.now c.args.script.now c.args.output.now
    c.loop-line.lines c.next_line.new.self c.loop-line.course c.loop-line.handler c.loop-line.script c.next_line.new.source c.loop-line.output c.loop-line.invariant
    (subst P c.in-Err-NoMemory.field-0-is c.in-Err-NoMemory.ensures)
