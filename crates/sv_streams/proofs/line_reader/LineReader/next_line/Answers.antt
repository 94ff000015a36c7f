use Rattle.std.proofs.Common.{List, ℕ, Ok, Option, subst, sym, ◌∙◌}
use Rattle.sv_streams.specs.LineSteps.{TakesLine}
use Rattle.sv_streams.proofs.ProgressLemmas.{end_met, falls, line_taken, no_progress, none_read, none_taken, piece_read}
use Rattle.sv_streams.proofs.line_reader.LineReader.next_line.Goals as goal

pub loop-line-init : goal.loop-line-init
loop-line-init g c = no_progress g.S.Stream.makes c.args.source.now c.args.self.now

pub loop-line-preserved : goal.loop-line-preserved
loop-line-preserved g c =
    let P : Option (List ℕ) → Type 0 = λ taken. TakesLine {E = Unit {0}} c.loop-line.self (Ok taken) c.take_line.new.self in
    piece_read g.S.Stream.makes c.args.source.now c.loop-line.source c.read_on.new.source c.args.self.now c.loop-line.self c.take_line.new.self c.read_on.new.self
    c.loop-line.invariant (subst P c.in-Ok-None.field-0-is c.in-Ok-None.ensures) (sym c.has_ended.ensures ∙ c.if-has_ended.false) c.in-Ok.ensures

pub loop-line-smaller : goal.loop-line-smaller
loop-line-smaller g c =
    let P : Option (List ℕ) → Type 0 = λ taken. TakesLine {E = Unit {0}} c.loop-line.self (Ok taken) c.take_line.new.self in
    falls g.S.Stream.makes c.loop-line.source c.read_on.new.source c.loop-line.self c.take_line.new.self c.read_on.new.self (subst P c.in-Ok-None.field-0-is c.in-Ok-None.ensures) c.in-Ok.ensures

pub returns-in-Ok-Some : goal.returns-in-Ok-Some
returns-in-Ok-Some g c =
    let P : Option (List ℕ) → Type 0 = λ taken. TakesLine {E = Unit {0}} c.loop-line.self (Ok taken) c.take_line.new.self in
    line_taken g.S.Stream.makes c.args.source.now c.loop-line.source c.args.self.now c.loop-line.self c.take_line.new.self c.in-Ok-Some.line c.loop-line.invariant
    (subst P c.in-Ok-Some.field-0-is c.in-Ok-Some.ensures)

pub returns-in-Err : goal.returns-in-Err
returns-in-Err g c =
    none_taken g.S.Stream.makes c.args.source.now c.loop-line.source c.args.self.now c.loop-line.self c.take_line.new.self c.loop-line.invariant c.in-Err.ensures

pub returns-then-has_ended : goal.returns-then-has_ended
returns-then-has_ended g c =
    let P : Option (List ℕ) → Type 0 = λ taken. TakesLine {E = Unit {0}} c.loop-line.self (Ok taken) c.take_line.new.self in
    end_met g.S.Stream.makes c.args.source.now c.loop-line.source c.args.self.now c.loop-line.self c.take_line.new.self c.last_line.new.self c.last_line.result
    c.loop-line.invariant (subst P c.in-Ok-None.field-0-is c.in-Ok-None.ensures) (sym c.has_ended.ensures ∙ c.if-has_ended.true) c.last_line.ensures

pub returns-in-Err-read_on : goal.returns-in-Err-read_on
returns-in-Err-read_on g c =
    let P : Option (List ℕ) → Type 0 = λ taken. TakesLine {E = Unit {0}} c.loop-line.self (Ok taken) c.take_line.new.self in
    none_read g.S.Stream.makes c.args.source.now c.loop-line.source c.read_on.new.source c.args.self.now c.loop-line.self c.take_line.new.self c.read_on.new.self c.in-Err-read_on.fault
    c.loop-line.invariant (subst P c.in-Ok-None.field-0-is c.in-Ok-None.ensures) (sym c.has_ended.ensures ∙ c.if-has_ended.false) c.in-Err-read_on.ensures
