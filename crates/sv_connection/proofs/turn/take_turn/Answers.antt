use Rattle.std.proofs.Common.{◌≡◌, ◌<◌, ◌≤◌, ℕ, List, length, take, arith}
use Rattle.std.proofs.lemmas.List.{length-take-le}
use Rattle.sv_connection.proofs.TurnLemmas.{piece_refused, piece_taken}
use Rattle.sv_connection.proofs.turn.take_turn.Goals as goal

some_taken : (count : ℕ) (buffer : List ℕ) → count ≤ length buffer → (count ≡ 0 → ⊥) → 0 < length (take count buffer)
some_taken count buffer within some = let taken : length (take count buffer) ≡ count = length-take-le count buffer within in omega arith

pub returns-in-Ok-step : goal.returns-in-Ok-step
returns-in-Ok-step g c =
    piece_taken g.R.EventHandler.steps c.args.connection g.S.Stream.makes g.C.Clock.tells c.args.handler.now c.args.stream.now c.args.clock.now
    (take c.in-Ok.count c.read.new.buffer) c.now-moment.result c.step.new.self c.read.new.self c.now-moment.new.self
    (some_taken c.in-Ok.count c.read.new.buffer c.in-Ok.ensures.within c.if-count-eq0.false) c.in-Ok.ensures.made c.now-moment.ensures
    c.in-Ok-step.reaction c.send.new.handler c.send.new.stream c.send.result (rw (← c.split_at.ensures.front) c.in-Ok-step.ensures) c.send.ensures

pub returns-in-Err-step : goal.returns-in-Err-step
returns-in-Err-step g c =
    piece_refused g.R.EventHandler.steps c.args.connection g.S.Stream.makes g.C.Clock.tells c.args.handler.now c.args.stream.now c.args.clock.now
    (take c.in-Ok.count c.read.new.buffer) c.now-moment.result c.step.new.self c.read.new.self c.now-moment.new.self
    (some_taken c.in-Ok.count c.read.new.buffer c.in-Ok.ensures.within c.if-count-eq0.false) c.in-Ok.ensures.made c.now-moment.ensures
    c.in-Err-step.fault (rw (← c.split_at.ensures.front) c.in-Err-step.ensures)
