use Rattle.std.proofs.Common.{rules, sym}
use Rattle.sv_streams.proofs.LineLemmas.{is_place, no_place}
use Rattle.sv_streams.proofs.line_reader.move_front.Goals as goal

pub returns-in_ok-extend_from_slice-in-Some : goal.returns-in_ok-extend_from_slice-in-Some
returns-in_ok-extend_from_slice-in-Some c =
    let place = is_place c.args.bytes.now c.in-Some.place (sym c.in-Some.ensures) in
    (search rules, place.none, place.parts, place.inside)

pub returns-in_ok-extend_from_slice-in-None : goal.returns-in_ok-extend_from_slice-in-None
returns-in_ok-extend_from_slice-in-None c = (search rules, no_place c.args.bytes.now c.in-None.ensures)
