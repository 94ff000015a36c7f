use Rattle.std.proofs.Common.{append_assoc}
use Rattle.sv_wire.proofs.response_text.push_cookie_line.Goals as goal

pub returns : goal.returns
returns c =
    let first = c.in_ok-extend_from_slice.ensures.items in
    let second = c.in_ok-push_cookie_text.ensures in
    let third = c.in_ok-extend_from_slice-2.ensures.items in
    rw (third, second, first) (simp append_assoc)
