use Rattle.std.proofs.Common.{arith}
use Rattle.std.proofs.lemmas.List.Elements.{All-from_get_or}
use Rattle.percent_encoding.proofs.PercentLemmas.{IsByte}
use Rattle.sv.proofs.SessionNames.{percent_encode-escaped}
use Rattle.sv.proofs.session_name.escaped.Goals as goal

pub returns : goal.returns
returns c =
    let small = All-from_get_or IsByte c.args.bytes.now 0 (λ i within. omega (arith, c.type_inv.bytes i)) in
    rw (c.in_ok-append_to.ensures.ok, c.in_ok-name.ensures.bytes, c.percent_encode.ensures.text) (percent_encode-escaped c.args.bytes.now small)
