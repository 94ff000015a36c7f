use Rattle.std.proofs.Common.{arith}
use Rattle.std.proofs.lemmas.List.Elements.{All-from_get_or}
use Rattle.percent_encoding.proofs.PercentLemmas.{IsByte}
use Rattle.sv_application.proofs.NameLemmas.{percent_encode-name}
use Rattle.sv_application.proofs.names.encoded_name.Goals as goal

pub returns : goal.returns
returns c =
    let small = All-from_get_or IsByte c.args.name.now 0 (λ i within. omega (arith, c.type_inv.name i)) in
    rw (c.in_ok-append_to.ensures.ok, c.in_ok-text.ensures.bytes, c.percent_encode.ensures.text, c.as_bytes.ensures.value) (percent_encode-name c.args.name.now small)
