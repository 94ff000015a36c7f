use Rattle.std.proofs.Common.{arith}
use Rattle.std.proofs.lemmas.List.Elements.{All-from_get_or}
use Rattle.percent_encoding.proofs.PercentLemmas.{IsByte}
use Rattle.sv_uri.proofs.LocationLemmas.{percent_encode-location}
use Rattle.sv_uri.proofs.location_field.location.Goals as goal

pub returns : goal.returns
returns c =
    let small = All-from_get_or IsByte c.args.path.now 0 (λ i within. omega (arith, c.type_inv.path i)) in
    rw (c.in_ok-append_to.ensures.ok, c.in_ok-text.ensures.bytes, c.percent_encode.ensures.text, c.as_bytes.ensures.value) (percent_encode-location c.args.path.now small)
