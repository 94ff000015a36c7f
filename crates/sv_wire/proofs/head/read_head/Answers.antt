use Rattle.std.proofs.Common.{◌≤◌, length, take, sym, ap, arith}
use Rattle.std.proofs.lemmas.List.{length-map, length-take}
use Rattle.httparse.specs.Spans.{IsRequestWithin, IsRequestOf, header_bytes, name_and_value}
use Rattle.sv_wire.proofs.HeadLemmas.{are_head_spans, few_lines, shows_head, reads_whole, judged}
use Rattle.sv_wire.proofs.head.read_head.Goals as goal

pub judge-requires : goal.judge-requires
judge-requires c =
    let text = c.args.text.now in
    let headers = c.parse_request.new.headers in
    let line = c.in-Ok-Complete.head in
    let found : IsRequestOf text headers line = rw c.in-Ok-Complete.field-0-is at c.in-Ok-Complete.ensures.complete in
    let within : IsRequestWithin text headers line = rw c.in-Ok-Complete.field-0-is at c.in-Ok-Complete.ensures.within in
    are_head_spans text headers line found.0 c.requires within found.1

pub returns-in-Ok-Complete : goal.returns-in-Ok-Complete
returns-in-Ok-Complete c =
    let text = c.args.text.now in
    let headers = c.parse_request.new.headers in
    let line = c.in-Ok-Complete.head in
    let found : IsRequestOf text headers line = rw c.in-Ok-Complete.field-0-is at c.in-Ok-Complete.ensures.complete in
    let within : IsRequestWithin text headers line = rw c.in-Ok-Complete.field-0-is at c.in-Ok-Complete.ensures.within in
    let reads = reads_whole text headers line found.0 found.1 c.if-head-text.true in
    let few : length found.0.fields ≤ 128 =
    omega (
      arith,
      length-map found.0.fields name_and_value,
      ap length found.1.fields,
      length-map (take line.headers headers) (header_bytes text),
      length-take line.headers headers,
      c.parse_request.auto.headers,
    ) in
    judged text found.0 c.judge.result
    (few_lines text found.0 reads (sym c.if-begins_at_once.ensures) few)
    reads
    (c.judge.ensures found.0 (shows_head text headers line found.0 c.requires within found.1))
