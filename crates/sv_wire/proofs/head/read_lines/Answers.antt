use Rattle.std.proofs.Common.{◌≡◌, Result, Ok, length, sym, ap, ◌∙◌}
use Rattle.httparse.specs.declared.Error.{Error}
use Rattle.httparse.specs.declared.Status.{Status}
use Rattle.httparse.specs.declared.Status.TheVariants.{Complete, Partial}
use Rattle.httparse.specs.declared.spans.RequestSpans.{RequestSpans}
use Rattle.httparse.specs.Spans.{IsRequestWithin, IsRequestOf}
use Rattle.sv_wire.proofs.HeadLemmas.{are_head_spans, shows_head, reads_whole, no_head, judged, refused}
use Rattle.sv_wire.proofs.head.read_lines.Goals as goal

pub judge-requires : goal.judge-requires
judge-requires c =
    let text = c.args.text.now in
    let headers = c.parse_request.new.headers in
    let line = c.in-Ok-Complete.head in
    let found : IsRequestOf text headers line = rw c.in-Ok-Complete.field-0-is at c.in-Ok-Complete.ensures.complete in
    let within : IsRequestWithin text headers line = rw c.in-Ok-Complete.field-0-is at c.in-Ok-Complete.ensures.within in
    are_head_spans text headers line found.0 c.requires.short within found.1

pub returns-in-Ok-Complete : goal.returns-in-Ok-Complete
returns-in-Ok-Complete c =
    let text = c.args.text.now in
    let headers = c.parse_request.new.headers in
    let line = c.in-Ok-Complete.head in
    let found : IsRequestOf text headers line = rw c.in-Ok-Complete.field-0-is at c.in-Ok-Complete.ensures.complete in
    let within : IsRequestWithin text headers line = rw c.in-Ok-Complete.field-0-is at c.in-Ok-Complete.ensures.within in
    judged text found.0 c.judge.result c.requires.few
    (reads_whole text headers line found.0 found.1 c.if-head-text.true)
    (c.judge.ensures found.0 (shows_head text headers line found.0 c.requires.short within found.1))

pub returns-in-Ok-Complete-2 : goal.returns-in-Ok-Complete-2
returns-in-Ok-Complete-2 c =
    refused c.args.text.now c.requires.few
    (no_head c.args.text.now c.parse_request.new.headers c.parse_request.result (length c.args.spans.now) c.requires.room
    c.parse_request.ensures.found
    (λ line is whole.
    let same : line ≡ c.in-Ok-Complete.head = cc in
    c.if-head-text.false (ap (λ (l : RequestSpans). l.len) (sym same) ∙ whole)))

partial_never : (r : Result (Status RequestSpans) Error) (s : Status RequestSpans) (line : RequestSpans)
    → r ≡ Ok s → s ≡ Partial → r ≡ Ok (Complete line) → ⊥
partial_never r s line is partial complete = cc

pub returns-in-Ok-Partial : goal.returns-in-Ok-Partial
returns-in-Ok-Partial c =
    refused c.args.text.now c.requires.few
    (no_head c.args.text.now c.parse_request.new.headers c.parse_request.result (length c.args.spans.now) c.requires.room
    c.parse_request.ensures.found (λ line is whole. partial_never c.parse_request.result c.in-Ok-Partial.field-0 line c.in-Ok-Partial.is c.in-Ok-Partial.field-0-is is))

pub returns-in-Err : goal.returns-in-Err
returns-in-Err c =
    refused c.args.text.now c.requires.few
    (no_head c.args.text.now c.parse_request.new.headers c.parse_request.result (length c.args.spans.now) c.requires.room
    c.parse_request.ensures.found (λ line is whole. cc))
