use Rattle.std.proofs.Common.{ap, take, drop, ◌∙◌}
use Rattle.std.proofs.lemmas.List.{take_rest}
use Rattle.sv_uri.proofs.PlainLemmas.{parts_answer}
use Rattle.sv_uri.proofs.plain.plain_parts.Goals as goal

pub returns : goal.returns
returns c =
    let target = c.args.target.now in
    let end = c.plain_len-end.ensures.value in
    parts_answer target _ c.in-Some._relative.now _ _ c.in-Some.ensures (c.in-Ok.ensures.cases.0 ∙ ap (λ n. take n target) end) (take_rest target _ ∙ ap (λ n. drop n target) end) c.in-Some-query_alone.ensures
