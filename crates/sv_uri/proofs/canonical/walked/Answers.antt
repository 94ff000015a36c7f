use Rattle.std.proofs.Common.{sym, ap, ◌∙◌}
use Rattle.std.specs.Option.{option_map}
use Rattle.std.proofs.lemmas.Result.{err_from_is_err_and}
use Rattle.sv_uri.specs.Target.{visible_query}
use Rattle.sv_uri.proofs.AnswerLemmas.{fault_answer, target_answer}
use Rattle.sv_uri.proofs.canonical.walked.Goals as goal

pub returns-in_err-path : goal.returns-in_err-path
returns-in_err-path c =
    let exit = err_from_is_err_and c.from_residual.result c.from_residual.ensures.1 in
    rw (exit.1, exit.2) (fault_answer _ _ _ c.in_err-path.field-0.0 (sym c.if-contains.ensures.value) c.in-Some.ensures c.before_and_behind.ensures.front c.in_err-path.ensures)

pub returns : goal.returns
returns c =
    target_answer _ _ _ _ _ (sym c.if-contains.ensures.value) c.in-Some.ensures c.before_and_behind.ensures.front c.in_ok-path.ensures (c.in_ok-query.ensures ∙ ap (option_map visible_query) c.before_and_behind.ensures.back)
