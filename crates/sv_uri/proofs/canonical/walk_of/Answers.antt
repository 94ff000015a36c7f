use Rattle.std.proofs.Common.{ap, subst, ◌<◌}
use Rattle.std.specs.Option.{option_copied}
use Rattle.std.proofs.lemmas.Result.{err_from_is_err_and}
use Rattle.sv_uri.proofs.AnswerLemmas.{HasRead, HasRead-more, first_of_next, size_of_rest, size_of_rest-behind}
use Rattle.sv_uri.proofs.canonical.walk_of.Goals as goal

pub returns-in_err-read_name : goal.returns-in_err-read_name
returns-in_err-read_name c =
    let exit = err_from_is_err_and c.from_residual.result c.from_residual.ensures.1 in
    let read = subst (HasRead c.loop-rest.walk c.args.path.now) (ap option_copied c.in-Some.is) c.loop-rest.invariant in
    rw (exit.1, exit.2) (first_of_next _ _ _ _ c.in_err-read_name.field-0.0 c.before_and_behind.ensures.front read c.in_err-read_name.ensures)

pub loop-rest-smaller : goal.loop-rest-smaller
loop-rest-smaller c =
    let smaller : size_of_rest (option_copied c.before_and_behind.result.1) < size_of_rest (option_copied c.loop-rest.rest) = rw (c.before_and_behind.ensures.back, c.in-Some.is) (size_of_rest-behind 47 c.in-Some.text.now) in
    smaller

pub loop-rest-preserved : goal.loop-rest-preserved
loop-rest-preserved c =
    let read = subst (HasRead c.loop-rest.walk c.args.path.now) (ap option_copied c.in-Some.is) c.loop-rest.invariant in
    HasRead-more _ _ _ _ _ _ _ c.before_and_behind.ensures.front c.before_and_behind.ensures.back c.in_ok-read_name.ensures.0 c.in_ok-read_name.ensures.1 c.in_ok-enter.ensures read
