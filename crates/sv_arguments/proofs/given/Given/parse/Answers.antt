use Rattle.std.proofs.Common.{◌≤◌, arith, length, map, refl, string_bytes}
use Rattle.sv_arguments.proofs.Going.{all_complete, behind_is, goes_on, none_behind, passed_on, refused_at}
use Rattle.sv_arguments.proofs.given.Given.parse.Goals as goal
use Rattle.sv_arguments.specs.OptionFault.{IsRefused}
use Rattle.sv_arguments.specs.Settings.{words_of}

pub returns-in_err-others-clause-fault : goal.returns-in_err-others-clause-fault
returns-in_err-others-clause-fault c =
    let reached = c.loop-word.invariant.0 in
    passed_on (IsRefused c.args.set (map string_bytes c.args.arguments.now)) c.in_err-others.field-0.0 c.from_residual.result c.from_residual.ensures.1
    (refused_at c.args.set (map string_bytes c.in-Some.words.now) (map string_bytes c.loop-word.rest.now) _ reached
    (behind_is string_bytes c.loop-word.rest.now c.in-Some-split_first.word.now c.in-Some-split_first.after.now
    c.as_str.result.now c.in-Some-split_first.ensures.cases.0 c.as_str.ensures.value)
    (map string_bytes c.args.arguments.now) (string_bytes c.in-Some.config.now) c.in_err-others.field-0.0
    (behind_is string_bytes c.args.arguments.now c.in-Some.config.now c.in-Some.words.now (string_bytes c.in-Some.config.now) c.in-Some.ensures.cases.0 refl)
    (c.in_err-others.ensures.fault reached.0 (c.before-done.ensures (words_of reached.0) reached.1, reached.2)))

pub loop-word-preserved : goal.loop-word-preserved
loop-word-preserved c =
    let reached = c.loop-word.invariant.0 in
    let less : length c.in_ok-others.others.now ≤ length c.in-Some.words.now =
    omega (arith, c.in_ok-others.ensures.shorter, c.in-Some-split_first.ensures.cases.1, c.loop-word.invariant.1) in (
      goes_on c.args.set (map string_bytes c.in-Some.words.now) (map string_bytes c.loop-word.rest.now) _ reached
          (behind_is string_bytes c.loop-word.rest.now c.in-Some-split_first.word.now c.in-Some-split_first.after.now
          c.as_str.result.now c.in-Some-split_first.ensures.cases.0 c.as_str.ensures.value)
          (map string_bytes c.in_ok-others.others.now)
          (c.in_ok-others.ensures.it reached.0 (c.before-done.ensures (words_of reached.0) reached.1, reached.2)),
      less,
    )

pub returns-clause-it : goal.returns-clause-it
returns-clause-it c =
    let all =
    all_complete c.args.set (map string_bytes c.in-Some.words.now) (map string_bytes c.loop-word.rest.now) c.loop-word.invariant.0
    (none_behind string_bytes c.loop-word.rest.now c.in_default-split_first.ensures.cases) c.in_default-lone_option.ensures c.in_default-unfit_form.ensures in (
      refl,
      behind_is string_bytes c.args.arguments.now c.in-Some.config.now c.in-Some.words.now c.as_str-2.result.now c.in-Some.ensures.cases.0 c.as_str-2.ensures.value,
      all.0,
      all.1,
    )
