use Rattle.std.proofs.Common.{[], map, string_bytes, sym, ◌∙◌}
use Rattle.std.proofs.lemmas.Bool.{false≢true}
use Rattle.sv_arguments.proofs.Going.{behind_is}
use Rattle.sv_arguments.proofs.Setting.{flag_value, flag_words, keyed_words, proper_more, taken_words}
use Rattle.sv_arguments.proofs.Walking.{unset}
use Rattle.sv_arguments.proofs.given.rest_behind.Goals as goal
use Rattle.sv_arguments.specs.Settings.{Keyed, values}

pub returns-then-not-takes_word-clause-it : goal.returns-then-not-takes_word-clause-it
returns-then-not-takes_word-clause-it c = λ settings are.
    let none = sym c.takes_word.ensures ∙ c.if-not-takes_word.true in
    let free = unset (values c.in-Some.key settings) c.value_in.result (c.value_in.ensures settings are.0 are.1.0) (sym c.is_some.ensures ∙ c.if-is_some.false) in (
      Keyed c.in-Some.key [],
      flag_words c.in-Some.key c.args.word.now (map string_bytes c.args.after.now) c.in-Some.ensures.0.1 none,
      proper_more c.args.set settings c.in-Some.key [] are.1 (c.in-Some.ensures.0.0, free, sym (c.in_default-rival_in.ensures settings are))
          (flag_value c.in-Some.key none),
    )

pub returns-then-not-is_value-clause-fault : goal.returns-then-not-is_value-clause-fault
returns-then-not-is_value-clause-fault c = λ settings are.
    let free = unset (values c.in-Some.key settings) c.value_in.result (c.value_in.ensures settings are.0 are.1.0) (sym c.is_some.ensures ∙ c.if-is_some.false) in (
      map string_bytes c.in-Some-split_first.rest.now,
      keyed_words c.in-Some.key c.args.word.now c.as_str-value.result.now (map string_bytes c.args.after.now) (map string_bytes c.in-Some-split_first.rest.now)
          c.in-Some.ensures.0.1
          (behind_is string_bytes c.args.after.now c.in-Some-split_first.value.now c.in-Some-split_first.rest.now c.as_str-value.result.now
          c.in-Some-split_first.ensures.cases.0 c.as_str-value.ensures.value),
      (c.in-Some.ensures.0.0, free, sym (c.in_default-rival_in.ensures settings are)),
      sym c.takes_word.ensures ∙ c.if-not-takes_word.false,
      λ is. false≢true (sym c.if-not-is_value.true ∙ c.is_value.ensures.1 is),
    )

pub returns-clause-it : goal.returns-clause-it
returns-clause-it c = λ settings are.
    let free = unset (values c.in-Some.key settings) c.value_in.result (c.value_in.ensures settings are.0 are.1.0) (sym c.is_some.ensures ∙ c.if-is_some.false) in (
      Keyed c.in-Some.key c.as_str-value.result.now,
      taken_words c.in-Some.key c.args.word.now c.as_str-value.result.now (map string_bytes c.args.after.now) (map string_bytes c.in-Some-split_first.rest.now)
          c.in-Some.ensures.0.1
          (behind_is string_bytes c.args.after.now c.in-Some-split_first.value.now c.in-Some-split_first.rest.now c.as_str-value.result.now
          c.in-Some-split_first.ensures.cases.0 c.as_str-value.ensures.value)
          (sym c.takes_word.ensures ∙ c.if-not-takes_word.false),
      proper_more c.args.set settings c.in-Some.key c.as_str-value.result.now are.1
          (c.in-Some.ensures.0.0, free, sym (c.in_default-rival_in.ensures settings are)) (c.is_value.ensures.0 c.if-not-is_value.false),
    )
