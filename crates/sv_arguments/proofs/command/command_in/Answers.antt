use Rattle.std.proofs.Common.{map, string_bytes}
use Rattle.std.proofs.lemmas.Bool.{false≢true}
use Rattle.sv_arguments.proofs.Going.{behind_is}
use Rattle.sv_arguments.proofs.ManualWords.{help_words}
use Rattle.sv_arguments.proofs.Naming.{not_called}
use Rattle.sv_arguments.proofs.command.command_in.Goals as goal

pub returns-in_default : goal.returns-in_default
returns-in_default c = (
  tt,
  λ any words. absurd (not_called c.as_str.result.now (map string_bytes c.in_ok-word.rest.now) (map string_bytes c.args.arguments.now)
      (behind_is string_bytes c.args.arguments.now c.in_ok-word.word.now c.in_ok-word.rest.now c.as_str.result.now c.in_ok-word.ensures.cases.0 c.as_str.ensures.value)
      (λ topic calls. false≢true (c.in_default.ensures.1 topic calls)) any words),
)

pub returns-in-Help : goal.returns-in-Help
returns-in-Help c =
    help_words c.as_str.result.now c.as_str-in-Help.result.now (map string_bytes c.in_ok-word.rest.now) (map string_bytes c.args.arguments.now)
    c.manual_in.result c.in-Some.topic
    (behind_is string_bytes c.args.arguments.now c.in_ok-word.word.now c.in_ok-word.rest.now c.as_str.result.now c.in_ok-word.ensures.cases.0 c.as_str.ensures.value)
    (behind_is string_bytes c.args.arguments.now c.in_ok-word.word.now c.in_ok-word.rest.now c.as_str-in-Help.result.now c.in_ok-word.ensures.cases.0 c.as_str-in-Help.ensures.value)
    c.in-Some.ensures.0 c.in-Help.is c.manual_in.ensures
