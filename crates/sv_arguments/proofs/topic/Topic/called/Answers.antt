use Rattle.std.proofs.Common.{sym, ◌∙◌}
use Rattle.std.proofs.lemmas.Bool.{false≢true}
use Rattle.std.specs.Prelude.{codes}
use Rattle.sv_arguments.proofs.Called.{calls_named}
use Rattle.sv_arguments.proofs.Words.{other_word}
use Rattle.sv_arguments.proofs.topic.Topic.called.Goals as goal

pub returns : goal.returns
returns c =
    calls_named c.args.word.now
    (λ option. false≢true (sym c.if-is_help_option.false ∙ c.is_help_option.ensures.1 option))
    (other_word c.args.word.now (codes "--version") c.eq.result c.eq.ensures c.if-eq.false)
    c.named.result c.named.ensures
