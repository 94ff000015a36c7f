use Rattle.std.proofs.Common.{refl, sym, ◌∙◌}
use Rattle.sv_arguments.proofs.Lone.{finds_lone, finds_none_lone, lone_end, lone_every, lone_format, none_of_run}
use Rattle.sv_arguments.proofs.given.lone_run_option.Goals as goal
use Rattle.sv_arguments.specs.declared.key.Key.TheVariants.{AccessLog, AccessLogFormat, EndAllSessions, Sessions, SessionsEvery}
use Rattle.sv_arguments.specs.declared.option_set.OptionSet.TheVariants.{Run}

pub returns-then-lacks : goal.returns-then-lacks
returns-then-lacks c = λ settings are.
    finds_lone settings Run AccessLogFormat AccessLog (lone_format settings (sym (c.lacks.ensures settings are) ∙ c.if-lacks.true)) refl

pub returns-then-lacks-2 : goal.returns-then-lacks-2
returns-then-lacks-2 c = λ settings are.
    finds_lone settings Run SessionsEvery Sessions
    (lone_every settings (sym (c.lacks.ensures settings are) ∙ c.if-lacks.false) (sym (c.lacks-2.ensures settings are) ∙ c.if-lacks-2.true)) refl

pub returns-then-lacks-3 : goal.returns-then-lacks-3
returns-then-lacks-3 c = λ settings are.
    finds_lone settings Run EndAllSessions Sessions
    (lone_end settings (sym (c.lacks.ensures settings are) ∙ c.if-lacks.false) (sym (c.lacks-2.ensures settings are) ∙ c.if-lacks-2.false)
    (sym (c.lacks-3.ensures settings are) ∙ c.if-lacks-3.true)) refl

pub returns : goal.returns
returns c = λ settings are.
    finds_none_lone settings Run
    (none_of_run settings (sym (c.lacks.ensures settings are) ∙ c.if-lacks.false) (sym (c.lacks-2.ensures settings are) ∙ c.if-lacks-2.false)
    (sym (c.lacks-3.ensures settings are) ∙ c.if-lacks-3.false))
