use Rattle.std.proofs.Common.{ℕ, List, ◌++◌, ap, codes, ◌∙◌}
use Rattle.sv_arguments.proofs.Tables.{has_usage}
use Rattle.sv_arguments.specs.Topics.{commands}
use Rattle.sv_manual.specs.Manual.{named_usage}
use Rattle.sv_arguments.proofs.plain.usage_hint.Goals as goal

pub returns : goal.returns
returns c =
    c.from_string.ensures ∙ c.in_ok-format.ensures.ok
    ∙ ap (λ (usage : List ℕ). codes "; usage: " ++ usage)
    (c.in_ok-usage.ensures ∙ ap (λ (name : List ℕ). named_usage name commands) c.name.ensures ∙ has_usage c.args.topic)
