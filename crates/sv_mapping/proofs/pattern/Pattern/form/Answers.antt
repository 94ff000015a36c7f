use Rattle.std.proofs.Common.{◌∙◌}
use Rattle.sv_mapping.proofs.Uniqueness.{says_text}
use Rattle.sv_mapping.proofs.pattern.Pattern.form.Goals as goal

pub returns-clause-text : goal.returns-clause-text
returns-clause-text c = says_text c.text.result.now _ c.of.ensures ∙ c.text.ensures.value
