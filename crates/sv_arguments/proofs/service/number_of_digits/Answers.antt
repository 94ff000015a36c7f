use Rattle.std.proofs.Common.{◌∙◌}
use Rattle.sv_script.proofs.FieldLemmas.{number_parsed}
use Rattle.sv_arguments.proofs.service.number_of_digits.Goals as goal

pub returns : goal.returns
returns c = c.ok.ensures.value ∙ number_parsed c.args.text.now c.parse.result c.requires c.parse.ensures.value.0
