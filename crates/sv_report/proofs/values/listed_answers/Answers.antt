use Rattle.std.proofs.Common.{rules}
use Rattle.serde_json.specs.declared.value.Value.{the_lemmas}
use Rattle.sv_report.specs.Json.{listed_answers}
use Rattle.sv_report.proofs.values.listed_answers.Goals as goal

pub returns : goal.returns
unfolding listed_answers
returns c = search (rules, the_lemmas)
