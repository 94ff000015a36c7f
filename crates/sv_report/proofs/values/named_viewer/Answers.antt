use Rattle.std.proofs.Common.{rules}
use Rattle.serde_json.specs.declared.value.Value.{the_lemmas}
use Rattle.sv_report.specs.Json.{named_viewer}
use Rattle.sv_report.proofs.values.named_viewer.Goals as goal

pub returns : goal.returns
unfolding named_viewer
returns c = search (rules, the_lemmas)
