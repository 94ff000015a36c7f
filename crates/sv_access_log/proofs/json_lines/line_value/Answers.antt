use Rattle.std.proofs.Common.{rules}
use Rattle.serde_json.specs.declared.value.Value.{the_lemmas}
use Rattle.sv_access_log.specs.Json.{line_value}
use Rattle.sv_access_log.proofs.json_lines.line_value.Goals as goal

pub returns : goal.returns
unfolding line_value
returns c = search (rules, the_lemmas)
