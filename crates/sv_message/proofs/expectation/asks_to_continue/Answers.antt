use Rattle.std.proofs.Common.{rules, codes}
use Rattle.sv_message.specs.Expectation.{is_continue}
use Rattle.sv_message.proofs.FieldsLemmas.{list_all-values_of}
use Rattle.sv_message.proofs.expectation.asks_to_continue.Goals as goal

pub returns-then-expectation_count-eq1 : goal.returns-then-expectation_count-eq1
returns-then-expectation_count-eq1 c = rw (list_all-values_of (codes "expect") c.args.fields.now is_continue) (search rules)
