use Rattle.std.proofs.Common.{rules, codes}
use Rattle.sv_message.specs.Fields.{has_member}
use Rattle.sv_message.proofs.FieldsLemmas.{list_any-values_of}
use Rattle.sv_message.proofs.persistence.keeps.Goals as goal

pub returns-then-minor-eq1 : goal.returns-then-minor-eq1
returns-then-minor-eq1 c =
    rw (list_any-values_of (codes "connection") c.args.fields.now (has_member (codes "close"))) (search rules)
