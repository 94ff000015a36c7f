use Rattle.toml.specs.View.{table_view}
use Rattle.sv_descriptor.proofs.Agreeing.{IsWellFormed-agrees}
use Rattle.sv_descriptor.proofs.descriptor.DescriptorTableTableSchema.read.Goals as goal

pub invariant_of-result : goal.invariant_of-result
invariant_of-result c =
    IsWellFormed-agrees (table_view c.args.table.now) c.in_ok-web_app.web_app c.in_ok-check_agreement.field-0 c.in_ok-web_app.ensures c.in_ok-check_agreement.ensures
