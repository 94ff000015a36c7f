use Rattle.std.specs.Option.{option_copied}
use Rattle.sv_policy.specs.Table.{IsTable}
use Rattle.sv_policy.proofs.Made.{found_among}
use Rattle.sv_policy.proofs.shared_tables.Making.marked.Goals as goal

pub returns : goal.returns
returns c = λ rules constraints all.
    found_among (IsTable rules constraints) (λ table. table.value) c.args.self.now.tables.items c.as_slice.result.now c.copied.result (option_copied c.table_at.result) c.table_at.ensures c.as_slice.ensures.value all
