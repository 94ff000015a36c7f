use Rattle.std.proofs.Common.{◌≡◌, map, rules}
use Rattle.sv_policy.proofs.Filing.{ordered_among, ordered_texts}
use Rattle.sv_policy.proofs.gaps.rising_tables.Goals as goal

pub returns-clause-texts : goal.returns-clause-texts
returns-clause-texts c =
    let are : c.in_ok-collect.field-0.items ≡ map (λ e. e.1) c.in_ok-filed.filed.entries = search rules in
    ordered_texts (map (λ table. table.value) c.args.tables.now) (map (λ table. table.value) c.args.tables.now) c.in_ok-filed.filed.entries c.in_ok-collect.field-0.items c.in_ok-filed.ensures are

pub returns-clause-tables : goal.returns-clause-tables
returns-clause-tables c =
    let are : c.in_ok-collect.field-0.items ≡ map (λ e. e.1) c.in_ok-filed.filed.entries = search rules in
    ordered_among (map (λ table. table.value) c.args.tables.now) (map (λ table. table.value) c.args.tables.now) c.in_ok-filed.filed.entries c.in_ok-collect.field-0.items c.in_ok-filed.ensures are
