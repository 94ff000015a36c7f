use Rattle.std.proofs.Common.{◌≡◌, map, string_bytes}
use Rattle.std.specs.List.{find}
use Rattle.toml.specs.View.{table_view}
use Rattle.sv_descriptor.specs.Table.{keys, is_other, texts}
use Rattle.sv_descriptor.proofs.table.only_keys.Given as goal

abbrev pub invariant-loop-key : goal.invariant-loop-key
invariant-loop-key l =
    find (is_other (texts l.fn.known) (texts l.fn.ignored)) (map string_bytes l.key-iterator)
    ≡ find (is_other (texts l.fn.known) (texts l.fn.ignored)) (keys (table_view l.fn.table))
