use Rattle.std.proofs.Common.{◌≡◌, ◌++◌, flat_map, take}
use Rattle.std.specs.String.{string_bytes}
use Rattle.sv_program.specs.Constraints as spec
use Rattle.sv_program.proofs.constraint_report.push_constraint.Given as goal

abbrev pub invariant-loop-collection : goal.invariant-loop-collection
invariant-loop-collection l =
    string_bytes l.lines ≡ string_bytes l.fn.lines ++ flat_map (spec.collection_lines l.path l.constraint) (take l.collection-index l.constraint.collections)
