-- The merged table of a pattern (Jakarta Servlet 6.0, section 13.8.1).
use Rattle.std.specs.Prelude.{List}
use Rattle.sv_constraints.specs.declared.constraint.Constraint.{Constraint}
use Rattle.sv_constraints.specs.declared.constraint.Rules.{Rules}
use Rattle.sv_policy.specs.Entries.{AreEntries}
use Rattle.sv_policy.specs.declared.table.Table.{Table}

-- The entries of the table are those of the constraints at its pattern.
abbrev pub IsTable : Rules → List Constraint → Table → Type 0
IsTable rules constraints table = AreEntries rules constraints table.pattern table.entries.value
