-- The reason with the printed parts.
use Rattle.std.specs.Option.{option_copied}
use Rattle.sv_constraints.specs.declared.owned_decision.OwnedWhy.{OwnedWhy}
use Rattle.sv_constraints.specs.declared.display.PrintedWhy.{PrintedWhy}

abbrev pub printed_why : PrintedWhy → OwnedWhy
printed_why why = record { pattern = option_copied why.pattern; number = why.number; cause = why.cause }
