-- The names of the dispatch faults, which are also their kinds and their texts.
use Rattle.std.specs.Prelude.{ℕ, List, codes}
use Rattle.sv_tree.specs.declared.finished.DispatchFault.{DispatchFault}
use Rattle.sv_tree.specs.declared.finished.DispatchFault.TheVariants.{Committed, BadDispatchPath, DispatchLimit, MissingInclude, TooLarge}

abbrev pub fault_name : DispatchFault → List ℕ
fault_name Committed = codes "Committed"
fault_name BadDispatchPath = codes "BadDispatchPath"
fault_name DispatchLimit = codes "DispatchLimit"
fault_name MissingInclude = codes "MissingInclude"
fault_name TooLarge = codes "TooLarge"
