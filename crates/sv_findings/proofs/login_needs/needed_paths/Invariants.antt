use Rattle.std.proofs.Common.{◌≡◌, map, take}
use Rattle.std.specs.Prelude.{filter}
use Rattle.std.specs.List.{flat_map}
use Rattle.std.specs.Option.{option_to_list}
use Rattle.sv_findings.specs.LoginNeeds.{is_loaded, needed_by}
use Rattle.sv_findings.proofs.login_needs.needed_paths.Given as goal

abbrev pub invariant-loop-reference : goal.invariant-loop-reference
invariant-loop-reference l =
    l.paths.items
    ≡ flat_map (λ reference. option_to_list (needed_by l.context.reaches.now.0 l.context.reaches.now.1 l.context.constraints.now l.context.rules.now (map (λ folder. folder.now) l.folders) reference)) (filter is_loaded (map (λ reference. reference.now) (take l.reference-index l.reference-items)))
