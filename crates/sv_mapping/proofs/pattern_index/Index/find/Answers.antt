use Rattle.std.proofs.Common.{rules, ◌≤◌, arith, length, sym, ap, ◌∙◌}
use Rattle.std.specs.Option.{option_or}
use Rattle.sv_mapping.proofs.Cuts.{segments_fit}
use Rattle.sv_mapping.proofs.Found.{found_in_trie, found_beside}
use Rattle.sv_mapping.proofs.pattern_index.Index.find.Goals as goal

pub overflow_add-result : goal.overflow_add-result
overflow_add-result c =
    let bound : c.way-way.result.probes ≤ length c.args.path.now = omega (arith, c.way-way.ensures.probes, segments_fit c.args.path.now) in
    search (rules, bound)

pub returns-in-Some-clause-best : goal.returns-in-Some-clause-best
returns-in-Some-clause-best c = λ patterns finds.
    found_in_trie c.best_is_looked_up.ensures patterns c.args.path.now _ _ c.in-Some.place finds.accepted (c.way-way.ensures.exact patterns finds) (c.way-way.ensures.prefix patterns finds) (sym c.or.ensures ∙ c.in-Some.is)

pub returns-in-None-clause-best : goal.returns-in-None-clause-best
returns-in-None-clause-best c = λ patterns finds.
    found_beside c.best_is_looked_up.ensures c.args.self.now patterns c.args.path.now _ _ _ finds (c.way-way.ensures.exact patterns finds) (c.way-way.ensures.prefix patterns finds) (sym c.or.ensures ∙ c.in-None.is)
    (c.or-in-None.ensures ∙ ap (λ o. option_or o c.args.self.now.default) c.by_extension.ensures)
