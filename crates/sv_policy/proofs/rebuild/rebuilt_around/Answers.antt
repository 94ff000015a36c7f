use Rattle.std.proofs.Common.{◌≡◌, ap, map, filter, sym, ◌∙◌, ◌++◌}
use Rattle.std.proofs.lemmas.List.Elements.{All-map}
use Rattle.sv_constraints.specs.Covering.{all_patterns, lists}
use Rattle.sv_policy.specs.Table.{IsTable}
use Rattle.sv_policy.proofs.Made.{all_at_each}
use Rattle.sv_policy.proofs.Elsewhere.{all_whole, count_is, is_other, kept_whole, same_once}
use Rattle.sv_policy.specs.Patterns.{different, listed_in}
use Rattle.sv_policy.proofs.rebuild.rebuilt_around.Goals as goal

pub returns : goal.returns
returns c = λ constraints compiled same.
    let begun : c.in_ok-making.making.tables.items ≡ c.in_ok-tables.tables.items = ap (λ tables. tables.items) c.in_ok-making.ensures in
    let kept = ap (map (λ table. table.value)) begun ∙ c.in_ok-tables.ensures ∙ ap (λ ps. filter (is_other ps) (map (λ table. table.value) c.args.tables.now)) (ap (map (λ pattern. pattern.now)) c.as_slice.ensures.value ∙ c.in_ok-patterns.ensures) in
    record {
      compiled = all_whole (λ table. table.value) c.args.rules.now constraints (c.args.front.now ++ c.args.back.now) (different (listed_in c.args.edited.now)) c.args.tables.now c.in_ok-making.making.tables.items c.push_tables.new.making.tables.items
          (same_once constraints (c.args.front.now ++ c.args.back.now) (listed_in c.args.edited.now) same) compiled kept
          (c.in_ok-push_tables.ensures.texts
          ∙ ap (λ ps. map (λ table. table.value.pattern) c.in_ok-making.making.tables.items ++ filter (λ text. lists (all_patterns (c.args.front.now ++ c.args.back.now)) text) ps) (ap (map (λ pattern. pattern.now)) c.as_slice-2.ensures.value ∙ c.in_ok-patterns.ensures))
          (All-map (IsTable c.args.rules.now (c.args.front.now ++ c.args.back.now)) (λ table. table.value) c.push_tables.new.making.tables.items
          (c.in_ok-push_tables.ensures.tables
          (all_at_each (IsTable c.args.rules.now (c.args.front.now ++ c.args.back.now)) (λ table. table.value) c.in_ok-making.making.tables.items
          (kept_whole (λ table. table.value) c.args.rules.now constraints (c.args.front.now ++ c.args.back.now) (different (listed_in c.args.edited.now)) c.args.tables.now c.in_ok-making.making.tables.items
          (same_once constraints (c.args.front.now ++ c.args.back.now) (listed_in c.args.edited.now) same) compiled kept))));
      indexed = c.in_ok-index_of.ensures ∙ ap (map (λ table. table.value.pattern)) c.as_slice-3.ensures.value;
      counted = count_is (λ pattern. pattern.now) c.in_ok-patterns.patterns.items (different (listed_in c.args.edited.now)) c.len.result _ c.len.ensures (sym c.in_ok-patterns.patterns.ok.0) c.in_ok-patterns.ensures;
    }
