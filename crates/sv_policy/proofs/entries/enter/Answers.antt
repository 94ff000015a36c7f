use Rattle.std.proofs.Common.{ap, sym, ◌∙◌, Some, cond, map}
use Rattle.std.proofs.lemmas.Map.Text.{btree_map_updates_text}
use Rattle.std.specs.BTreeMap.{get_by_text}
use Rattle.std.specs.Prelude.{filter}
use Rattle.std.specs.Str.{bytes_eq}
use Rattle.std.specs.String.{string_bytes}
use Rattle.sv_constraints.specs.Covering.{covers}
use Rattle.sv_policy.proofs.MergedWhole.{boxed_put, boxed_some, entered_kept, entered_put}
use Rattle.sv_policy.specs.Merged.{IsMerged}
use Rattle.sv_policy.specs.Entries.{entry_in}
use Rattle.sv_policy.proofs.entries.enter.Goals as goal

pub returns-then-contains_key : goal.returns-then-contains_key
returns-then-contains_key c = λ names entered.
    entered_kept (λ method. IsMerged c.args.rules.now (filter (λ member. covers member c.args.pattern.now method) (map (λ member. member.now) c.args.members.now))) (entry_in c.args.methods.now) names c.args.name.now entered
    (boxed_some (get_by_text c.args.methods.now c.args.name.now) ∙ sym c.contains_key.ensures ∙ c.if-contains_key.true)

pub returns : goal.returns
returns c = λ names entered.
    entered_put (λ method. IsMerged c.args.rules.now (filter (λ member. covers member c.args.pattern.now method) (map (λ member. member.now) c.args.members.now))) (entry_in c.args.methods.now) names c.args.name.now entered
    (entry_in c.insert.new.self) c.in_ok-merged.merged c.in_ok-merged.ensures
    (λ method. boxed_put (get_by_text c.args.methods.now method) (get_by_text c.insert.new.self method) (bytes_eq c.args.name.now method) c.in_ok-new.field-0 c.in_ok-merged.merged c.in_ok-new.ensures.ok
    (btree_map_updates_text (string_bytes c.in_ok-from_str.field-0) c.args.methods.now c.insert.new.self (Some c.in_ok-new.field-0) c.in_ok-insert.ensures.updates method
    ∙ ap (λ bs. cond (bytes_eq bs method) (Some c.in_ok-new.field-0) (get_by_text c.args.methods.now method)) c.in_ok-from_str.ensures.ok))
