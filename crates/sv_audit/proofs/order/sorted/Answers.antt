use Rattle.std.proofs.Common.{◌≡◌, ℕ, List, map, ap, [], ◌∙◌, rules}
use Rattle.std.specs.Borrow.{Bor}
use Rattle.std.proofs.lemmas.List.{take_all}
use Rattle.sv_policy.specs.Uncovered.{rising}
use Rattle.sv_audit.proofs.Made.{sorted_more}
use Rattle.sv_audit.proofs.order.sorted.Goals as goal

pub loop-text-preserved : goal.loop-text-preserved
loop-text-preserved c =
    sorted_more c.args.texts.now c.loop-text.text-index (record { ref_ptr = (0, 0); now = [] }) c.loop-text.set.keys c.insert.new.self.keys c.loop-text-test.true c.loop-text.invariant c.in_ok-insert.ensures.keys

pub returns : goal.returns
returns c =
    let are : c.in_ok-collect.field-0.items ≡ c.loop-text.set.keys = search rules in
    ap (map (λ (text : Bor (List ℕ)). text.now)) are ∙ c.loop-text.invariant ∙ ap (λ xs. rising (map (λ (text : Bor (List ℕ)). text.now) xs)) (take_all c.loop-text.text-index c.args.texts.now c.loop-text-test.false)
