use Rattle.std.proofs.Common.{rules, map, sym, ◌∙◌, ap}
use Rattle.std.proofs.lemmas.Fn.{filter_same}
use Rattle.sv_session.specs.Slots.{due_of}
use Rattle.sv_session.proofs.AppendLemmas.{all_live}
use Rattle.sv_session.proofs.slot.close_gaps.Goals as goal

pub returns-then-len-count-clause-slots : goal.returns-then-len-count-clause-slots
returns-then-len-count-clause-slots c =
    all_live c.args.slots.now.items ((search rules) ∙ (sym c.len.ensures ∙ (c.if-len-count.true ∙ c.requires.counted)))

pub returns-then-len-count-clause-queue : goal.returns-then-len-count-clause-queue
returns-then-len-count-clause-queue c =
    c.requires.wait ∙ ap (map due_of) (all_live c.args.slots.now.items ((search rules) ∙ (sym c.len.ensures ∙ (c.if-len-count.true ∙ c.requires.counted))))

pub returns-clause-slots : goal.returns-clause-slots
returns-clause-slots c =
    filter_same _ (λ slot. slot.live) _ (λ x b f' k. search rules) c.args.slots.now.items c.retain.new.self.items c.retain.ensures.filtered
