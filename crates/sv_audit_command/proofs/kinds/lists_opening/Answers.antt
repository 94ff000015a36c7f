use Rattle.std.proofs.Common.{Bool, ◌&&◌, ◌==◌, ap, rules, sym, ◌∙◌}
use borrow.Author.Tests.{tests}
use Rattle.std.proofs.lemmas.Iterator.Search.{any_from_yields_List}
use Rattle.std.proofs.lemmas.Iterator.Splits.{YieldsList-from_slice_split}
use Rattle.std.specs.List.{list_any, slice_split}
use Rattle.sv_audit_command.specs.Kinds.{is_comma, is_opening}
use Rattle.sv_audit_command.proofs.kinds.lists_opening.Goals as goal

pub returns-then-is_opening : goal.returns-then-is_opening
returns-then-is_opening c =
    any_from_yields_List is_opening _ _ _ c.any.ensures.ran
    (YieldsList-from_slice_split _ (λ b. b == 44) c.args.word.now c.split.ensures.rest c.split.ensures.done
    c.split.ensures.closure (λ x b q k. search (rules, tests)))
    (λ x b q k. search (rules, tests))
    ∙ ap (λ (test : Bool). test && list_any is_opening (slice_split is_comma c.args.word.now)) (sym c.if-is_opening.true ∙ c.is_opening.ensures)
