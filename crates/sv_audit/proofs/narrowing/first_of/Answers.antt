use Rattle.std.proofs.Common.{length, refl, ◌∙◌, ap, ap₂}
use Rattle.std.specs.Prelude.{nat_le}
use Rattle.sv_audit.proofs.FirstTexts.{first_texts, same_length}
use Rattle.sv_audit.specs.declared.narrower_patterns.Narrower.{Narrower}
use Rattle.sv_audit.proofs.narrowing.first_of.Goals as goal

pub returns : goal.returns
returns c =
    ap₂ (λ its_patterns all. let made : Narrower = record { patterns = its_patterns; are_all = all } in made)
    (c.in_ok-copied_texts.ensures ∙ first_texts c.args.all.now (length c.args.all.now) c.min-shown.result c.args.most refl c.min-shown.ensures)
    (ap (λ n. nat_le n c.args.most) (same_length c.args.all.now (length c.args.all.now) refl))
