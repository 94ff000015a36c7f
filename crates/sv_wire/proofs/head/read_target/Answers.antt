use Rattle.std.proofs.Common.{◌≡◌, ◌+◌, ℕ, List, drop, sym, ap, ◌∙◌, subst}
use Rattle.std.proofs.lemmas.List.{drop-drop}
use Rattle.sv_message.specs.declared.target.TargetForm.{TargetForm}
use Rattle.sv_message.specs.declared.target.TargetForm.TheVariants.{Absolute}
use Rattle.sv_message.specs.TargetForm.{FitsForm, with_slash}
use Rattle.sv_text.specs.Gives.{GivesAnswer}
use Rattle.sv_message.specs.declared.message.Target.TheVariants.{Path}
use Rattle.sv_wire.specs.Head.{target_in}
use Rattle.sv_wire.proofs.head.read_target.Goals as goal

same_target : (form : TargetForm) (len : ℕ) (target : List ℕ) → form ≡ Absolute len → FitsForm form target
    → Path (with_slash (drop (7 + len) target)) ≡ target_in form target
same_target form len target is fits =
    let there : FitsForm (Absolute len) target = subst (λ f. FitsForm f target) is fits in
    ap (λ t. Path (with_slash t)) (sym (drop-drop len 7 target) ∙ ap (λ n. drop n (drop 7 target)) there.0)
    ∙ ap (λ f. target_in f target) (sym is)

pub returns-in-Absolute : goal.returns-in-Absolute
returns-in-Absolute c =
    subst (λ t. GivesAnswer c.read_path.result t)
    (ap (λ t. Path (with_slash t)) c.advance.ensures ∙ same_target c.args.form c.in-Absolute.len c.args.target c.in-Absolute.is c.requires)
    c.read_path.ensures
