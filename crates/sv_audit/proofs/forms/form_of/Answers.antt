use Rattle.std.proofs.Common.{[], ◌∷◌, sym, ◌∙◌}
use Rattle.sv_mapping.proofs.Texts.{form-root, form-default, form-extension, form-prefix, form-exact, stripped_front, stripped_end}
use Rattle.sv_audit.proofs.forms.form_of.Goals as goal

pub returns-then-is_empty : goal.returns-then-is_empty
returns-then-is_empty c = sym (form-root c.args.text.now (sym c.is_empty.ensures ∙ c.if-is_empty.true))

pub returns-then-eq : goal.returns-then-eq
returns-then-eq c = sym (form-default c.args.text.now (sym c.is_empty.ensures ∙ c.if-is_empty.false) (sym c.eq.ensures ∙ c.if-eq.true))

pub returns-in-Some : goal.returns-in-Some
returns-in-Some c =
    sym (form-extension c.args.text.now c.in-Some.extension.now (sym c.is_empty.ensures ∙ c.if-is_empty.false) (sym c.eq.ensures ∙ c.if-eq.false) (stripped_front (42 ∷ 46 ∷ []) c.args.text.now c.in-Some.extension.now c.in-Some.ensures.cases))

pub returns-in-Some-strip_suffix : goal.returns-in-Some-strip_suffix
returns-in-Some-strip_suffix c =
    sym (form-prefix c.args.text.now c.in-Some-strip_suffix.prefix.now (sym c.is_empty.ensures ∙ c.if-is_empty.false) (sym c.eq.ensures ∙ c.if-eq.false) c.in_default.ensures.cases (stripped_end (47 ∷ 42 ∷ []) c.args.text.now c.in-Some-strip_suffix.prefix.now c.in-Some-strip_suffix.ensures.cases))

pub returns-in-None : goal.returns-in-None
returns-in-None c =
    sym (form-exact c.args.text.now (sym c.is_empty.ensures ∙ c.if-is_empty.false) (sym c.eq.ensures ∙ c.if-eq.false) c.in_default.ensures.cases c.in-None.ensures.cases)
