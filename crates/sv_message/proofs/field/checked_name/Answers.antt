use Rattle.std.proofs.Common.{ap, rules, sym, ◌∙◌, Err, Some}
use Rattle.std.proofs.lemmas.Bool.{cond-true, cond-false}
use Rattle.sv_message.proofs.NamesLemmas.{name_passes, name_fails}
use Rattle.sv_message.proofs.field.checked_name.Goals as goal

pub returns-in-Ok-clause-found : goal.returns-in-Ok-clause-found
returns-in-Ok-clause-found c =
    let passes = name_passes c.args.name.now (λ invalid. let same = c.in-Ok.ensures.invalid.1 invalid in search rules) in
    ap Some c.in-Ok.ensures.ok ∙ sym (cond-true _ _ _ passes)

pub returns-in-Err-OutOfMemory-clause-no_memory : goal.returns-in-Err-OutOfMemory-clause-no_memory
returns-in-Err-OutOfMemory-clause-no_memory c = name_passes c.args.name.now (λ invalid. let same = c.in-Err-OutOfMemory.ensures.invalid.1 invalid in search rules)

pub returns-in-Err-Invalid-clause-found : goal.returns-in-Err-Invalid-clause-found
returns-in-Err-Invalid-clause-found c = sym (cond-false _ _ _ (name_fails c.args.name.now (c.in-Err-Invalid.ensures.invalid.0 (ap Err c.in-Err-Invalid.field-0-is))))
