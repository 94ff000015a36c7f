use Rattle.std.proofs.Common.{List, ℕ, subst}
use Rattle.std.specs.Option.{option_copied}
use Rattle.sv_container.specs.Container.{state_of}
use Rattle.sv_container.specs.Explaining.{explanation_of}
use Rattle.sv.proofs.Policy.{Told, fault_told}
use Rattle.sv.proofs.policy_command.answer.Goals as goal

pub returns-in_ok-fault_of-in-Err-clause-answers : goal.returns-in_ok-fault_of-in-Err-clause-answers
returns-in_ok-fault_of-in-Err-clause-answers g c =
    let text = g.W.Write.contents c.args.writer.now in
    subst (λ (target : List ℕ). Told c.args.question.now (explanation_of (state_of c.args.container).world.contexts c.args.question.now.method.now target (option_copied c.args.question.now.user))
    text c.in_ok-fault_of-in-Err.field-0)
    c.as_bytes.ensures.value (fault_told c.args.question.now c.in-Err.fault _ text c.in_ok-fault_of-in-Err.field-0 c.in-Err.ensures c.in_ok-fault_of-in-Err.ensures)
