use Rattle.std.proofs.Common.{ℕ, List, Ok, ap, subst, ◌∙◌}
use Rattle.std.specs.Option.{option_copied}
use Rattle.sv_container.specs.Explaining.{policies_of_contexts}
use Rattle.sv_container.specs.SeededStart.{AreWordsOf}
use Rattle.sv_policy.specs.Explanation as explained
use Rattle.sv_program.specs.CommandFault.{UnlessNoMemory}
use Rattle.sv.specs.Policy.{Ends, line_of}
use Rattle.sv.proofs.policy_command.policy.Goals as goal

pub returns-in-Ok-start-clause-run : goal.returns-in-Ok-start-clause-run
returns-in-Ok-start-clause-run g c =
    let starts = c.in-Ok-start.ensures in
    let begun = starts.2.1 in
    let same = ap (λ state. policies_of_contexts state.world.contexts) begun.3 ∙ c.containers_explain_what_was_deployed.ensures c.in-Ok.configuration.deployments.items _ _ _ begun.1 in (
      Ok c.in-Ok.configuration,
      c.in-Ok.ensures.finds,
      (
        Ok c.in-Ok-start.container,
        (starts.0, subst (λ (seed : List ℕ). AreWordsOf seed starts.0) c.as_slice.ensures starts.1, starts.2),
        subst (λ policies. UnlessNoMemory c.answer.result (Ends (line_of c.args.question.now (explained.explanation policies c.args.question.now.method.now c.args.question.now.target.now (option_copied c.args.question.now.user)))
            c.answer.result (g.W.Write.contents c.args.writer.now) (g.W.Write.contents c.answer.new.writer))) same c.answer.ensures.answers,
      ),
    )
