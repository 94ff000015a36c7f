use Rattle.std.proofs.Common.{codes, refl, string_bytes, sym, ◌∙◌}
use Rattle.sv_program.proofs.Arguments.{one_argument}
use Rattle.sv_program.proofs.first_command.denies_uncovered.Goals as goal

pub returns-then-eq : goal.returns-then-eq
returns-then-eq c = (
  one_argument string_bytes c.args.options.now c.in-Some.option.now c.in-Some.rest.now c.as_str.result.now (codes "deny") c.eq.result
      c.in-Some.ensures.cases.0 (sym c.is_empty.ensures ∙ c.if-is_empty.true) c.as_str.ensures.value c.eq.ensures c.if-eq.true,
  λ named same. refl,
)
