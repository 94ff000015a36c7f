use Rattle.std.proofs.lemmas.Bool.{false≢true}
use Rattle.std.proofs.Common.{ap, is_some, ◌∙◌, map, None, Some}
use Rattle.std.specs.Prelude.{slice_get}
use Rattle.std.specs.Option.{option_and_then, option_copied}
use Rattle.sv_constraints.specs.Covering.{all_patterns}
use Rattle.sv_constraints.specs.Verdict.{verdict}
use Rattle.sv_mapping.specs.BestMatch.{best_pattern}
use Rattle.sv_policy.proofs.Deciding.{decided_is_verdict, looked_up, no_pattern, whole_at}
use Rattle.sv_policy.specs.Compiled.{Standing}
use Rattle.sv_policy.proofs.policy.Policy.decide.Goals as goal

pub returns-in-None-clause-decision : goal.returns-in-None-clause-decision
returns-in-None-clause-decision c =
    no_pattern c.self.inside.constraints.items c.self.inside.rules c.args.method.now c.args.path.now (option_copied c.args.caller)
    (looked_up c.best_is_of_texts.ensures (λ table. table.value) c.self.inside.rules c.self.inside.constraints.items c.self.inside.tables.items c.as_slice.result.now c.self.inside.index c.args.path.now c.lookup-looked.result.best None
    c.self.invariant.0 c.self.invariant.1 c.as_slice.ensures.value c.lookup-looked.ensures.text c.in-None.ensures)
    ∙ ap (λ (standing : Standing). verdict standing.constraints standing.rules c.args.method.now c.args.path.now (option_copied c.args.caller)) c.self.view_is

pub returns-in-Some-clause-decision : goal.returns-in-Some-clause-decision
returns-in-Some-clause-decision c =
    decided_is_verdict c.findings_decide.ensures c.self.inside.constraints.items c.self.inside.rules c.args.method.now c.args.path.now (option_copied c.args.caller) c.in-Some.table.now.pattern c.findings.result _
    (looked_up c.best_is_of_texts.ensures (λ table. table.value) c.self.inside.rules c.self.inside.constraints.items c.self.inside.tables.items c.as_slice.result.now c.self.inside.index c.args.path.now c.lookup-looked.result.best (Some c.in-Some.table.now)
    c.self.invariant.0 c.self.invariant.1 c.as_slice.ensures.value c.lookup-looked.ensures.text c.in-Some.ensures)
    (c.findings.ensures c.self.inside.rules c.self.inside.constraints.items
    (whole_at c.self.inside.rules c.self.inside.constraints.items (map (λ table. table.value) c.self.inside.tables.items) c.lookup-looked.result.best c.in-Some.table.now c.self.invariant.0
    (c.in-Some.ensures ∙ ap (λ tables. option_and_then (λ at. slice_get (map (λ table. table.value) tables) at) c.lookup-looked.result.best) c.as_slice.ensures.value)))
    c.decide.ensures
    ∙ ap (λ (standing : Standing). verdict standing.constraints standing.rules c.args.method.now c.args.path.now (option_copied c.args.caller)) c.self.view_is

pub returns-in-None-clause-counted : goal.returns-in-None-clause-counted
returns-in-None-clause-counted c = λ some.
    absurd (false≢true
    (ap is_some
    (looked_up c.best_is_of_texts.ensures (λ table. table.value) c.self.inside.rules c.self.inside.constraints.items c.self.inside.tables.items c.as_slice.result.now c.self.inside.index c.args.path.now c.lookup-looked.result.best None
    c.self.invariant.0 c.self.invariant.1 c.as_slice.ensures.value c.lookup-looked.ensures.text c.in-None.ensures)
    ∙ ap (λ (standing : Standing). is_some (best_pattern (all_patterns standing.constraints) c.args.path.now)) c.self.view_is ∙ some))
