use Rattle.std.proofs.Common.{rules, sym, ◌∙◌}
use Rattle.sv_uri.specs.Segment.{name_faults, name_of}
use Rattle.sv_uri.proofs.AnswerLemmas.{answered, first_or-err}
use Rattle.sv_uri.proofs.segment.read_name.Goals as goal

pub returns-in-Ok : goal.returns-in-Ok
returns-in-Ok c =
    let none = (answered (name_faults c.args.segment.now c.as_slice.result.now) _ _ (sym c.check_name.ensures ∙ c.in-Ok.is)).0 in
    search rules

pub returns : goal.returns
returns c =
    let first = first_or-err (name_faults c.args.segment.now c.as_slice.result.now) _ (name_of c.args.segment.now) _ (sym c.check_name.ensures ∙ c.in-Err.is) in
    search rules
