use Rattle.std.proofs.Common.{ap, sym, ◌∙◌, Some}
use Rattle.std.proofs.lemmas.List.{take_rest}
use Rattle.sv_uri.proofs.TargetLemmas.{parts_at_place, no_place, behind_none}
use Rattle.sv_uri.proofs.separator.before_and_behind.Goals as goal

pub returns-in-Some-clause-back : goal.returns-in-Some-clause-back
returns-in-Some-clause-back c =
    ap Some (take_rest c.args.bytes.now _) ∙ (parts_at_place c.args.separator c.in-Some.place c.args.bytes.now (sym c.in-Some.is ∙ c.place_of.ensures)).2

pub returns-in-None-clause-back : goal.returns-in-None-clause-back
returns-in-None-clause-back c =
    sym (behind_none c.args.separator c.args.bytes.now (no_place c.args.separator c.args.bytes.now (sym c.in-None.is ∙ c.place_of.ensures)))
