use Rattle.std.proofs.Common.{◌∙◌, sym, true, false}
use Rattle.sv_policy.proofs.UncoveredLemmas.{uncovered_is}
use Rattle.sv_policy.specs.Entries.{entry_in}
use Rattle.sv_policy.proofs.entries.Entries.uncovered.Goals as goal

pub returns-then-is_bare : goal.returns-then-is_bare
returns-then-is_bare c = λ rules constraints pattern whole.
    uncovered_is rules constraints pattern (entry_in c.args.self.now.methods) c.args.self.now.rest whole c.in_ok-listed.listed c.in_ok-listed.ensures.rising c.in_ok-listed.ensures.names
    true (sym c.is_bare.ensures ∙ c.if-is_bare.true)

pub returns-else-is_bare : goal.returns-else-is_bare
returns-else-is_bare c = λ rules constraints pattern whole.
    uncovered_is rules constraints pattern (entry_in c.args.self.now.methods) c.args.self.now.rest whole c.in_ok-listed.listed c.in_ok-listed.ensures.rising c.in_ok-listed.ensures.names
    false (sym c.is_bare.ensures ∙ c.if-is_bare.false)
