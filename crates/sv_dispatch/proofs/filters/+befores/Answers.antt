use Rattle.std.proofs.Common.{◌≡◌, ◌+◌, suc, None, Some, drop, reverse, take, subst, sym, ◌∙◌, arith}
use Rattle.sv_dispatch.specs.Did.{reached_by}
use Rattle.sv_tree.specs.Filters.{Befores}
use Rattle.sv_tree.specs.SiteOfDescriptor.{site_of}
use Rattle.sv_dispatch.proofs.Deeds.{Makes}
use Rattle.sv_dispatch.proofs.FilterDeeds.{befores_broken, befores_failed, befores_full, befores_passed, befores_stop}
use Rattle.sv_dispatch.proofs.filters.+befores.Goals as goal

pub returns-in_default-clause-does : goal.returns-in_default-clause-does
returns-in_default-clause-does g t c =
    befores_full g.M.Machine.state g.M.Machine.frame g.M.Machine.ran (site_of c.args.site.now) c.args.resource c.args.chain.now c.args.place (omega arith)
    c.args.machine.now c.fault.new.machine None (sym c.is_full.ensures ∙ c.if-is_full.true) c.in_default.ensures

pub returns-then-is_full-clause-does : goal.returns-then-is_full-clause-does
returns-then-is_full-clause-does g t c =
    befores_full g.M.Machine.state g.M.Machine.frame g.M.Machine.ran (site_of c.args.site.now) c.args.resource c.args.chain.now c.args.place (omega arith)
    c.args.machine.now c.fault.new.machine (Some c.in-Ok.ended) (sym c.is_full.ensures ∙ c.if-is_full.true) c.in-Ok.ensures

pub returns-in_default-before-clause-does : goal.returns-in_default-before-clause-does
returns-in_default-before-clause-does g t c =
    befores_broken g.M.Machine.state g.M.Machine.frame g.M.Machine.ran (site_of c.args.site.now) c.args.resource c.args.chain.now c.args.place (omega arith)
    c.args.machine.now c.count.new.self c.requires.listeners (sym c.is_full.ensures ∙ c.if-is_full.false) c.count.ensures c.before-2.new.self c.in_default-before.ensures

pub returns-in_default-fail-clause-does : goal.returns-in_default-fail-clause-does
returns-in_default-fail-clause-does g t c =
    befores_failed g.M.Machine.state g.M.Machine.frame g.M.Machine.ran (site_of c.args.site.now) c.args.resource c.args.chain.now c.args.place (omega arith)
    c.args.machine.now c.count.new.self c.requires.listeners (sym c.is_full.ensures ∙ c.if-is_full.false) c.count.ensures c.before-2.new.self c.in-Ok-before.gate c.in-Ok-before.ensures
    c.in-Failed.kind c.in-Failed.text c.fail.new.machine None c.in-Failed.is c.in_default-fail.ensures

pub returns-in-Pass-clause-does : goal.returns-in-Pass-clause-does
returns-in-Pass-clause-does g t c =
    let chain = c.args.chain.now in
    let one : c.args.place + 1 ≡ suc c.args.place = omega arith in
    befores_passed g.M.Machine.state g.M.Machine.frame g.M.Machine.ran (site_of c.args.site.now) c.args.resource c.args.chain.now c.args.place (omega arith)
    c.args.machine.now c.count.new.self c.requires.listeners (sym c.is_full.ensures ∙ c.if-is_full.false) c.count.ensures c.before-2.new.self c.in-Ok-before.gate c.in-Ok-before.ensures
    c.befores.new.machine (reached_by c.args.chain.now c.befores.result) c.in-Pass.is
    (subst (λ n. Makes g.M.Machine.state g.M.Machine.frame g.M.Machine.ran (Befores (site_of c.args.site.now) c.args.resource (reverse (take n chain)) (drop n chain))
    c.before-2.new.self c.befores.new.machine (reached_by chain c.befores.result)) one c.befores.ensures.does)

pub returns-in-Stop-clause-does : goal.returns-in-Stop-clause-does
returns-in-Stop-clause-does g t c =
    befores_stop g.M.Machine.state g.M.Machine.frame g.M.Machine.ran (site_of c.args.site.now) c.args.resource c.args.chain.now c.args.place (omega arith)
    c.args.machine.now c.count.new.self c.requires.listeners (sym c.is_full.ensures ∙ c.if-is_full.false) c.count.ensures c.before-2.new.self c.in-Ok-before.gate c.in-Ok-before.ensures c.in-Stop.is

pub returns-in-Ok-fail-clause-does : goal.returns-in-Ok-fail-clause-does
returns-in-Ok-fail-clause-does g t c =
    befores_failed g.M.Machine.state g.M.Machine.frame g.M.Machine.ran (site_of c.args.site.now) c.args.resource c.args.chain.now c.args.place (omega arith)
    c.args.machine.now c.count.new.self c.requires.listeners (sym c.is_full.ensures ∙ c.if-is_full.false) c.count.ensures c.before-2.new.self c.in-Ok-before.gate c.in-Ok-before.ensures
    c.in-Failed.kind c.in-Failed.text c.fail.new.machine (Some c.in-Ok-fail.ended) c.in-Failed.is c.in-Ok-fail.ensures
