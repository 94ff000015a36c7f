use Rattle.std.proofs.Common.{◌≡◌, drop, ap, ◌∙◌, subst}
use Rattle.std.proofs.lemmas.List.{take_rest}
use Rattle.sv_wire.specs.declared.machine.Step.TheVariants.{Stopped}
use Rattle.sv_wire.specs.declared.machine.Stop.TheVariants.{Complete, Broken}
use Rattle.sv_wire.specs.Machine.{StepsTo}
use Rattle.sv_wire.proofs.TextLemmas.{run_stops}
use Rattle.sv_wire.proofs.machine.Machine.run.Goals as goal

pub returns-in-Stopped-Complete : goal.returns-in-Stopped-Complete
returns-in-Stopped-Complete c =
    let old = c.args.self.now in
    let now = c.loop-count.self in
    let text = c.args.text.now in
    let at = c.loop-count.at in
    let is : c.in_ok-count.field-0 ≡ Stopped (Complete c.in-Stopped-Complete.count) = c.in-Stopped-Complete.is ∙ ap Stopped c.in-Stopped-Complete.field-0-is in
    let stops : StepsTo now (drop at text) (Stopped (Complete c.in-Stopped-Complete.count)) c.step.new.self =
    subst (λ s. StepsTo now (drop at text) s c.step.new.self) is
    (subst (λ t. StepsTo now t c.in_ok-count.field-0 c.step.new.self) (take_rest text at) c.in_ok-count.ensures) in
    run_stops old.stage now.stage old.body.items old.held.items now.held.items now.body.items text at c.loop-count.invariant.2
    c.loop-count.invariant.0 (Complete c.in-Stopped-Complete.count) c.step.new.self stops

pub returns-in-Stopped-Broken : goal.returns-in-Stopped-Broken
returns-in-Stopped-Broken c =
    let old = c.args.self.now in
    let now = c.loop-count.self in
    let text = c.args.text.now in
    let at = c.loop-count.at in
    let is : c.in_ok-count.field-0 ≡ Stopped (Broken c.in-Stopped-Broken.fault c.in-Stopped-Broken.count) =
    c.in-Stopped-Broken.is ∙ ap Stopped c.in-Stopped-Broken.field-0-is in
    let stops : StepsTo now (drop at text) (Stopped (Broken c.in-Stopped-Broken.fault c.in-Stopped-Broken.count)) c.step.new.self =
    subst (λ s. StepsTo now (drop at text) s c.step.new.self) is
    (subst (λ t. StepsTo now t c.in_ok-count.field-0 c.step.new.self) (take_rest text at) c.in_ok-count.ensures) in
    run_stops old.stage now.stage old.body.items old.held.items now.held.items now.body.items text at c.loop-count.invariant.2
    c.loop-count.invariant.0 (Broken c.in-Stopped-Broken.fault c.in-Stopped-Broken.count) c.step.new.self stops
