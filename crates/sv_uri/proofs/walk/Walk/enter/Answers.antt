use Rattle.std.proofs.Common.{ap, sym, ◌∙◌}
use Rattle.std.proofs.lemmas.List.{map-append}
use Rattle.sv_uri.specs.Name.{bytes_of}
use Rattle.sv_uri.specs.Segment.{is_parent}
use Rattle.sv_uri.specs.DotSegments.{is_idle}
use Rattle.sv_uri.proofs.DotSegmentLemmas.{IsLeftOf-parent, IsLeftOf-idle, IsLeftOf-name, popped}
use Rattle.sv_uri.proofs.walk.Walk.enter.Goals as goal

pub returns-then-is_parent : goal.returns-then-is_parent
returns-then-is_parent c = λ seen before.
    let parent = sym (c.if-is_parent.ensures ∙ ap is_parent c.as_slice-bytes.ensures.value) in
    let left = popped bytes_of c.args.self.now.names.items c.pop.new.self.items c.pop.result c.is_none.result c.pop.ensures.items c.pop.ensures.rest c.pop.ensures.variant c.is_none.ensures in
    IsLeftOf-parent _ _ _ _ _ seen _ parent left.0 left.1 before

pub returns-then-is_idle : goal.returns-then-is_idle
returns-then-is_idle c = λ seen before.
    let idle = sym (c.if-is_idle.ensures ∙ ap is_idle c.as_slice-bytes.ensures.value) in
    IsLeftOf-idle _ _ _ seen _ idle before

pub returns-in_ok-push : goal.returns-in_ok-push
returns-in_ok-push c = λ seen before.
    let other = sym (c.if-is_parent.ensures ∙ ap is_parent c.as_slice-bytes.ensures.value) in
    let busy = sym (c.if-is_idle.ensures ∙ ap is_idle c.as_slice-bytes.ensures.value) in
    rw (c.in_ok-push.ensures.ok, map-append) (IsLeftOf-name _ _ _ seen _ other busy before)
