use Rattle.std.proofs.Common.{◌≡◌, length, ap, ◌∙◌, rules}
use Rattle.sv_text.specs.declared.front.Cut.TheVariants.{Whole, Endless, Unended}
use Rattle.sv_wire.specs.declared.text_kind.TextKind.TheVariants as text
use Rattle.sv_wire.specs.declared.machine.Stage.TheVariants.{Trailer}
use Rattle.sv_wire.specs.Machine.{CutsOpen}
use Rattle.sv_wire.proofs.TextLemmas.{trailer_whole, trailer_endless, trailer_awaits, awaits_at}
use Rattle.sv_wire.proofs.machine.Machine.take_trailer.Goals as goal

pub returns-in-Whole : goal.returns-in-Whole
returns-in-Whole c =
    let held = c.args.self.now.held.items in
    let cuts : CutsOpen text.Trailer held c.args.text.now c.cut_open.new.self.held.items (Whole c.in-Whole.len) = rw c.in-Whole.is at c.in_ok-len.ensures.cut in
    let long : c.len-held.result ≡ length held = search rules in
    rw (long, c.in_ok-len.ensures.body) (trailer_whole c.args.self.now.body.items held c.args.text.now c.cut_open.new.self.held.items c.in-Whole.len cuts)

pub returns-in-Endless : goal.returns-in-Endless
returns-in-Endless c =
    let held = c.args.self.now.held.items in
    let cuts : CutsOpen text.Trailer held c.args.text.now c.cut_open.new.self.held.items Endless = rw c.in-Endless.is at c.in_ok-len.ensures.cut in
    let long : c.len-held.result ≡ length held = search rules in
    rw long (trailer_endless c.args.self.now.body.items held c.args.text.now c.cut_open.new.self.held.items cuts)

pub returns-in-Unended : goal.returns-in-Unended
returns-in-Unended c =
    let held = c.args.self.now.held.items in
    let bytes = c.args.self.now.body.items in
    let after = c.cut_open.new.self.held.items in
    let cuts : CutsOpen text.Trailer held c.args.text.now after Unended = rw c.in-Unended.is at c.in_ok-len.ensures.cut in
    awaits_at Trailer Trailer held bytes after bytes c.args.text.now c.cut_open.new.self
    (c.in_ok-len.ensures.stage ∙ c.requires.stage) (λ i. after) (ap (λ v. v.items) c.in_ok-len.ensures.body)
    (trailer_awaits bytes held c.args.text.now after cuts)
