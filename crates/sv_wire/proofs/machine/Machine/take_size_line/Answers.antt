use Rattle.std.proofs.Common.{◌≡◌, ◌-◌, length, take, sym, ap, ◌∙◌, rules}
use Rattle.sv_text.specs.declared.front.Cut.TheVariants.{Whole, Endless, Unended}
use Rattle.sv_wire.specs.declared.text_kind.TextKind.TheVariants as text
use Rattle.sv_wire.specs.declared.machine.Stage.TheVariants.{SizeLine}
use Rattle.sv_wire.specs.Chunks.{ReadsSize}
use Rattle.sv_wire.specs.Machine.{CutsOpen, BeginsChunk}
use Rattle.sv_wire.proofs.TextLemmas.{line_steps, line_endless, line_awaits, awaits_at}
use Rattle.sv_wire.proofs.machine.Machine.take_size_line.Goals as goal

pub returns-in-Whole : goal.returns-in-Whole
returns-in-Whole c =
    let held = c.args.self.now.held.items in
    let body = c.args.self.now.body.items in
    let after = c.cut_open.new.self.held.items in
    let cuts : CutsOpen text.SizeLine held c.args.text.now after (Whole c.in-Whole.len) = rw c.in-Whole.is at c.in_ok-len.ensures.cut in
    let line : c.deref.result.now ≡ after = search rules in
    let reads : ReadsSize (take c.in-Whole.len after) c.read_size-size.result =
    rw (sym line) c.read_size-size.ensures in
    let long : c.len-held.result ≡ length held = search rules in
    let begins : BeginsChunk body c.read_size-size.result (c.in-Whole.len - length held) c.begin_chunk.result c.begin_chunk.new.self =
    rw (sym long, sym (ap (λ v. v.items) c.in_ok-len.ensures.body)) c.begin_chunk.ensures in
    line_steps body held c.args.text.now after c.in-Whole.len c.read_size-size.result c.begin_chunk.result c.begin_chunk.new.self cuts reads begins

pub returns-in-Endless : goal.returns-in-Endless
returns-in-Endless c =
    let held = c.args.self.now.held.items in
    let cuts : CutsOpen text.SizeLine held c.args.text.now c.cut_open.new.self.held.items Endless = rw c.in-Endless.is at c.in_ok-len.ensures.cut in
    let long : c.len-held.result ≡ length held = search rules in
    rw long (line_endless c.args.self.now.body.items held c.args.text.now c.cut_open.new.self.held.items cuts)

pub returns-in-Unended : goal.returns-in-Unended
returns-in-Unended c =
    let held = c.args.self.now.held.items in
    let bytes = c.args.self.now.body.items in
    let after = c.cut_open.new.self.held.items in
    let cuts : CutsOpen text.SizeLine held c.args.text.now after Unended = rw c.in-Unended.is at c.in_ok-len.ensures.cut in
    awaits_at SizeLine SizeLine held bytes after bytes c.args.text.now c.cut_open.new.self
    (c.in_ok-len.ensures.stage ∙ c.requires.stage) (λ i. after) (ap (λ v. v.items) c.in_ok-len.ensures.body)
    (line_awaits bytes held c.args.text.now after cuts c.requires.fit.1)
