use Rattle.std.proofs.Common.{◌≡◌, ◌-◌, ◌++◌, length, take, min, ap, ◌∙◌, rules}
use Rattle.sv_wire.specs.Chunks.{text_limit, cut_text}
use Rattle.sv_wire.proofs.OpenLemmas.{fronts_open, cuts_open}
use Rattle.sv_wire.proofs.machine.Machine.cut_open.Goals as goal

pub cut_front-requires : goal.cut_front-requires
cut_front-requires c =
    let held = c.args.self.now.held.items in
    let here : c.min-here.result ≡ min (length c.args.text.now) (text_limit c.args.kind - length held) = search rules in
    let same : c.deref.result.now ≡ held ++ take c.min-here.result c.args.text.now = search rules in
    let long : c.len-held.result ≡ length held = search rules in
    rw (same, long) (fronts_open c.args.kind held c.args.text.now c.min-here.result c.requires here)

pub returns-clause-cut : goal.returns-clause-cut
returns-clause-cut c =
    let held = c.args.self.now.held.items in
    let here : c.min-here.result ≡ min (length c.args.text.now) (text_limit c.args.kind - length held) = search rules in
    let same : c.deref.result.now ≡ held ++ take c.min-here.result c.args.text.now = search rules in
    let after : c.extend_from_slice.new.self.items ≡ held ++ take c.min-here.result c.args.text.now = search rules in
    let found : c.cut_front.result ≡ cut_text c.args.kind (held ++ take c.min-here.result c.args.text.now) = c.cut_front.ensures ∙ ap (cut_text c.args.kind) same in
    rw after (cuts_open c.args.kind held c.args.text.now c.min-here.result c.requires here c.cut_front.result found)
