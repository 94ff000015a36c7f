use Rattle.std.proofs.Common.{◌≡◌, ◌-◌, ◌<◌, ◌≤◌, ◌++◌, [], refl, false, true, length, take, min, rules}
use Rattle.std.specs.Str.{bytes_eq}
use Rattle.httparse.specs.Ascii.{crlf_bytes}
use Rattle.sv_wire.proofs.MachineLemmas.{end_awaits, end_breaks, end_moves}
use Rattle.sv_wire.specs.declared.machine.Stage.TheVariants.{DataEnd}
use Rattle.sv_wire.proofs.TextLemmas.{awaits_at}
use Rattle.sv_wire.proofs.machine.Machine.take_data_end.Goals as goal

pub returns-then-ne : goal.returns-then-ne
returns-then-ne c =
    let held = c.args.self.now.held.items in
    let after = c.extend_from_slice.new.self.items in
    let here : c.min-here.result ≡ min (length c.args.text.now) (2 - length held) = search rules in
    let is : after ≡ held ++ take c.min-here.result c.args.text.now = search rules in
    let full : 2 ≤ length after = search rules in
    let other : bytes_eq after crlf_bytes ≡ false = search rules in
    end_breaks c.args.self.now.body.items held c.args.text.now after c.min-here.result here c.requires.fit.0 is full other

pub returns : goal.returns
returns c =
    let held = c.args.self.now.held.items in
    let after = c.extend_from_slice.new.self.items in
    let here : c.min-here.result ≡ min (length c.args.text.now) (2 - length held) = search rules in
    let is : after ≡ held ++ take c.min-here.result c.args.text.now = search rules in
    let full : 2 ≤ length after = search rules in
    let same : bytes_eq after crlf_bytes ≡ true = search rules in
    let none : c.clear.new.self.items ≡ [] = search rules in
    rw none (end_moves c.args.self.now.body.items held c.args.text.now after c.min-here.result here c.requires.fit.0 is full same c.requires.fit.1)

pub returns-then-len-lt2 : goal.returns-then-len-lt2
returns-then-len-lt2 c =
    let held = c.args.self.now.held.items in
    let bytes = c.args.self.now.body.items in
    let after = c.extend_from_slice.new.self.items in
    let here : c.min-here.result ≡ min (length c.args.text.now) (2 - length held) = search rules in
    let is : after ≡ held ++ take c.min-here.result c.args.text.now = search rules in
    let short : length after < 2 = search rules in
    awaits_at DataEnd DataEnd held bytes after bytes c.args.text.now
    (record { stage = c.args.self.now.stage; held = c.extend_from_slice.new.self; body = c.args.self.now.body }) c.requires.stage refl refl
    (end_awaits bytes held c.args.text.now after c.min-here.result here c.requires.fit.0 is short c.requires.fit.1)
