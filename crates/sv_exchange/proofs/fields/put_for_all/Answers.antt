use Rattle.std.proofs.Common.{◌≡◌, ap, arith, length, rules}
use Rattle.std.proofs.lemmas.Fn.{filter_same}
use Rattle.sv_exchange.specs.Fields.{without}
use Rattle.sv_exchange.proofs.Replacing.{less}
use Rattle.sv_exchange.proofs.fields.put_for_all.Goals as goal

pub insert-room-requires : goal.insert-room-requires
insert-room-requires c =
    let kept : c.retain.new.self.items ≡ without c.args.name.now c.args.fields.now.items = filter_same _ _ _ (λ x b f' k. search rules) _ _ c.retain.ensures.filtered in
    let room = less c.args.name.now c.args.name.now c.args.fields.now.items c.args.place c.requires in
    omega (arith, room.0, ap length kept, c.retain.new.self.ok.0)

pub returns : goal.returns
returns c =
    let kept : c.retain.new.self.items ≡ without c.args.name.now c.args.fields.now.items = filter_same _ _ _ (λ x b f' k. search rules) _ _ c.retain.ensures.filtered in
    let room = less c.args.name.now c.args.name.now c.args.fields.now.items c.args.place c.requires in
    let within = c.insert-room.ensures.succeeds (omega (arith, room.1, ap length kept, c.retain.new.self.ok.0, c.args.fields.now.ok.0, c.args.fields.now.ok.1, c.retain.ensures.capacity)) in
    grind (arith, c.insert-room.ensures.items, within, kept)
