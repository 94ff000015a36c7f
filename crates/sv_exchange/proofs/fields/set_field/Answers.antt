use Rattle.std.proofs.Common.{◌≡◌, rules, sym}
use Rattle.sv_exchange.specs.Fields.{field_of}
use Rattle.sv_exchange.proofs.Replacing.{set_field_found, set_field_missed}
use Rattle.sv_exchange.proofs.fields.set_field.Goals as goal

pub returns-in-Some-place_of-clause-set : goal.returns-in-Some-place_of-clause-set
returns-in-Some-place_of-clause-set c =
    let same : c.in-Some.field ≡ field_of c.args.name.now c.args.value.now = search rules in
    rw (c.put_for_all.ensures, same)
    (set_field_found c.args.name.now c.args.value.now c.args.fields.now.items c.in-Some-place_of.place (sym (rw c.deref.ensures.value at c.in-Some-place_of.ensures.place)))

pub returns-in_ok-push-in-None-clause-set : goal.returns-in_ok-push-in-None-clause-set
returns-in_ok-push-in-None-clause-set c =
    let same : c.in-Some.field ≡ field_of c.args.name.now c.args.value.now = search rules in
    rw (c.in_ok-push-in-None.ensures.items, same)
    (sym (set_field_missed c.args.name.now c.args.value.now c.args.fields.now.items (sym (rw c.deref.ensures.value at c.in-None.ensures.place))))
