use Rattle.std.proofs.Common.{sym}
use Rattle.sv_exchange.proofs.Replacing.{set_value_found, set_value_missed}
use Rattle.sv_exchange.proofs.attributes.set_value.Goals as goal

pub returns-in-Some-clause-set : goal.returns-in-Some-clause-set
returns-in-Some-clause-set c = rw (c.in_ok-copy_of.ensures, c.in_ok-copy_of-2.ensures)
    (sym (set_value_found c.args.name.now c.args.value.now c.args.attributes.now.items c.in-Some.place (sym (rw c.deref.ensures.value at c.in-Some.ensures.place))))

pub returns-in_ok-push-in-None-clause-set : goal.returns-in_ok-push-in-None-clause-set
returns-in_ok-push-in-None-clause-set c = rw (c.in_ok-push-in-None.ensures.items, c.in_ok-copy_of.ensures, c.in_ok-copy_of-2.ensures)
    (sym (set_value_missed c.args.name.now c.args.value.now c.args.attributes.now.items (sym (rw c.deref.ensures.value at c.in-None.ensures.place))))
