use Rattle.std.proofs.Common.{subst, IsTrue, None, OnErr, Some, if◌then◌else◌}
use Rattle.sv_text.specs.Gives.{GivesAnswer}
use Rattle.sv_exchange.specs.Fields.{field_of}
use Rattle.sv_exchange.proofs.Testing.{tests_field}
use Rattle.sv_exchange.proofs.fields.field_of.Goals as goal

pub returns-clause-found : goal.returns-clause-found
returns-clause-found c =
    subst (λ test. GivesAnswer c.checked_copy_of.result (if test then Some (field_of c.args.name.now c.args.value.now) else None))
    (tests_field c.args.name.now c.args.value.now)
    (rw (c.as_bytes.ensures.value, c.as_bytes-2.ensures.value) at c.checked_copy_of.ensures.found)

pub returns-clause-no_memory : goal.returns-clause-no_memory
returns-clause-no_memory c =
    subst (λ test. OnErr c.checked_copy_of.result (IsTrue test))
    (tests_field c.args.name.now c.args.value.now)
    (rw (c.as_bytes.ensures.value, c.as_bytes-2.ensures.value) at c.checked_copy_of.ensures.no_memory)
