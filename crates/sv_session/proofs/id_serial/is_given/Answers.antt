use Rattle.sv_session.proofs.SerialLemmas.{given_up_to}
use Rattle.sv_session.proofs.id_serial.is_given.Goals as goal

pub returns : goal.returns
returns c =
    given_up_to c.args.id.now c.as_bytes.result.now c.args.bound c.in-Some.serial c.ranges.bound.fits c.in-Some.ensures.0 c.as_bytes.ensures.value c.in-Some.ensures.1 c.in-Some.ensures.2
