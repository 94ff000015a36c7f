use Rattle.std.proofs.Common.{◌/◌, length, arith}
use Rattle.sv_readiness.specs.Signals.{is_stop, signal_number}
use Rattle.sv_readiness.proofs.SignalLemmas.{among}
use Rattle.sv_readiness.proofs.laws.a_stop_has_a_record.Goals as goal

pub returns : goal.returns
returns c = λ bytes asks. among (λ signal. is_stop (signal_number signal)) (length bytes / 128) bytes (omega arith) asks
