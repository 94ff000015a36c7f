-- The settled sessions of the code, completed by the store.
use Rattle.sv_session.specs.Store.{Store}
use Rattle.sv_admission.specs.Settled.{Settled}
use Rattle.sv_admission.specs.declared.sessions.Settled as code

abbrev pub seen : Store → code.Settled → Settled
seen store settled = record { store = store; session = settled.session; is_renewed = settled.is_renewed; event = settled.event }
