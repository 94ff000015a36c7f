-- The step of a servlet, and the gate of a filter, after a fault (Jakarta Servlet 6.0, sections 2.3.3 and 10.9).
use Rattle.std.specs.Prelude.{◌≡◌, ◌⊎◌, ℕ, List, Result, Ok, Err, codes}
use Rattle.sv_component.specs.declared.answers.Gate.{Gate}
use Rattle.sv_component.specs.declared.answers.Gate.TheVariants as gates
use Rattle.sv_component.specs.declared.answers.Step.{Step}
use Rattle.sv_component.specs.declared.answers.Step.TheVariants as steps
use Rattle.sv_exchange.specs.declared.exchange_fault.ExchangeFault.{ExchangeFault}
use Rattle.sv_exchange.specs.declared.exchange_fault.ExchangeFault.TheVariants as refusals
use Rattle.sv_exchange.specs.Fault.{fault_name}
use Rattle.sv_web.specs.declared.fault.Fault.{Fault}
use Rattle.sv_web.specs.declared.fault.Fault.TheVariants as faults

-- a call of the exchange that was refused
abbrev pub fault_from : ExchangeFault → Fault
fault_from refusals.NoMemory = faults.NoMemory
fault_from refused = faults.Refused refused

-- a failure of this kind
abbrev pub failed : List ℕ → Step
failed kind = steps.Failed kind kind

-- the step of a fault; only running out of memory gives `NoMemory`
abbrev pub failure_of : Fault → Step
failure_of faults.NoMemory = steps.NoMemory
failure_of (faults.Refused refused) = failed (fault_name refused)
failure_of faults.BadLocation = failed (codes "BadLocation")
failure_of faults.BadCookie = failed (codes "BadCookie")
failure_of (faults.Error code text) = steps.Error code text
failure_of (faults.Failed kind text) = steps.Failed kind text

-- the given step, or the step of the fault; `NoMemory` if memory ran out for its text
abbrev pub IsStepOf : Result Step Fault → Step → Type 0
IsStepOf (Ok found) step = step ≡ found
IsStepOf (Err fault) step = (step ≡ failure_of fault) ⊎ (step ≡ steps.NoMemory)

-- a filter's failure of this kind
abbrev pub shut : List ℕ → Gate
shut kind = gates.Failed kind kind

-- the gate of a fault; only running out of memory gives `NoMemory`, and an error is a failure
abbrev pub shut_by : Fault → Gate
shut_by faults.NoMemory = gates.NoMemory
shut_by (faults.Refused refused) = shut (fault_name refused)
shut_by faults.BadLocation = shut (codes "BadLocation")
shut_by faults.BadCookie = shut (codes "BadCookie")
shut_by (faults.Error code text) = gates.Failed (codes "Error") text
shut_by (faults.Failed kind text) = gates.Failed kind text

-- the given gate, or the gate of the fault; `NoMemory` if memory ran out for its text
abbrev pub IsGateOf : Result Gate Fault → Gate → Type 0
IsGateOf (Ok found) gate = gate ≡ found
IsGateOf (Err fault) gate = (gate ≡ shut_by fault) ⊎ (gate ≡ gates.NoMemory)
