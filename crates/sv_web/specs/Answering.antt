-- Results of functions that combine calls of an exchange, unless memory ran out (Jakarta Servlet 6.0, chapter 5).
use Rattle.std.specs.Prelude.{Bool, Option, None, Some, Result, Ok, Err}
use Rattle.sv_exchange.specs.declared.exchange_fault.ExchangeFault.{ExchangeFault}
use Rattle.sv_exchange.specs.declared.exchange_fault.ExchangeFault.TheVariants as refusals
use Rattle.sv_web.specs.Fault.{fault_from}
use Rattle.sv_web.specs.declared.fault.Fault.{Fault}
use Rattle.sv_web.specs.declared.fault.Fault.TheVariants as faults

-- the fault of a call, unless memory ran out
abbrev pub call_fault : ExchangeFault → Option ExchangeFault
call_fault refusals.NoMemory = None
call_fault refused = Some refused

-- the fault of an author's function, unless memory ran out
abbrev pub told_fault : Fault → Option Fault
told_fault faults.NoMemory = None
told_fault fault = Some fault

-- the result of a call, as that of an author's function
abbrev pub told : Result Bool ExchangeFault → Result Bool Fault
told (Ok done) = Ok done
told (Err refused) = Err (fault_from refused)

-- the same without the value of a successful call
abbrev pub done_told : Result Bool ExchangeFault → Result (Unit {0}) Fault
done_told (Ok done) = Ok tt
done_told (Err refused) = Err (fault_from refused)

-- the result of two calls, or the first refusal
abbrev pub both : Result Bool ExchangeFault → Result Bool ExchangeFault → Result (Unit {0}) ExchangeFault
both (Err refused) second = Err refused
both (Ok done) (Err refused) = Err refused
both (Ok done) (Ok more) = Ok tt
