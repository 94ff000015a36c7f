-- The effect of calls on the servlet `Application` and on its exchanges.
use Rattle.std.specs.Prelude.{◌≡◌, ℕ, Bool, true, false, not, ◌&&◌, ◌||◌, ◌==◌, List, [], ◌∷◌, codes, length, Result, Ok, Err}
use Rattle.std.specs.List.{list_all}
use Rattle.std.specs.Option.{unwrap_or}
use Rattle.std.specs.Str.{byte}
use Rattle.sv_application.specs.HandingOver.{HandsOver}
use Rattle.sv_component.specs.Call.{Call, Inited, Serviced, Destroyed}
use Rattle.sv_component.specs.Config.{param_of}
use Rattle.sv_component.specs.declared.answers.Init.{Init}
use Rattle.sv_component.specs.declared.answers.Init.TheVariants as inits
use Rattle.sv_component.specs.declared.answers.Step.{Step}
use Rattle.sv_component.specs.declared.answers.Step.TheVariants as steps
use Rattle.sv_component.specs.declared.config.Config.{Config}
use Rattle.sv_exchange.specs.Dispatches.{kind_of}
use Rattle.sv_exchange.specs.Fault.{fault_status}
use Rattle.sv_exchange.specs.State.{State}
use Rattle.sv_exchange.specs.declared.exchange_fault.ExchangeFault.{ExchangeFault}
use Rattle.sv_exchange.specs.declared.exchange_fault.ExchangeFault.TheVariants as faults
use Rattle.sv_mapping.specs.declared.kind.Kind.{Kind}
use Rattle.sv_mapping.specs.declared.kind.Kind.TheVariants as kinds
use Rattle.sv_uri.specs.LocationField.{is_letter_or_digit}

abbrev pub is_name_byte : ℕ → Bool
is_name_byte b = is_letter_or_digit b || b == byte "-" || b == byte "_"

-- an internal location: `@` and a name
abbrev pub is_location : List ℕ → Bool
is_location [] = false
is_location (first ∷ name) = first == byte "@" && not (length name == 0) && list_all is_name_byte name

-- the location that the configuration gives
abbrev pub location_in : Config → List ℕ
location_in config = unwrap_or (param_of (codes "location") config.params) (codes "@application")

-- an error with this status, unless memory ran out
abbrev pub IsError : ℕ → Step → Type 0
IsError status (steps.Error code text) = code ≡ status
IsError status steps.NoMemory = Unit {0}
IsError status step = ⊥

-- the location is kept if it is one, unless memory ran out
abbrev pub Inits : Config → List ℕ → Init → List ℕ → Type 0
Inits config before inits.Ready after = (is_location (location_in config) ≡ true) × (after ≡ location_in config)
Inits config before inits.Failed after = is_location (location_in config) ≡ false
Inits config before inits.NoMemory after = Unit {0}
Inits config before inits.Unavailable after = ⊥

-- the step of a request that was handed over, or refused with a fault
abbrev pub IsStepOf : Result (Unit {0}) ExchangeFault → Step → Type 0
IsStepOf (Ok done) step = step ≡ steps.Done
IsStepOf (Err faults.NoMemory) step = step ≡ steps.NoMemory
IsStepOf (Err fault) step = IsError (fault_status fault) step

-- the request of a client is handed over to the application at the location, or that is refused
abbrev pub ServesRequest : List ℕ → State → Step → State → Type 0
ServesRequest location before step after =
    (done : Result (Unit {0}) ExchangeFault) × IsStepOf done step × HandsOver location before done after

-- in any other dispatch nothing is handed over
abbrev pub Serves : Kind → List ℕ → State → Step → State → Type 0
Serves kinds.Request location before step after = ServesRequest location before step after
Serves kind location before step after = IsError 404 step × (after ≡ before)

-- the effect of a call, with the location before and after it
abbrev pub Steps : List ℕ → Call → List ℕ → Type 0
Steps before (Inited config init) after = Inits config before init after
Steps before (Serviced exchange turn step left) after = (after ≡ before) × Serves (kind_of exchange) before exchange step left
Steps before Destroyed after = after ≡ before
Steps before call after = Unit {0}
