-- Responses sent as a whole (Jakarta Servlet 6.0, sections 5.1 and 5.2).
use Rattle.std.specs.Prelude.{ℕ, List, [], ◌∷◌, codes, Result}
use Rattle.sv_exchange.specs.Changing.{SetHeader, Write, after_all, answer}
use Rattle.sv_exchange.specs.State.{State}
use Rattle.sv_exchange.specs.declared.exchange_fault.ExchangeFault.{ExchangeFault}
use Rattle.sv_web.specs.Answering.{both}

-- the type is set, then the bytes are written
abbrev pub sent : List ℕ → List ℕ → State → State
sent content_type bytes before = after_all (SetHeader (codes "content-type") content_type ∷ Write bytes ∷ []) before

-- the result of the two calls
abbrev pub sent_answer : List ℕ → List ℕ → State → Result (Unit {0}) ExchangeFault
sent_answer content_type bytes before =
    both (answer (SetHeader (codes "content-type") content_type) before)
    (answer (Write bytes) (after_all (SetHeader (codes "content-type") content_type ∷ []) before))
