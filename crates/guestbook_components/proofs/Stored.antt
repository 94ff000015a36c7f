-- A property that passes from one result to another.
use Rattle.std.proofs.Common.{◌≡◌, Result, Ok, Err, IfOk, OnOk}

pub passes : {T E F : Type 0} (result : Result T F) (answer : Result T E) (P : Type 0) → IfOk result (λ value. answer ≡ Ok value) → OnOk answer P → OnOk result P
passes (Ok value) answer P was holds = rw was at holds
passes (Err fault) answer P was holds = tt
