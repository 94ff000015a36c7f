-- The response to a request by its method (Jakarta Servlet 6.0, section 2.1.1; RFC 9110, sections 9.3, 10.2.1 and
-- 15.5.6).
use Rattle.std.specs.Prelude.{ℕ, Bool, ◌||◌, List, [], ◌∷◌, ◌++◌, Option, None, Some, bytes_eq, codes, find, if◌then◌else◌, Result, Ok, Err}
use Rattle.std.specs.List.{flat_map}
use Rattle.sv_exchange.specs.Changing.{SetHeader, SetStatus, after_all, answer}
use Rattle.sv_exchange.specs.State.{State}
use Rattle.sv_web.specs.Answering.{done_told}
use Rattle.sv_web.specs.declared.fault.Fault.{Fault}
use Rattle.sv_web.specs.declared.methods.Verb.{Verb}
use Rattle.sv_web.specs.declared.methods.Verb.TheVariants.{Get, Post, Put, Patch, Delete}

-- whether a request of this method selects the verb; HEAD selects GET
abbrev pub answers : List ℕ → Verb → Bool
answers method Get = bytes_eq method (codes "GET") || bytes_eq method (codes "HEAD")
answers method Post = bytes_eq method (codes "POST")
answers method Put = bytes_eq method (codes "PUT")
answers method Patch = bytes_eq method (codes "PATCH")
answers method Delete = bytes_eq method (codes "DELETE")

-- the first allowed verb that the method selects
abbrev pub asked_for : List ℕ → List Verb → Option Verb
asked_for method allowed = find (λ verb. answers method verb) allowed

-- the field `allow`: the methods that select each verb, and OPTIONS
abbrev pub names_of : Verb → List ℕ
names_of Get = codes "GET, HEAD, "
names_of Post = codes "POST, "
names_of Put = codes "PUT, "
names_of Patch = codes "PATCH, "
names_of Delete = codes "DELETE, "

abbrev pub allow_text : List Verb → List ℕ
allow_text allowed = flat_map names_of allowed ++ codes "OPTIONS"

-- the status of a request that selects no verb; OPTIONS requests the allowed methods
abbrev pub refusal_status : List ℕ → ℕ
refusal_status method = if bytes_eq method (codes "OPTIONS") then 204 else 405

-- if no verb is selected, the response is made; otherwise nothing changes
abbrev pub left_without : Option Verb → List Verb → State → State
left_without (Some verb) allowed before = before
left_without None allowed before =
    after_all (SetStatus (refusal_status before.method) ∷ SetHeader (codes "allow") (allow_text allowed) ∷ []) before

-- the result of making the response for no verb
abbrev pub refusal_answer : List Verb → State → Result (Unit {0}) Fault
refusal_answer allowed before =
    done_told (answer (SetHeader (codes "allow") (allow_text allowed)) (after_all (SetStatus (refusal_status before.method) ∷ []) before))

abbrev pub none_told : Result (Unit {0}) Fault → Result (Option Verb) Fault
none_told (Ok done) = Ok None
none_told (Err fault) = Err fault

-- the selected verb, or none after the response for no verb was made
abbrev pub asked_answer : Option Verb → List Verb → State → Result (Option Verb) Fault
asked_answer (Some verb) allowed before = Ok (Some verb)
asked_answer None allowed before = none_told (refusal_answer allowed before)
