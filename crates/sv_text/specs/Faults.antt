-- Faults in the order in which they are judged. Each test gives a list, the lists are joined, and the first fault is
-- reported.
use Rattle.std.specs.Prelude.{Bool, List, [], ◌∷◌, if◌then◌else◌, Result, Ok, Err}

-- The fault if the test holds, else none.
abbrev pub when : {F : Type 0} → Bool → F → List F
when test fault = if test then fault ∷ [] else []

-- The first of the faults, or the answer if there is none.
abbrev pub first_or : {A F : Type 0} → List F → A → Result A F
first_or [] answer = Ok answer
first_or (fault ∷ _) answer = Err fault
