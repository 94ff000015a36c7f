-- Arguments of the program.
use Rattle.std.specs.Prelude.{◌≡◌, ℕ, List, [], ◌∷◌, Option, IfSome, IsSome, option_copied, option_to_list}
use denote.Ref.{Bor}

-- if there is a result, the arguments are its words; arguments that are the words of any value have a result
abbrev pub Names : {C : Type 0} → (C → List (List ℕ)) → List (List ℕ) → Option C → Type 0
Names {C} words arguments found =
    IfSome found (λ named. arguments ≡ words named) × ((named : C) → arguments ≡ words named → IsSome found)

-- the words of an optional argument
abbrev pub optional_words : Option (Bor (List ℕ)) → List (List ℕ)
optional_words argument = option_to_list (option_copied argument)

-- the words of one argument
abbrev pub name_words : Bor (List ℕ) → List (List ℕ)
name_words name = name.now ∷ []
