-- What is wrong with the arguments of a command that has options.
use Rattle.std.specs.Prelude.{◌≡◌, ◌≢◌, ℕ, List, [], ◌∷◌, ◌++◌, true, Some, None}
use Rattle.sv_arguments.specs.Options.{AreProper, HasUnfit, IsValue}
use Rattle.sv_arguments.specs.Settings.{Setting, IsKey, first_lone, given_rival, key_word, needed, set_of, takes_word, values, words_of}
use Rattle.sv_arguments.specs.declared.key.Key.{Key}
use Rattle.sv_arguments.specs.declared.option_fault.OptionFault.{OptionFault}
use Rattle.sv_arguments.specs.declared.option_fault.OptionFault.TheVariants.{NoServer, Unknown, Twice, Excluded, NoValue, BadValue, Alone, Unfit}
use Rattle.sv_arguments.specs.declared.option_set.OptionSet.{OptionSet}

-- the command has this option, and it may follow these settings
abbrev pub IsFree : OptionSet → List Setting → Key → Type 0
IsFree set settings key =
    (set_of key ≡ set) × (values key settings ≡ []) × (given_rival settings key ≡ None)

-- the words after these settings begin with this fault
abbrev pub IsWrong : OptionSet → List Setting → List (List ℕ) → OptionFault → Type 0
IsWrong set settings words NoServer = ⊥
IsWrong set settings words (Unknown word) =
    (after : List (List ℕ)) × (words ≡ word.now ∷ after) × ((key : Key) → IsKey set word.now key → ⊥)
IsWrong set settings words (Twice key) =
    (after : List (List ℕ)) × (words ≡ key_word key ∷ after) × (set_of key ≡ set) × (values key settings ≢ [])
IsWrong set settings words (Excluded key other) =
    (after : List (List ℕ)) × (words ≡ key_word key ∷ after) × (set_of key ≡ set) × (values key settings ≡ [])
    × (given_rival settings key ≡ Some other)
IsWrong set settings words (NoValue key) = (words ≡ key_word key ∷ []) × IsFree set settings key × (takes_word key ≡ true)
IsWrong set settings words (BadValue key value) =
    (after : List (List ℕ)) × (words ≡ key_word key ∷ value.now ∷ after) × IsFree set settings key × (takes_word key ≡ true)
    × (IsValue key value.now → ⊥)
IsWrong set settings words (Alone key other) = ⊥
IsWrong set settings words (Unfit form) = ⊥

-- the option is the first of the command that is given without the one that it needs, which is the other
abbrev pub Lacks : OptionSet → List Setting → Key → Key → Type 0
Lacks set settings key other = (first_lone set settings ≡ Some key) × (needed key ≡ Some other)

-- an option, and the one that it lacks
abbrev pub IsLone : OptionSet → List Setting → Key × Key → Type 0
IsLone set settings pair = Lacks set settings pair.0 pair.1

-- there is no server file; or the words after its name are those of proper settings, followed by words with this fault; or
-- they are those of proper settings, and an option lacks another, or another server excludes the form
abbrev pub IsRefused : OptionSet → List (List ℕ) → OptionFault → Type 0
IsRefused set arguments NoServer = arguments ≡ []
IsRefused set arguments (Alone key other) =
    (config : List ℕ) × (settings : List Setting)
    × (arguments ≡ config ∷ words_of settings) × AreProper set settings × Lacks set settings key other
IsRefused set arguments (Unfit form) =
    (config : List ℕ) × (settings : List Setting)
    × (arguments ≡ config ∷ words_of settings) × AreProper set settings × HasUnfit settings form
IsRefused set arguments fault =
    (config : List ℕ) × (settings : List Setting) × (rest : List (List ℕ))
    × (arguments ≡ config ∷ (words_of settings ++ rest)) × AreProper set settings × IsWrong set settings rest fault
