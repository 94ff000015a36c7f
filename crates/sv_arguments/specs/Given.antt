-- The options of a command, as the words that give them.
use Rattle.std.specs.Prelude.{◌≡◌, ℕ, List, [], ◌∷◌, ◌++◌, Option, Some, None, map}
use denote.Ref.{Bor}
use Rattle.sv_arguments.specs.Options.{AreComplete, AreProper}
use Rattle.sv_arguments.specs.Settings.{Setting, setting_words, words_of}
use Rattle.sv_arguments.specs.declared.option_set.OptionSet.{OptionSet}

-- the first of the words, if there is one
abbrev pub IsFirst : List (List ℕ) → Option (Bor (List ℕ)) → Type 0
IsFirst [] None = Unit {0}
IsFirst (word ∷ words) (Some value) = value.now ≡ word
IsFirst words found = ⊥

-- the words are those of proper settings
abbrev pub AreOf : OptionSet → List (List ℕ) → List Setting → Type 0
AreOf set words settings = (words ≡ words_of settings) × AreProper set settings

-- the words are those of complete settings
abbrev pub AreAllOf : OptionSet → List (List ℕ) → List Setting → Type 0
AreAllOf set words settings = (words ≡ words_of settings) × AreComplete set settings

-- the words are a setting, which may follow these, and further words
abbrev pub IsNext : OptionSet → List Setting → List (List ℕ) → List (List ℕ) → Type 0
IsNext set settings words rest =
    (setting : Setting) × (words ≡ setting_words setting ++ rest) × AreProper set (settings ++ setting ∷ [])

-- the value and the remaining words are these
abbrev pub IsSplit : {S : Type 0} → (S → List ℕ) → List ℕ → List (List ℕ) → Option (Bor (List ℕ) × Bor (List S)) → Type 0
IsSplit text value rest (Some (found, others)) = (found.now ≡ value) × (map text others.now ≡ rest)
IsSplit text value rest None = ⊥
