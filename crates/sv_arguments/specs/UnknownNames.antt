-- The line about a word that is none of the known names.
use Rattle.std.specs.Prelude.{ℕ, List, [], ◌∷◌, ◌++◌, codes, Option, Some, None}
use Rattle.sv_arguments.specs.Near.{near}
use Rattle.sv_arguments.specs.Topics.{topic_names}
use Rattle.sv_program.specs.Shown.{quoted}

-- the near name, or else where the names are listed
abbrev pub hint : Option (List ℕ) → List ℕ → List ℕ
hint (Some name) listing = codes "did you mean \"" ++ name ++ codes "\"?"
hint None listing = listing

abbrev pub unknown_word : List (List ℕ) → List ℕ → List ℕ
unknown_word known word =
    codes "  there is no command " ++ quoted word ++ codes "; "
    ++ hint (near known word) (codes "\"sv help\" lists the commands")

-- the long options that call a command; `-h` is near to each word of two characters
abbrev pub calling_options : List (List ℕ)
calling_options = codes "--help" ∷ codes "--version" ∷ []

-- the line about a word in place of a command, which may also be one of these options
abbrev pub unknown_command : List ℕ → List ℕ
unknown_command word = unknown_word (topic_names ++ calling_options) word

-- the line about a word after `help`, which also knows `config`
abbrev pub unknown_topic : List ℕ → List ℕ
unknown_topic word = unknown_word (topic_names ++ codes "config" ∷ []) word
