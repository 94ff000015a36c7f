-- The second line about the words after `help`.
use Rattle.std.specs.Prelude.{◌≡◌, ℕ, Bool, ◌||◌, List, [], ◌∷◌, codes, if◌then◌else◌, Option, Some, None}
use Rattle.std.specs.Str.{bytes_eq}
use Rattle.sv_arguments.specs.Plain.{lacks_line, untaken_line}
use Rattle.sv_arguments.specs.Topics.{topic_name}
use Rattle.sv_arguments.specs.UnknownNames.{unknown_topic}
use Rattle.sv_arguments.specs.Values.{Finds}
use Rattle.sv_arguments.specs.declared.topic.Topic.{Topic}
use Rattle.sv_arguments.specs.declared.topic.Topic.TheVariants.{Help}

-- a form of the keys
abbrev pub is_keys_form : List ℕ → Bool
is_keys_form word = bytes_eq word (codes "man") || bytes_eq word (codes "md")

-- a form of the commands
abbrev pub is_commands_form : List ℕ → Bool
is_commands_form word = is_keys_form word || bytes_eq word (codes "bash")

-- of the words after `--format`, those from the first that is not taken
abbrev pub after_format : (List ℕ → Bool) → List (List ℕ) → List (List ℕ)
after_format is_form [] = []
after_format is_form (word ∷ words) = if is_form word then words else word ∷ words

-- of the words after `config`, the same
abbrev pub after_config : List (List ℕ) → List (List ℕ)
after_config [] = []
after_config (word ∷ words) =
    if bytes_eq word (codes "--format") then after_format is_keys_form words else word ∷ words

-- the line about the first word that `help` does not take, or about a missing one
abbrev pub untaken_help : List (List ℕ) → List ℕ
untaken_help [] = lacks_line Help
untaken_help (word ∷ words) = untaken_line (codes "help") Help word

-- the line about these words after `help`, of which the first names no command
abbrev pub other_line : List (List ℕ) → List ℕ
other_line [] = lacks_line Help
other_line (word ∷ words) =
    if bytes_eq word (codes "--format") then untaken_help (after_format is_commands_form words)
    else if bytes_eq word (codes "config") then untaken_help (after_config words)
    else unknown_topic word

-- the line about a word after `help`, which may name a command, and the words after it
abbrev pub about_line : Option Topic → List ℕ → List (List ℕ) → List ℕ
about_line (Some topic) word words = untaken_help words
about_line None word words = other_line (word ∷ words)

-- the line about these words after a word that calls `help`; its options take no word
abbrev pub called_line : List ℕ → Option Topic → List ℕ → List (List ℕ) → List ℕ
called_line name found word words =
    if bytes_eq name (codes "help") then about_line found word words else untaken_line name Help word

abbrev pub IsHelpLine : List ℕ → List (List ℕ) → List ℕ → Type 0
IsHelpLine name [] line = line ≡ lacks_line Help
IsHelpLine name (word ∷ words) line =
    (found : Option Topic) × Finds (λ topic. word ≡ topic_name topic) found × (line ≡ called_line name found word words)
