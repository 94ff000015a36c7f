-- The second line about the arguments of the command `ctl`.
use Rattle.std.specs.Prelude.{ℕ, List, [], ◌∷◌, ◌++◌, codes, if◌then◌else◌, length, nat_lt, not, Option, Some, None}
use Rattle.sv_control_words.specs.ControlArguments.{blank_argument, blank_rule, pattern_rule, wrong_pattern}
use Rattle.sv_control_words.specs.ControlRequest.{are_on_one_line}
use Rattle.sv_control_words.specs.ControlWord.{least, most, word_named, word_usage}
use Rattle.sv_arguments.specs.Near.{near}
use Rattle.sv_arguments.specs.Plain.{lacks_line, wrong_word}
use Rattle.sv_arguments.specs.UnknownNames.{hint}
use Rattle.sv_control_words.specs.declared.control_word.ControlWord.{ControlWord}
use Rattle.sv_arguments.specs.declared.topic.Topic.TheVariants.{Ctl}
use Rattle.sv_program.specs.Shown.{quoted}

-- the names, in the order in which they are listed
abbrev pub word_names : List (List ℕ)
word_names = codes "status" ∷ codes "constraints" ∷ codes "uncovered" ∷ codes "explain" ∷ codes "append" ∷ codes "withdraw" ∷ codes "stop" ∷ []

-- the line about a word that is not known
abbrev pub unknown_line : List ℕ → List ℕ
unknown_line word =
    codes "  ctl has no word " ++ quoted word ++ codes "; "
    ++ hint (near word_names word) (codes "it knows status, constraints, uncovered, explain, append, withdraw, stop")

abbrev pub usage_after : ControlWord → List ℕ
usage_after known = codes "; usage: sv ctl SOCKET " ++ word_usage known

-- the line about a word with too few arguments
abbrev pub few_line : ControlWord → List ℕ → List ℕ
few_line known word = codes "  " ++ word ++ codes " lacks an argument" ++ usage_after known

-- the line about an argument that a word does not take
abbrev pub many_line : ControlWord → List ℕ → List ℕ → List ℕ
many_line known word argument = codes "  " ++ word ++ codes " does not take " ++ quoted argument ++ usage_after known

-- the line about an argument that is not taken by a rule
abbrev pub rule_line : List ℕ → List ℕ → List ℕ → List ℕ
rule_line word argument rule = codes "  " ++ word ++ codes " does not take " ++ quoted argument ++ codes "; " ++ rule

abbrev pub pattern_line : List ℕ → Option (List ℕ) → List ℕ
pattern_line word None = []
pattern_line word (Some pattern) = rule_line word pattern (pattern_rule pattern)

abbrev pub blank_line : ControlWord → List ℕ → Option (List ℕ) → Option (List ℕ) → List ℕ
blank_line known word None pattern = pattern_line word pattern
blank_line known word (Some argument) pattern = rule_line word argument (blank_rule known)

-- the line about the first argument that the server would not read as it is: one with a blank, or else the pattern
abbrev pub misread_line : ControlWord → List ℕ → List (List ℕ) → List ℕ
misread_line known word arguments = blank_line known word (blank_argument known arguments) (wrong_pattern known arguments)

-- the line about the arguments of a known word: too few, the first beyond the most that it takes, a line feed, or else one
-- that the server would not read as it is
abbrev pub known_line : ControlWord → List ℕ → List (List ℕ) → List ℕ
known_line known word arguments =
    if nat_lt (length arguments) (least known) then few_line known word
    else if nat_lt (most known) (length arguments) then many_line known word (wrong_word (most known) arguments)
    else if not (are_on_one_line arguments) then codes "  ctl takes no word with a line feed"
    else misread_line known word arguments

abbrev pub word_line : Option ControlWord → List ℕ → List (List ℕ) → List ℕ
word_line (Some known) word arguments = known_line known word arguments
word_line None word arguments = unknown_line word

-- the line about these arguments
abbrev pub control_line : List (List ℕ) → List ℕ
control_line [] = lacks_line Ctl
control_line (socket ∷ []) = lacks_line Ctl
control_line (socket ∷ word ∷ arguments) = word_line (word_named word) word arguments
