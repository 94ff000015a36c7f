-- The second line about the arguments of a command without options.
use Rattle.std.specs.Prelude.{ℕ, ◌-◌, min, nat_lt, List, [], ◌++◌, length, slice_index_or, codes, if◌then◌else◌}
use Rattle.sv_arguments.specs.Topics.{topic_name, topic_usage}
use Rattle.sv_arguments.specs.declared.topic.Topic.{Topic}
use Rattle.sv_arguments.specs.declared.topic.Topic.TheVariants.{First, Policy, Serve, Version}
use Rattle.sv_program.specs.Shown.{quoted}

-- the least number of words after the name of such a command
abbrev pub least_words : Topic → ℕ
least_words First = 0
least_words Policy = 3
least_words Serve = 2
least_words Version = 0
least_words other = 1

-- the greatest number of words after its name
abbrev pub most_words : Topic → ℕ
most_words Policy = 4
most_words Serve = 2
most_words Version = 0
most_words other = 1

-- the first word beyond the most that are taken, or else the last one
abbrev pub wrong_word : ℕ → List (List ℕ) → List ℕ
wrong_word most words = slice_index_or words (min most (length words - 1)) []

abbrev pub usage_hint : Topic → List ℕ
usage_hint topic = codes "; usage: " ++ topic_usage topic

-- the line about a command with too few words
abbrev pub lacks_line : Topic → List ℕ
lacks_line topic = codes "  " ++ topic_name topic ++ codes " lacks an argument" ++ usage_hint topic

-- the line about a word that is not taken after the word that calls a command
abbrev pub untaken_line : List ℕ → Topic → List ℕ → List ℕ
untaken_line name topic word = codes "  " ++ name ++ codes " does not take " ++ quoted word ++ usage_hint topic

-- the line about these words after the command's name
abbrev pub plain_line : Topic → List (List ℕ) → List ℕ
plain_line topic words =
    if nat_lt (length words) (least_words topic) then lacks_line topic
    else untaken_line (topic_name topic) topic (wrong_word (most_words topic) words)
