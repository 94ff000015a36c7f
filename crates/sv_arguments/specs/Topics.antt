-- The commands as topics of help.
use Rattle.std.specs.Prelude.{◌≡◌, ℕ, ◌⊎◌, List, [], ◌∷◌, codes, map}
use Rattle.sv_arguments.specs.declared.topic.Topic.{Topic}
use Rattle.sv_arguments.specs.declared.topic.Topic.TheVariants.{First, Policy, Uncovered, Audit, Check, Replay, Serve, Run, Ctl, SelfTest, Help, Version}
use Rattle.sv_manual.specs.Rows.{CommandFields, OptionFields, command_fields, option_fields}
use Rattle.sv_manual.specs.declared.commands.TheConstants.{COMMANDS, OPTIONS}

-- all commands, in the order of the help
abbrev pub topics : List Topic
topics = First ∷ Policy ∷ Uncovered ∷ Audit ∷ Check ∷ Replay ∷ Serve ∷ Run ∷ Ctl ∷ SelfTest ∷ Help ∷ Version ∷ []

abbrev pub topic_name : Topic → List ℕ
topic_name First = codes "first"
topic_name Policy = codes "policy"
topic_name Uncovered = codes "uncovered"
topic_name Audit = codes "audit"
topic_name Check = codes "check"
topic_name Replay = codes "replay"
topic_name Serve = codes "serve"
topic_name Run = codes "run"
topic_name Ctl = codes "ctl"
topic_name SelfTest = codes "selftest"
topic_name Help = codes "help"
topic_name Version = codes "version"

-- the names of all commands
unfoldable pub topic_names : List (List ℕ)
topic_names = map topic_name topics

-- the program's name, the command's and its arguments
abbrev pub topic_usage : Topic → List ℕ
topic_usage First = codes "sv first [deny]"
topic_usage Policy = codes "sv policy CONFIG METHOD TARGET [USER]"
topic_usage Uncovered = codes "sv uncovered CONFIG"
topic_usage Audit = codes "sv audit CONFIG [OPTION ..]"
topic_usage Check = codes "sv check CONFIG"
topic_usage Replay = codes "sv replay CONFIG"
topic_usage Serve = codes "sv serve CONFIG N"
topic_usage Run = codes "sv run CONFIG [OPTION ..]"
topic_usage Ctl = codes "sv ctl SOCKET WORD .."
topic_usage SelfTest = codes "sv selftest CONFIG"
topic_usage Help = codes "sv help [COMMAND | [config] [--format FORMAT]]"
topic_usage Version = codes "sv version"

abbrev pub commands : List CommandFields
commands = map (command_fields (λ text. text.now)) COMMANDS

abbrev pub options : List OptionFields
options = map (option_fields (λ text. text.now)) OPTIONS

-- an option that asks for help
abbrev pub IsHelpOption : List ℕ → Type 0
IsHelpOption word = (word ≡ codes "--help") ⊎ (word ≡ codes "-h")

-- the word calls the command
abbrev pub IsCalled : List ℕ → Topic → Type 0
IsCalled word Help = (word ≡ codes "help") ⊎ IsHelpOption word
IsCalled word Version = (word ≡ codes "version") ⊎ (word ≡ codes "--version")
IsCalled word topic = word ≡ topic_name topic
