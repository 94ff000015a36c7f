-- The command that arguments name.
use Rattle.std.specs.Prelude.{◌≡◌, ℕ, ◌⊎◌, List, [], ◌∷◌, codes, Option, Some, None}
use Rattle.sv_arguments.specs.AuditOptions.{IsAudit}
use Rattle.sv_control_words.specs.ControlRequest.{IsControl}
use Rattle.sv_arguments.specs.RunOptions.{IsAsked}
use Rattle.sv_arguments.specs.Manual.{manual_words}
use Rattle.sv_arguments.specs.Question.{question_words}
use Rattle.sv_arguments.specs.Service.{service_words}
use Rattle.sv_arguments.specs.Topics.{IsCalled, IsHelpOption, topic_name}
use Rattle.sv_arguments.specs.declared.command.Command.{Command}
use Rattle.sv_arguments.specs.declared.command.Command.TheVariants.{First, Policy, Uncovered, Audit, Check, Replay, Serve, Run, Ctl, SelfTest, Help, Manual, Version}
use Rattle.sv_arguments.specs.declared.topic.Topic.{Topic}
use Rattle.sv_arguments.specs.declared.topic.Topic.TheVariants as topic
use Rattle.sv_program.specs.Arguments.{name_words}
use Rattle.sv_program.specs.FirstLine.{first_options}

-- the arguments are this word, followed by arguments with this meaning
abbrev pub IsBehind : {A : Type 0} → List ℕ → (List (List ℕ) → A → Type 0) → List (List ℕ) → A → Type 0
IsBehind word asks arguments asked = (rest : List (List ℕ)) × (arguments ≡ word ∷ rest) × asks rest asked

-- the only argument calls the command
abbrev pub IsAlone : List (List ℕ) → Topic → Type 0
IsAlone arguments topic = (word : List ℕ) × (arguments ≡ word ∷ []) × IsCalled word topic

-- `help` and the name of a command, or the name and an option for help
abbrev pub AskAbout : List ℕ → List ℕ → Topic → Type 0
AskAbout word next topic = ((word ≡ codes "help") × (next ≡ topic_name topic)) ⊎ ((word ≡ topic_name topic) × IsHelpOption next)

-- the arguments ask for help on all commands or on one
abbrev pub AskForHelp : List (List ℕ) → Option Topic → Type 0
AskForHelp arguments None = IsAlone arguments topic.Help
AskForHelp arguments (Some about) = (word next : List ℕ) × (arguments ≡ word ∷ next ∷ []) × AskAbout word next about

-- the arguments are the words of a command other than `help`
abbrev pub AreWordsOf : List (List ℕ) → Command → Type 0
AreWordsOf arguments (First deny_uncovered) = arguments ≡ codes "first" ∷ first_options deny_uncovered
AreWordsOf arguments (Policy question) = arguments ≡ codes "policy" ∷ question_words question
AreWordsOf arguments (Uncovered config) = arguments ≡ codes "uncovered" ∷ name_words config
AreWordsOf arguments (Audit options) = IsBehind (codes "audit") IsAudit arguments options
AreWordsOf arguments (Check config) = arguments ≡ codes "check" ∷ name_words config
AreWordsOf arguments (Replay config) = arguments ≡ codes "replay" ∷ name_words config
AreWordsOf arguments (Serve service) = arguments ≡ codes "serve" ∷ service_words service
AreWordsOf arguments (Run options) = IsBehind (codes "run") IsAsked arguments options
AreWordsOf arguments (Ctl request) = IsBehind (codes "ctl") IsControl arguments request
AreWordsOf arguments (SelfTest config) = arguments ≡ codes "selftest" ∷ name_words config
AreWordsOf arguments (Help about) = ⊥
AreWordsOf arguments (Manual manual) = arguments ≡ codes "help" ∷ manual_words manual
AreWordsOf arguments Version = IsAlone arguments topic.Version

-- the arguments are `help` and the words of a manual
abbrev pub IsManualAfter : List (List ℕ) → Command → Type 0
IsManualAfter arguments (Manual manual) = arguments ≡ codes "help" ∷ manual_words manual
IsManualAfter arguments command = ⊥

-- the arguments name the command: if they ask for help, they name no other
abbrev pub IsNamed : List (List ℕ) → Command → Type 0
IsNamed arguments (Help about) = AskForHelp arguments about
IsNamed arguments command = AreWordsOf arguments command × ((about : Option Topic) → AskForHelp arguments about → ⊥)

-- the arguments name no command
abbrev pub NameNothing : List (List ℕ) → Type 0
NameNothing arguments = (command : Command) → IsNamed arguments command → ⊥
