-- The second line about arguments that name no command.
use Rattle.std.specs.Prelude.{◌≡◌, ℕ, List, [], ◌∷◌, ◌++◌, codes, Option, Some, None}
use Rattle.sv_arguments.specs.AuditWords.{format_name}
use Rattle.sv_arguments.specs.ControlUsage.{control_line}
use Rattle.sv_arguments.specs.HelpUsage.{IsHelpLine}
use Rattle.sv_arguments.specs.Near.{near}
use Rattle.sv_arguments.specs.OptionFault.{IsRefused}
use Rattle.sv_arguments.specs.Plain.{lacks_line, plain_line}
use Rattle.sv_arguments.specs.Settings.{key_word, option_words, value_name}
use Rattle.sv_arguments.specs.Topics.{IsCalled}
use Rattle.sv_arguments.specs.UnknownNames.{hint, unknown_command}
use Rattle.sv_arguments.specs.Values.{Finds}
use Rattle.sv_arguments.specs.declared.key.Key.{Key}
use Rattle.sv_arguments.specs.declared.option_fault.OptionFault.{OptionFault}
use Rattle.sv_arguments.specs.declared.option_fault.OptionFault.TheVariants.{NoServer, Unknown, Twice, Excluded, NoValue, BadValue, Alone, Unfit}
use Rattle.sv_arguments.specs.declared.option_set.OptionSet.{OptionSet}
use Rattle.sv_arguments.specs.declared.option_set.OptionSet.TheVariants as set
use Rattle.sv_arguments.specs.declared.topic.Topic.{Topic}
use Rattle.sv_arguments.specs.declared.topic.Topic.TheVariants.{Run, Audit, Ctl, Help}
use Rattle.sv_program.specs.Shown.{quoted}

-- the command with these options
abbrev pub set_topic : OptionSet → Topic
set_topic set.Run = Run
set_topic set.Audit = Audit

abbrev pub no_option : OptionSet → List ℕ
no_option set.Run = codes "  run has no option "
no_option set.Audit = codes "  audit has no option "

abbrev pub options_listing : OptionSet → List ℕ
options_listing set.Run = codes "\"sv help run\" lists the options"
options_listing set.Audit = codes "\"sv help audit\" lists the options"

abbrev pub unknown_option : OptionSet → List ℕ → List ℕ
unknown_option its word =
    no_option its ++ quoted word ++ codes "; " ++ hint (near (option_words its) word) (options_listing its)

abbrev pub needs_line : Key → List ℕ
needs_line key = codes "  " ++ key_word key ++ codes " needs " ++ value_name key

-- the line about the arguments of a command that has options
abbrev pub option_fault_line : OptionSet → OptionFault → List ℕ
option_fault_line its NoServer = lacks_line (set_topic its)
option_fault_line its (Unknown word) = unknown_option its word.now
option_fault_line its (Twice key) = codes "  " ++ key_word key ++ codes " is given twice"
option_fault_line its (Excluded key other) = codes "  " ++ key_word key ++ codes " cannot be given with " ++ key_word other
option_fault_line its (NoValue key) = needs_line key
option_fault_line its (BadValue key value) = needs_line key ++ codes ", not " ++ quoted value.now
option_fault_line its (Alone key other) = codes "  " ++ key_word key ++ codes " needs " ++ key_word other
option_fault_line its (Unfit form) = codes "  --format " ++ format_name form ++ codes " cannot be given with --diff"

abbrev pub IsOptionLine : OptionSet → List (List ℕ) → List ℕ → Type 0
IsOptionLine its arguments line = (fault : OptionFault) × IsRefused its arguments fault × (line ≡ option_fault_line its fault)

-- the line about the arguments after a word, which calls this command, if any
abbrev pub IsLineAfter : List ℕ → Option Topic → List (List ℕ) → List ℕ → Type 0
IsLineAfter word None arguments line = line ≡ unknown_command word
IsLineAfter word (Some Run) arguments line = IsOptionLine set.Run arguments line
IsLineAfter word (Some Audit) arguments line = IsOptionLine set.Audit arguments line
IsLineAfter word (Some Ctl) arguments line = line ≡ control_line arguments
IsLineAfter word (Some Help) arguments line = IsHelpLine word arguments line
IsLineAfter word (Some topic) arguments line = line ≡ plain_line topic arguments

-- the line about arguments that name no command
abbrev pub IsUsageLine : List (List ℕ) → List ℕ → Type 0
IsUsageLine [] line = line ≡ codes "  no command is given; \"sv help\" lists the commands"
IsUsageLine (word ∷ arguments) line =
    (found : Option Topic) × Finds (IsCalled word) found × IsLineAfter word found arguments line
