-- The completion of bash.
use Rattle.std.specs.Prelude.{ℕ, Bool, ◌||◌, List, [], ◌∷◌, ◌++◌, codes, flat_map, if◌then◌else◌}
use Rattle.std.specs.Str.{bytes_eq}
use Rattle.sv_manual.specs.Rows.{CommandFields, OptionFields, options_of}
use Rattle.sv_manual.specs.declared.pages.TheConstants.{COMPLETION_CASES, COMPLETION_END, COMPLETION_HEAD, OPTION_CASE}

-- the argument is the name of a file or folder
abbrev pub is_file : List ℕ → Bool
is_file argument =
    bytes_eq argument (codes "FILE") || bytes_eq argument (codes "FOLDER") || bytes_eq argument (codes "SOCKET") || bytes_eq argument (codes "OTHER")

-- after the option a file is completed, or nothing
abbrev pub completes : List ℕ → List ℕ
completes argument = if is_file argument then codes ";;\n" else codes "return;;\n"

-- the case of an option whose argument is completed
abbrev pub value_case : OptionFields → List ℕ
value_case option =
    if bytes_eq option.argument [] then []
    else codes "    *:" ++ option.command ++ codes ":" ++ option.word ++ codes ":*) " ++ completes option.argument

abbrev pub value_cases : List OptionFields → List ℕ
value_cases options = flat_map value_case options

-- a word of a list
abbrev pub listed : List ℕ → List ℕ
listed word = word ++ 32 ∷ []

abbrev pub word_text : OptionFields → List ℕ
word_text option = listed option.word

-- the case of a word that begins like an option of the command
abbrev pub option_case : List OptionFields → List ℕ → List ℕ
option_case options name = codes "    *:" ++ name ++ OPTION_CASE.now ++ options_of word_text name options ++ codes "\";;\n"

abbrev pub option_cases : List CommandFields → List OptionFields → List ℕ
option_cases commands options = flat_map (λ command. option_case options command.name) commands

abbrev pub names_text : List CommandFields → List ℕ
names_text commands = flat_map (λ command. listed command.name) commands

abbrev pub completion_text : List CommandFields → List OptionFields → List ℕ
completion_text commands options =
    COMPLETION_HEAD.now ++ names_text commands ++ COMPLETION_CASES.now ++ value_cases options ++ option_cases commands options ++ COMPLETION_END.now
