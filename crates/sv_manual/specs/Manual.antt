-- The commands and their options, in each form.
use Rattle.std.specs.Prelude.{ℕ, ◌-◌, nat_lt, List, [], ◌++◌, codes, flat_map, if◌then◌else◌, length, replicate}
use Rattle.std.specs.Str.{bytes_eq}
use Rattle.sv_manual.specs.Form.{escaped, further_line}
use Rattle.sv_manual.specs.Rows.{CommandFields, OptionFields, options_of, spaced}
use Rattle.sv_manual.specs.declared.form.Form.{Form}
use Rattle.sv_manual.specs.declared.form.Form.TheVariants.{Help, Roff, Markdown}
use Rattle.sv_manual.specs.declared.pages.TheConstants as page

-- the word of an option and its argument
abbrev pub option_head : List ℕ → List ℕ → List ℕ
option_head word argument = word ++ spaced argument

-- what is between the head of an option of the help and its description: spaces up to the column of the descriptions, or a
-- further line after a head that reaches this column
abbrev pub gap_after : ℕ → List ℕ
gap_after width = if nat_lt width 24 then replicate (24 - width) 32 else further_line

abbrev pub padded : List ℕ → List ℕ
padded head = head ++ gap_after (length head)

-- an option with its description, which is in the form already
abbrev pub help_option : List ℕ → List ℕ → List ℕ → List ℕ
help_option word argument does = codes "    " ++ padded (option_head word argument) ++ does ++ codes "\n"

abbrev pub roff_option : List ℕ → List ℕ → List ℕ → List ℕ
roff_option word argument does =
    codes ".TP\n\\fB" ++ escaped Roff word ++ codes "\\fR" ++ escaped Roff (spaced argument) ++ codes "\n\\&" ++ does ++ codes "\n"

abbrev pub item_option : List ℕ → List ℕ → List ℕ → List ℕ
item_option word argument does = codes "\n- `" ++ option_head word argument ++ codes "`: " ++ does ++ codes "\n"

abbrev pub shown_option : Form → OptionFields → List ℕ
shown_option Help option = help_option option.word option.argument (escaped Help option.text)
shown_option Roff option = roff_option option.word option.argument (escaped Roff option.text)
shown_option Markdown option = item_option option.word option.argument (escaped Markdown option.text)

-- the usage of a command
abbrev pub usage_of : List ℕ → List ℕ → List ℕ
usage_of name arguments = codes "sv " ++ name ++ spaced arguments

-- the usage of the command, if it has this name
abbrev pub usage_named : List ℕ → CommandFields → List ℕ
usage_named name command = if bytes_eq command.name name then usage_of command.name command.arguments else []

-- the usage of the command of this name
abbrev pub named_usage : List ℕ → List CommandFields → List ℕ
named_usage name commands = flat_map (usage_named name) commands

abbrev pub roff_head : List ℕ → List ℕ → List ℕ
roff_head name arguments = page.ROFF_COMMAND.now ++ escaped Roff name ++ escaped Roff (spaced arguments)

abbrev pub roff_command : List ℕ → List ℕ → List ℕ → List ℕ
roff_command name arguments does = roff_head name arguments ++ codes "\n\\&" ++ does ++ codes "\n.RS\n"

-- the usage of a command, and what it does
abbrev pub shown_command : Form → CommandFields → List ℕ
shown_command Help command = usage_of command.name command.arguments ++ codes "\n    " ++ escaped Help command.text ++ codes "\n"
shown_command Roff command = roff_command command.name command.arguments (escaped Roff command.text)
shown_command Markdown command = codes "\n## `" ++ usage_of command.name command.arguments ++ codes "`\n\n" ++ escaped Markdown command.text ++ codes "\n"

abbrev pub command_end : Form → List ℕ
command_end Help = []
command_end Roff = codes ".RE\n"
command_end Markdown = []

-- a command with its options
abbrev pub command_text : Form → List OptionFields → CommandFields → List ℕ
command_text form options command = shown_command form command ++ options_of (shown_option form) command.name options ++ command_end form

abbrev pub commands_text : Form → List CommandFields → List OptionFields → List ℕ
commands_text form commands options = flat_map (command_text form options) commands

-- the command, if it has this name
abbrev pub command_named : Form → List OptionFields → List ℕ → CommandFields → List ℕ
command_named form options name command = if bytes_eq command.name name then command_text form options command else []

abbrev pub named_text : Form → List ℕ → List CommandFields → List OptionFields → List ℕ
named_text form name commands options = flat_map (command_named form options name) commands

-- the text before the commands, and after them
abbrev pub page_head : Form → List ℕ
page_head Help = page.HELP_HEAD.now
page_head Roff = page.MAN_HEAD.now
page_head Markdown = page.MARKDOWN_HEAD.now

abbrev pub page_end : Form → List ℕ
page_end Help = []
page_end Roff = page.MAN_END.now
page_end Markdown = page.MARKDOWN_END.now

-- all commands
abbrev pub page_text : Form → List CommandFields → List OptionFields → List ℕ
page_text form commands options = page_head form ++ commands_text form commands options ++ page_end form
