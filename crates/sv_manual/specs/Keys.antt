-- The keys of the configuration files, in each form.
use Rattle.std.specs.Prelude.{ℕ, Bool, true, false, List, [], ◌++◌, codes, flat_map, if◌then◌else◌}
use Rattle.std.specs.Str.{bytes_eq}
use Rattle.sv_program.specs.Keys.{KeyFields}
use Rattle.sv_program.specs.declared.keys.Format.{Format}
use Rattle.sv_program.specs.declared.keys.Format.TheVariants.{Server, Descriptor, Users}
use Rattle.sv_manual.specs.Form.{escaped}
use Rattle.sv_manual.specs.declared.form.Form.{Form}
use Rattle.sv_manual.specs.declared.form.Form.TheVariants.{Help, Roff, Markdown}
use Rattle.sv_manual.specs.declared.pages.TheConstants as page

-- a key with the key of its table before it
abbrev pub key_path : List ℕ → List ℕ → List ℕ
key_path table key = if bytes_eq table [] then key else table ++ codes "." ++ key

-- a key, what it takes, and what it means
abbrev pub help_key : List ℕ → List ℕ → List ℕ → List ℕ
help_key path takes means = codes "    " ++ path ++ page.KEY_TAKES.now ++ takes ++ page.KEY_MEANS.now ++ means ++ codes "\n"

abbrev pub roff_key : List ℕ → List ℕ → List ℕ → List ℕ
roff_key path takes means =
    codes ".TP\n\\fB" ++ escaped Roff path ++ codes "\\fR\nTakes " ++ escaped Roff takes ++ codes ".\n\\&" ++ escaped Roff means ++ codes "\n"

abbrev pub table_row : List ℕ → List ℕ → List ℕ → List ℕ
table_row path takes means = codes "| `" ++ path ++ codes "` | " ++ takes ++ codes " | " ++ means ++ codes " |\n"

abbrev pub shown_key : Form → KeyFields → List ℕ
shown_key Help row = help_key (key_path row.table row.key) row.takes row.means
shown_key Roff row = roff_key (key_path row.table row.key) row.takes row.means
shown_key Markdown row = table_row (key_path row.table row.key) row.takes row.means

-- the name of a format
abbrev pub format_name : Format → List ℕ
format_name Server = codes "Server file"
format_name Descriptor = codes "Deployment descriptor"
format_name Users = codes "Users file"

abbrev pub format_head : Form → Format → List ℕ
format_head Help format = format_name format ++ codes ":\n"
format_head Roff format = codes ".SH " ++ format_name format ++ codes "\n"
format_head Markdown format = codes "\n## " ++ format_name format ++ page.KEY_TABLE_HEAD.now

abbrev pub are_same : Format → Format → Bool
are_same Server Server = true
are_same Descriptor Descriptor = true
are_same Users Users = true
are_same format other = false

-- a key of this format
abbrev pub key_of : Form → Format → KeyFields → List ℕ
key_of form format row = if are_same format row.format then shown_key form row else []

abbrev pub keys_text : Form → List KeyFields → Format → List ℕ
keys_text form rows format = flat_map (key_of form format) rows

-- the keys of a format
abbrev pub format_text : Form → List KeyFields → Format → List ℕ
format_text form rows format = format_head form format ++ keys_text form rows format

abbrev pub config_head : Form → List ℕ
config_head Help = []
config_head Roff = page.CONFIG_MAN_HEAD.now
config_head Markdown = page.CONFIG_MARKDOWN_HEAD.now

abbrev pub config_end : Form → List ℕ
config_end Help = []
config_end Roff = page.CONFIG_MAN_END.now
config_end Markdown = []

abbrev pub config_text : Form → List KeyFields → List ℕ
config_text form rows =
    config_head form ++ format_text form rows Server ++ format_text form rows Descriptor ++ format_text form rows Users ++ config_end form
