-- The rows of the tables of commands and options, as texts.
use Rattle.std.specs.Prelude.{ℕ, List, [], ◌++◌, codes, flat_map, if◌then◌else◌}
use Rattle.std.specs.Str.{bytes_eq}

-- a command: its name, its arguments, and what it does
pub record CommandFields : Type 0 where
  pub name : List ℕ
  pub arguments : List ℕ
  pub text : List ℕ

-- an option: its command, its word, the argument after it, and what it does
pub record OptionFields : Type 0 where
  pub command : List ℕ
  pub word : List ℕ
  pub argument : List ℕ
  pub text : List ℕ

-- the fields of a row, as texts
abbrev pub command_fields : {T : Type 0} → (T → List ℕ) → T × T × T → CommandFields
command_fields text row = record { name = text row.0; arguments = text row.1; text = text row.2 }

abbrev pub option_fields : {T : Type 0} → (T → List ℕ) → T × T × T × T → OptionFields
option_fields text row = record { command = text row.0; word = text row.1; argument = text row.2; text = text row.3 }

-- a text after a space, or nothing for an empty text
abbrev pub spaced : List ℕ → List ℕ
spaced text = if bytes_eq text [] then [] else codes " " ++ text

-- the text made of an option, if it is one of this command
abbrev pub option_text : (OptionFields → List ℕ) → List ℕ → OptionFields → List ℕ
option_text shown name fields = if bytes_eq fields.command name then shown fields else []

-- the text made of each option of a command, in order
abbrev pub options_of : (OptionFields → List ℕ) → List ℕ → List OptionFields → List ℕ
options_of shown name options = flat_map (option_text shown name) options
