-- The contexts of a server, from the texts of its files: the server file, and the descriptor and users file of each
-- context.
use Rattle.std.specs.Prelude.{ℕ, List, [], ◌∷◌, Option, Some, None, Result, Ok, Err}
use Rattle.sv_text.specs.Steps.{◌>>=◌}
use Rattle.sv_realm.specs.declared.account.User.{User}
use Rattle.sv_descriptor.specs.Fault.{Located}
use Rattle.sv_descriptor.specs.Server.{located_server}
use Rattle.sv_descriptor.specs.Users.{located_users}
use Rattle.sv_descriptor.specs.declared.server.Server.{Server}
use Rattle.sv_descriptor.specs.Descriptor.{located_descriptor}
use Rattle.sv_descriptor.specs.declared.web_app.WebApp.{WebApp}
use Rattle.sv_program.specs.Detail.{FaultInFile}
use Rattle.sv_program.specs.FileStore.{FileText}
use Rattle.sv_program.specs.declared.command_fault.CommandFault.{CommandFault}
use Rattle.sv_program.specs.declared.command_fault.CommandFault.TheVariants as fault
use Rattle.sv_program.specs.declared.configuration.ContextTexts.{ContextTexts}

-- the result of a step, or the fault that ends the command
abbrev pub Step : Type 0 → Type 0
Step A = Result A CommandFault

-- the results of a step for all items, in order, or the first fault
abbrev pub each : {A B : Type 0} → (A → Step B) → List A → Step (List B)
each step [] = Ok []
each step (a ∷ rest) = do
  b ← step a
  bs ← each step rest
  Ok (b ∷ bs)

-- the text of the file of this name, or the fault of a file that could not be read
abbrev pub text_of : List ℕ → FileText → Step (List ℕ)
text_of name (Ok text) = Ok text
text_of name (Err why) = Err (fault.File name why)

-- the value read from the file of this name and text, or its fault as a fault of this file
abbrev pub read_from : {A : Type 0} → (FaultInFile → CommandFault) → List ℕ → List ℕ → Located A → Step A
read_from of name text (Ok a) = Ok a
read_from of name text (Err found) = Err (of (record { file = name; text = text; found = found }))

abbrev pub server_in : List ℕ → FileText → Step Server
server_in name file = do
  text ← text_of name file
  read_from fault.Server name text (located_server text)

abbrev pub descriptor_in : ContextTexts → Step WebApp
descriptor_in texts = do
  text ← text_of texts.context.descriptor texts.descriptor
  read_from (fault.Descriptor texts.context.path) texts.context.descriptor text (located_descriptor text)

-- the users of a context; none if it names no users file
abbrev pub users_named : List ℕ → Option (List ℕ) → FileText → Step (List User)
users_named path None file = Ok []
users_named path (Some name) file = do
  text ← text_of name file
  read_from (fault.Users path) name text (located_users text)

abbrev pub users_in : ContextTexts → Step (List User)
users_in texts = users_named texts.context.path texts.context.users texts.users
