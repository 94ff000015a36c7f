-- The configuration files of a server in the order of their readings: the server file, then the descriptor and the
-- users file of each context.
use Rattle.std.specs.Prelude.{◌≡◌, ℕ, List, [], ◌∷◌, map, flat_map, Option, Some, None, Result, Ok, Err}
use Rattle.std.specs.Path.{path_with_file_name}
use Rattle.sv_text.specs.Gives.{Gives}
use Rattle.sv_descriptor.specs.declared.server.ContextEntry.{ContextEntry}
use Rattle.sv_descriptor.specs.declared.server.Server.{Server}
use Rattle.sv_program.specs.CommandFault.{command_fault, UnlessNoMemory}
use Rattle.sv_program.specs.Configuration.{Step, server_in}
use Rattle.sv_program.specs.FileStore.{AreRead, FileText, Giving, Reading}
use Rattle.sv_program.specs.declared.command_fault.CommandFault.{CommandFault}
use Rattle.sv_program.specs.declared.configuration.ContextTexts.{ContextTexts}

-- the reading of a file that the server file names; the name replaces the last segment of the server file's name,
-- unless it begins with a slash
abbrev pub reading_beside : List ℕ → List ℕ → FileText → Reading
reading_beside config name text = record { name = path_with_file_name config name; text = text }

-- the reading of a file whose name is optional
abbrev pub named_readings : List ℕ → Option (List ℕ) → FileText → List Reading
named_readings config None text = []
named_readings config (Some name) text = reading_beside config name text ∷ []

abbrev pub context_readings : List ℕ → ContextTexts → List Reading
context_readings config texts =
    reading_beside config texts.context.descriptor texts.descriptor ∷ named_readings config texts.context.users texts.users

abbrev pub readings : List ℕ → FileText → List ContextTexts → List Reading
readings config file texts = record { name = config; text = file } ∷ flat_map (context_readings config) texts

-- the contexts of a server file; none if the file has a fault
abbrev pub contexts_in : Step Server → List ContextEntry
contexts_in (Ok server) = server.contexts
contexts_in (Err fault) = []

-- the server file is read, with this result
abbrev pub ReadsServer : {S : Type 0} → Giving S → List ℕ → S → Result Server CommandFault → S → Type 0
ReadsServer gives config before result after =
    UnlessNoMemory result ((file : FileText) × gives before config file after × Gives command_fault result (server_in config file))

-- the file is read if it has a name
abbrev pub ReadsNamed : {S : Type 0} → Giving S → List ℕ → Option (List ℕ) → S → FileText → S → Type 0
ReadsNamed gives config name before text after = AreRead gives before (named_readings config name text) after

-- the files of a context are read
abbrev pub ReadsContext : {S : Type 0} → Giving S → List ℕ → ContextEntry → S → ContextTexts → S → Type 0
ReadsContext gives config context before texts after =
    (texts.context ≡ context) × AreRead gives before (context_readings config texts) after

-- the files of the contexts are read
abbrev pub ReadsContexts : {S : Type 0} → Giving S → List ℕ → List ContextEntry → S → List ContextTexts → S → Type 0
ReadsContexts gives config contexts before texts after =
    (map (λ text. text.context) texts ≡ contexts) × AreRead gives before (flat_map (context_readings config) texts) after
