-- The lines of the command `uncovered`, from the files that a store gives.
use Rattle.std.specs.Prelude.{◌≡◌, ℕ, List, map, None}
use Rattle.sv_text.specs.Steps.{◌>>=◌}
use Rattle.sv_descriptor.specs.declared.server.ContextEntry.{ContextEntry}
use Rattle.sv_program.specs.Configuration.{Step, server_in}
use Rattle.sv_program.specs.ConfigurationFiles.{contexts_in, readings}
use Rattle.sv_program.specs.FileStore.{AreRead, FileText, Giving}
use Rattle.sv_program.specs.Printed.{Printing}
use Rattle.sv_program.specs.Uncovered.{uncovered_lines}
use Rattle.sv_program.specs.declared.configuration.ContextTexts.{ContextTexts}

-- the lines for a server file with this text, if it is available, and contexts with these texts
abbrev pub lines_for : List ℕ → FileText → List ContextTexts → Step (List ℕ)
lines_for config file texts = do
  server ← server_in config file
  uncovered_lines texts

-- a context without its users file
abbrev pub without_users : ContextEntry → ContextEntry
without_users context = record { path = context.path; descriptor = context.descriptor; files = context.files; users = None }

-- the text has the lines for the server file and the descriptors that the store gives; no other file is read
abbrev pub IsReported : {S : Type 0} → Giving S → List ℕ → Printing S
IsReported gives config text before after =
    (file : FileText) × (texts : List ContextTexts)
    × (map (λ text. text.context) texts ≡ map without_users (contexts_in (server_in config file)))
    × AreRead gives before (readings config file texts) after
    × (text ≡ lines_for config file texts)
