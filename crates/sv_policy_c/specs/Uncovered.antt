-- The methods that a descriptor leaves uncovered: Jakarta Servlet 6.0, section 13.8.4.
use Rattle.std.specs.Prelude.{◌≡◌, ℕ, List, [], ◌∷◌, None, Ok, Err}
use Rattle.sv_descriptor.specs.Fault.{descriptor_fault_text}
use Rattle.sv_program.specs.Configuration.{Step}
use Rattle.sv_program.specs.Uncovered.{uncovered_lines}
use Rattle.sv_program.specs.declared.command_fault.CommandFault.TheVariants.{Descriptor}
use Rattle.sv_program.specs.declared.configuration.ContextTexts.{ContextTexts}
use Rattle.sv_program.specs.declared.unavailable.Unavailable.TheVariants.{Missing}
use Rattle.sv_policy_c.specs.Answer.{IsShort, IsWritten}
use Rattle.sv_policy_c.specs.declared.status.Status.{Status}
use Rattle.sv_policy_c.specs.declared.status.Status.TheVariants as status

-- a context with this path, and a descriptor with this text
abbrev pub texts_of : List ℕ → List ℕ → ContextTexts
texts_of path text = record { context = record { path = path; descriptor = []; files = []; users = None }; descriptor = Ok text; users = Err Missing }

-- the lines of a server with only this context, or the fault of its descriptor
abbrev pub uncovered_in : List ℕ → List ℕ → Step (List ℕ)
uncovered_in path text = uncovered_lines (texts_of path text ∷ [])

-- the text for the lines or the fault
abbrev pub said_text : Step (List ℕ) → List ℕ
said_text (Ok lines) = lines
said_text (Err (Descriptor path faulty)) = descriptor_fault_text faulty.found.fault
said_text (Err other) = []

-- the status if the whole text is written
abbrev pub whole : Step (List ℕ) → Status
whole (Ok lines) = status.Written
whole (Err fault) = status.Fault

-- the lines or the fault, in the status and the buffer
abbrev pub Lists : Step (List ℕ) → List ℕ → List ℕ → ℕ → Status → Type 0
Lists said old new size status.NoMemory = Unit {0}
Lists said old new size status.NotText = Unit {0}
Lists said old new size status.Short = IsShort (said_text said) old new size
Lists said old new size told = (told ≡ whole said) × IsWritten (said_text said) old new size
