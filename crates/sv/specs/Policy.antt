-- The command `policy`: explains what a server would do with a request.
use Rattle.std.specs.Prelude.{◌≡◌, ℕ, List, [], ◌∷◌, ◌++◌, Option, Result, Ok, Err}
use Rattle.std.specs.Option.{option_copied, unwrap_or}
use Rattle.sv_deployments.specs.declared.program_filter.ProgramFilter.{ProgramFilter}
use Rattle.sv_deployments.specs.declared.program_listener.ProgramListener.{ProgramListener}
use Rattle.sv_deployments.specs.declared.program_servlet.ProgramServlet.{ProgramServlet}
use Rattle.sv_component.specs.Steps.{ComponentSteps}
use Rattle.sv_container.specs.Explaining.{policies_of}
use Rattle.sv_container.specs.declared.container.Container.{Container}
use Rattle.sv_deployments.specs.Configuration.{FindsConfiguration}
use Rattle.sv_deployments.specs.Deployments.{ProgramDeployment}
use Rattle.sv_deployments.specs.Folders.{FolderGiving}
use Rattle.sv_deployments.specs.declared.configuration.Configuration.{Configuration}
use Rattle.sv_policy.specs.Explanation as explained
use Rattle.sv_policy.specs.Text.{explanation_text}
use Rattle.sv_policy.specs.declared.explain_fault.ExplainFault.{ExplainFault}
use Rattle.sv_policy.specs.declared.explain_fault.ExplainFault.TheVariants as explain
use Rattle.sv_arguments.specs.declared.question.Question.{Question}
use Rattle.sv_program.specs.CommandFault.{UnlessNoMemory}
use Rattle.sv_program.specs.Configuration.{Step}
use Rattle.sv_program.specs.FileStore.{Giving}
use Rattle.sv_program.specs.Shown.{quoted}
use Rattle.sv_program.specs.declared.command_fault.CommandFault.{CommandFault}
use Rattle.sv_program.specs.declared.command_fault.CommandFault.TheVariants as fault
use Rattle.sv_container.specs.SeededStart.{StartsWith}
use Rattle.sv_run.specs.declared.seeded_words.SeededWords.{SeededWords}
use Rattle.sv.specs.Printed.{Shows}

-- the command's fault if there is no explanation
abbrev pub fault_of : Question → ExplainFault → CommandFault
fault_of question explain.BadMethod = fault.Method (quoted question.method.now)
fault_of question explain.NoSuchUser = fault.User (quoted (unwrap_or (option_copied question.user) []))
fault_of question explain.NoMemory = fault.NoMemory

-- the line of an explanation
abbrev pub line_of : Question → explained.Answer → Step (List ℕ)
line_of question (Ok explanation) = Ok (explanation_text explanation ++ 10 ∷ [])
line_of question (Err found) = Err (fault_of question found)

-- the line for these deployments
abbrev pub policy_line : List ProgramDeployment → Question → Step (List ℕ)
policy_line deployments question =
    line_of question (explained.explanation (policies_of deployments) question.method.now question.target.now (option_copied question.user))

-- the line is written, or its fault is the result
abbrev pub Ends : Step (List ℕ) → Result (Unit {0}) CommandFault → Option (List ℕ) → Option (List ℕ) → Type 0
Ends (Ok line) result old new = Shows line result old new
Ends (Err found) result old new = result ≡ Err found

-- the started container gives the line, unless memory ran out; a start that failed gives its fault
abbrev pub EndsBy : {A : Type 0} → Result A CommandFault → Step (List ℕ) → Result (Unit {0}) CommandFault → Option (List ℕ) → Option (List ℕ) → Type 0
EndsBy (Ok container) line result old new = UnlessNoMemory result (Ends line result old new)
EndsBy (Err found) line result old new = result ≡ Err found

module _ (moving : ComponentSteps ProgramServlet ProgramFilter ProgramListener) where
  -- a fault of the files is the result; without one, the configured container is started and asked
  abbrev pub GoesOn : Result Configuration CommandFault → Question → Result (Unit {0}) CommandFault → Option (List ℕ) → Option (List ℕ) → Type 0
  GoesOn (Ok configuration) question result old new =
      (begun : Result (Container ProgramServlet ProgramFilter ProgramListener SeededWords) CommandFault)
      × StartsWith moving configuration.deployments.items configuration.seed begun
      × EndsBy begun (policy_line configuration.deployments.items question) result old new
  GoesOn (Err found) question result old new = result ≡ Err found

  -- a run of the command over its store
  abbrev pub RunsPolicy : {S : Type 0} → Giving S → FolderGiving S → Question → Result (Unit {0}) CommandFault → S → S → Option (List ℕ) → Option (List ℕ) → Type 0
  RunsPolicy gives_text gives_files question result before after old new =
      (found : Result Configuration CommandFault) × FindsConfiguration gives_text gives_files question.config.now found before after
      × GoesOn found question result old new
