-- The fault of the command `policy` if there is no explanation.
use Rattle.std.specs.Prelude.{MatchOption}
use Rattle.std.proofs.Common.{◌≡◌, ℕ, List, Option, Err, refl, subst, sym}
use Rattle.sv_policy.specs.Explanation as explained
use Rattle.sv_policy.specs.Fault.{explain_fault}
use Rattle.sv_policy.specs.declared.explain_fault.ExplainFault.{ExplainFault}
use Rattle.sv_policy.specs.declared.explain_fault.ExplainFault.TheVariants as explain
use Rattle.sv_program.specs.CommandFault.{command_fault}
use Rattle.sv_program.specs.declared.command_fault.CommandFault.{CommandFault}
use Rattle.sv_arguments.specs.declared.question.Question.{Question}
use Rattle.sv.specs.Policy.{Ends, fault_of, line_of}

abbrev pub Told : Question → explained.Answer → Option (List ℕ) → CommandFault → Type 0
Told question answer text found = MatchOption (command_fault found) (Unit {0}) (λ _. Ends (line_of question answer) (Err found) text text)

-- the command's fault is that of the explanation, unless memory ran out
pub fault_told : (question : Question) (found : ExplainFault) (answer : explained.Answer) (text : Option (List ℕ)) (told : CommandFault)
    → MatchOption (explain_fault found) (Unit {0}) (λ f. answer ≡ Err f) → told ≡ fault_of question found → Told question answer text told
fault_told question explain.BadMethod answer text told is same =
    subst (Told question answer text) (sym same) (subst (λ a. Ends (line_of question a) (Err (fault_of question explain.BadMethod)) text text) (sym is) refl)
fault_told question explain.NoSuchUser answer text told is same =
    subst (Told question answer text) (sym same) (subst (λ a. Ends (line_of question a) (Err (fault_of question explain.NoSuchUser)) text text) (sym is) refl)
fault_told question explain.NoMemory answer text told is same = subst (Told question answer text) (sym same) tt
