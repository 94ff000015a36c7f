-- The replies of a container to queries: the explanation of a request, the constraints in force, the uncovered methods,
-- and its status.
use Rattle.std.specs.Prelude.{ℕ, ◌+◌, List, ◌++◌, codes, flat_map, length, min, Ok, Err}
use Rattle.std.specs.Fmt.{decimal}
use Rattle.sv_context.specs.State.{ContextState}
use Rattle.sv_policy.specs.Explanation.{Answer}
use Rattle.sv_policy.specs.Text.{explanation_text}
use Rattle.sv_policy.specs.declared.explain_fault.ExplainFault.TheVariants.{BadMethod, NoMemory, NoSuchUser}
use Rattle.sv_policy.specs.Gaps.{gaps}
use Rattle.sv_program.specs.Constraints.{constraint_lines}
use Rattle.sv_program.specs.Uncovered.{gap_line}
use Rattle.sv_uri.specs.ContextPath.{shown_context}

-- the line of an explanation, or the word for its fault
abbrev pub answer_line : Answer → List ℕ
answer_line (Ok explanation) = explanation_text explanation ++ codes "\n"
answer_line (Err BadMethod) = codes "method\n"
answer_line (Err NoSuchUser) = codes "user\n"
answer_line (Err NoMemory) = codes "no memory\n"

-- the count of events after one more; it saturates at the greatest value of 64 bits
abbrev pub counted : ℕ → ℕ
counted events = min (events + 1) 18446744073709551615

module _ {S F L : Type 0} where
  -- the methods that the current constraints of a context leave uncovered (Jakarta Servlet 6.0, section 13.8.4)
  abbrev pub context_gaps_text : ContextState S F L → List ℕ
  context_gaps_text context = flat_map (gap_line context.content.context_path) (gaps context.policy.constraints)

  -- the same for all contexts, in their order
  abbrev pub gaps_text : List (ContextState S F L) → List ℕ
  gaps_text contexts = flat_map context_gaps_text contexts

  -- the lines of the constraints in force in a context: a line for each pattern of each collection
  abbrev pub context_constraints_text : ContextState S F L → List ℕ
  context_constraints_text context = flat_map (constraint_lines context.content.context_path) context.policy.constraints

  -- the same for all contexts, in their order
  abbrev pub constraints_text : List (ContextState S F L) → List ℕ
  constraints_text contexts = flat_map context_constraints_text contexts

  -- the number of live sessions of a context
  abbrev pub sessions_text : ContextState S F L → List ℕ
  sessions_text context = codes " " ++ shown_context context.content.context_path ++ codes "=" ++ decimal (length context.store.sessions)

  -- the number of events taken, and the number of live sessions of each context
  abbrev pub counts_text : ℕ → List (ContextState S F L) → List ℕ
  counts_text events contexts = codes " events " ++ decimal events ++ codes " sessions" ++ flat_map sessions_text contexts
