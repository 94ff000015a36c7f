-- Calls of components as journal entries.
use Rattle.std.specs.Prelude.{ℕ, List, Some, None}
use Rattle.sv_component.specs.declared.answers.Gate.{Gate}
use Rattle.sv_component.specs.declared.answers.Gate.TheVariants as gates
use Rattle.sv_component.specs.declared.answers.Init.{Init}
use Rattle.sv_component.specs.declared.answers.Init.TheVariants as inits
use Rattle.sv_component.specs.declared.answers.Step.{Step}
use Rattle.sv_component.specs.declared.answers.Step.TheVariants as steps
use Rattle.sv_component.specs.Call.{Call, Inited, Serviced, Entered, Left}
use Rattle.sv_journal.specs.Entry.{called_filter, called_servlet}
use Rattle.sv_journal.specs.declared.answer.Answer.{Answer}
use Rattle.sv_journal.specs.declared.answer.Answer.TheVariants as answers
use Rattle.sv_journal.specs.declared.calls.CallName.TheVariants as names
use Rattle.sv_journal.specs.declared.entry.Entry.{Entry}

abbrev pub init_answer : Init → Answer
init_answer inits.Ready = answers.Ready
init_answer inits.Unavailable = answers.Unavailable
init_answer inits.Failed = answers.Failed None
init_answer inits.NoMemory = answers.NoMemory

abbrev pub step_answer : Step → Answer
step_answer steps.Done = answers.Done
step_answer (steps.Forward path) = answers.Forward path
step_answer (steps.Include path) = answers.Include path
step_answer (steps.Error code text) = answers.Error code
step_answer (steps.Failed kind text) = answers.Failed (Some kind)
step_answer (steps.Unavailable seconds) = answers.Unavailable
step_answer steps.NoMemory = answers.NoMemory

abbrev pub gate_answer : Gate → Answer
gate_answer gates.Pass = answers.Pass
gate_answer gates.Stop = answers.Stop
gate_answer (gates.Failed kind text) = answers.Failed (Some kind)
gate_answer gates.NoMemory = answers.NoMemory

-- The entry of a servlet call: an `init`, a `service` or a `destroy`.
abbrev pub servlet_entry : List ℕ → List ℕ → Call → Entry
servlet_entry context name (Inited config answer) = called_servlet context name names.Init (Some (init_answer answer))
servlet_entry context name (Serviced before turn step after) = called_servlet context name (names.Service turn) (Some (step_answer step))
servlet_entry context name call = called_servlet context name names.Destroy None

-- The entry of a filter call: an `init`, a `before`, an `after` or a `destroy`.
abbrev pub filter_entry : List ℕ → List ℕ → Call → Entry
filter_entry context name (Inited config answer) = called_filter context name names.Init (Some (init_answer answer))
filter_entry context name (Entered before gate after) = called_filter context name names.Before (Some (gate_answer gate))
filter_entry context name (Left before done after) = called_filter context name names.After None
filter_entry context name call = called_filter context name names.Destroy None
