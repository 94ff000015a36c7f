-- The commands at the control socket.
use Rattle.std.specs.Prelude.{◌≡◌, ◌==◌, ℕ, ℤ, ◌++◌, Bool, List, [], bytes_eq, codes, position, take, Option, None, Some, Result, Ok, Err, if◌then◌else◌}
use Rattle.std.specs.Fmt.{decimal, signed_decimal}
use Rattle.std.specs.Option.{option_and_then, option_map}
use Rattle.sv_connection.specs.Asking.{Explaining, Saying}
use Rattle.sv_connection.specs.declared.queries.Figures.{Figures}
use Rattle.sv_readiness.specs.declared.control_commands.Ask.{Ask}
use Rattle.sv_readiness.specs.declared.control_commands.Ask.TheVariants.{Constraints, Explain, Status, Uncovered, Unknown}
use Rattle.sv_readiness.specs.declared.control_commands.Ask.TheVariants as ask
use Rattle.sv_readiness.specs.declared.limits.TheConstants.{MAX_LINE_BYTES}
use Rattle.sv_policy.specs.declared.edit.Edit.{Edit}
use Rattle.sv_run.specs.Events.{Edited}
use Rattle.sv_run.specs.Reacting.{Reacting}
use Rattle.sv_run.specs.declared.happening.Reaction.{Reaction}
use Rattle.sv_run.specs.declared.step_fault.StepFault.{StepFault}
use Rattle.sv_script.specs.Fields.{at_blank, text_of}
use Rattle.sv_script.specs.Line.{asked}
use Rattle.sv_script.specs.Printed.{edited_lines}
use Rattle.sv_script.specs.declared.line.LineFault.{LineFault}
use Rattle.sv_script.specs.declared.line.ScriptLine.{ScriptLine}
use Rattle.sv_script.specs.declared.line.ScriptLine.TheVariants as script
use Rattle.sv_text.specs.Gives.{GivesAnswer}
use Rattle.sv_text.specs.declared.no_memory.NoMemory.{NoMemory}

-- the place of the first line end, if it is within the first `MAX_LINE_BYTES` bytes
abbrev pub line_end : List ℕ → Option ℕ
line_end bytes = position (λ b. b == 10) (take MAX_LINE_BYTES bytes)

-- the line is the command `stop`
abbrev pub asks_to_stop : List ℕ → Bool
asks_to_stop line = bytes_eq line (codes "stop")

-- the target and, after another blank, the user if one is named; the method is parsed already
abbrev pub explaining_of : List ℕ → List ℕ → Option (List ℕ × List ℕ) → Option Ask
explaining_of method rest None = Some (Explain method rest None)
explaining_of method rest (Some cut) = option_map (λ user. Explain method cut.0 (Some user)) (text_of cut.1)

abbrev pub explaining : List ℕ → Option Ask
explaining rest = option_and_then (λ cut. option_and_then (λ method. explaining_of method cut.1 (at_blank cut.1)) (text_of cut.0)) (at_blank rest)

-- `explain METHOD TARGET` or `explain METHOD TARGET USER`
abbrev pub explain_of : List ℕ → Option Ask
explain_of line = option_and_then (λ cut. if bytes_eq cut.0 (codes "explain") then explaining cut.1 else None) (at_blank line)

-- only the edits among the lines of a script
abbrev pub script_ask : Result ScriptLine LineFault → Ask
script_ask (Ok (script.Edit path edit)) = ask.Edit path edit
script_ask other = Unknown

abbrev pub or_edit : Option Ask → List ℕ → Ask
or_edit (Some explain) line = explain
or_edit None line = script_ask (asked line)

-- the command of any other line
abbrev pub ask_of : List ℕ → Ask
ask_of line =
    if bytes_eq line (codes "status") then Status else
    if bytes_eq line (codes "uncovered") then Uncovered else
    if bytes_eq line (codes "constraints") then Constraints else or_edit (explain_of line) line

-- the figures of the connections, each after its name, and the lead in seconds of the wall clock over the time of
-- the container
abbrev pub figures_text : Figures → ℤ → List ℕ
figures_text figures offset =
    codes "connections " ++ decimal figures.connections ++ codes " writing " ++ decimal figures.writing
    ++ codes " held " ++ decimal figures.held ++ codes " opened " ++ decimal figures.opened
    ++ codes " clock " ++ signed_decimal offset

-- the handler's part of the status line, which follows the figures
abbrev pub standing_text : Option (List ℕ) → List ℕ
standing_text None = []
standing_text (Some text) = text

-- the status line: the figures, then the handler's status
abbrev pub status_line : Figures → ℤ → Option (List ℕ) → List ℕ
status_line figures offset stands = figures_text figures offset ++ standing_text stands ++ codes "\n"

-- the reply of the handler, or `unknown` if it has none
abbrev pub known_text : Option (List ℕ) → List ℕ
known_text None = codes "unknown\n"
known_text (Some text) = text

-- the reply when the handler takes no more events
abbrev pub last_text : List ℕ → Figures → ℤ → List ℕ
last_text line figures offset = if bytes_eq line (codes "status") then status_line figures offset None else codes "stopping\n"

module _ {R : Type 0} (before : R) where
  -- the reply is this text, unless memory ran out; the handler takes no event
  abbrev pub SaysAlone : List ℕ → Result (Result (List ℕ) NoMemory) StepFault → R → Type 0
  SaysAlone text (Ok said) after = GivesAnswer said text × (after ≡ before)
  SaysAlone text (Err fault) after = ⊥

  module _ (steps : Reacting R) where
    -- the handler takes an edit once, and the reply is the text that a replay prints; if memory for the reply runs
    -- out, it takes no edit
    abbrev pub EditsTo : List ℕ → Edit → Result (Result (List ℕ) NoMemory) StepFault → R → Type 0
    EditsTo path edit (Ok (Ok text)) after =
        (reaction : Reaction) × steps before (Edited path edit) (Ok reaction) after × (text ≡ edited_lines reaction.edited)
    EditsTo path edit (Ok (Err refused)) after = after ≡ before
    EditsTo path edit (Err fault) after = steps before (Edited path edit) (Err fault) after

    module _ (explains : Explaining R) (uncovers constrains stands : Saying R) (figures : Figures) (offset : ℤ) where
      -- the reply to each command, and the handler's state after it
      abbrev pub RepliesTo : Ask → Result (Result (List ℕ) NoMemory) StepFault → R → Type 0
      RepliesTo Status result after = SaysAlone (status_line figures offset (stands before)) result after
      RepliesTo Uncovered result after = SaysAlone (known_text (uncovers before)) result after
      RepliesTo Constraints result after = SaysAlone (known_text (constrains before)) result after
      RepliesTo (ask.Edit path edit) result after = EditsTo path edit result after
      RepliesTo (Explain method target user) result after = SaysAlone (known_text (explains before method target user)) result after
      RepliesTo Unknown result after = SaysAlone (codes "unknown\n") result after
