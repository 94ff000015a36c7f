-- The events that the lines of a script ask for.
use Rattle.std.specs.Prelude.{ℕ, ◌+◌, List, [], ◌∷◌, ◌++◌, Option, None, Some}
use Rattle.std.specs.Option.{option_to_list}
use Rattle.sv_run.specs.Events.{Happening}
use Rattle.sv_run.specs.Events as events
use Rattle.sv_run.specs.declared.happening.Reaction.{Reaction}
use Rattle.sv_script.specs.Printed.{event_text}
use Rattle.sv_script.specs.declared.line.ScriptLine.{ScriptLine}
use Rattle.sv_script.specs.declared.line.ScriptLine.TheVariants.{Nothing, Open, Send, End, Lost, Tick, Edit}

-- the event that a line asks for at a time, if any
abbrev pub event_of : ℕ → ScriptLine → Option Happening
event_of moment Nothing = None
event_of moment (Open connection) = Some (events.Opened connection)
event_of moment (Send connection bytes) = Some (events.Piece connection bytes moment)
event_of moment (End connection) = Some (events.Ended connection)
event_of moment (Lost connection) = Some (events.Lost connection)
event_of moment (Tick told) = Some (events.Tick told)
event_of moment (Edit path edit) = Some (events.Edited path edit)

-- the time after a line: the last time that a line set
abbrev pub moment_behind : ℕ → ScriptLine → ℕ
moment_behind moment (Tick told) = told
moment_behind moment Nothing = moment
moment_behind moment (Open connection) = moment
moment_behind moment (Send connection bytes) = moment
moment_behind moment (End connection) = moment
moment_behind moment (Lost connection) = moment
moment_behind moment (Edit path edit) = moment

abbrev pub moment_behind_all : ℕ → List ScriptLine → ℕ
moment_behind_all moment [] = moment
moment_behind_all moment (said ∷ more) = moment_behind_all (moment_behind moment said) more

-- the events that lines ask for, from a time on
abbrev pub events_of : ℕ → List ScriptLine → List Happening
events_of moment [] = []
events_of moment (said ∷ more) = option_to_list (event_of moment said) ++ events_of (moment_behind moment said) more

-- the text of an accepted event, by its number
abbrev pub reaction_text : ℕ → Reaction → List ℕ
reaction_text number reaction = event_text number reaction.journal.entries reaction.sends reaction.closes reaction.edited

-- the texts of accepted events, numbered from `number` on
abbrev pub reactions_text : ℕ → List Reaction → List ℕ
reactions_text number [] = []
reactions_text number (reaction ∷ reactions) = reaction_text number reaction ++ reactions_text (number + 1) reactions
