-- The events of the code, as the events of the specification.
use Rattle.sv_run.specs.Events as events
use Rattle.sv_run.specs.declared.happening.Happening.{Happening}
use Rattle.sv_run.specs.declared.happening.Happening.TheVariants.{Opened, Piece, Ended, Lost, Tick, Edit}

abbrev pub happening_of : Happening → events.Happening
happening_of (Opened connection) = events.Opened connection
happening_of (Piece connection bytes moment) = events.Piece connection bytes.now moment
happening_of (Ended connection) = events.Ended connection
happening_of (Lost connection) = events.Lost connection
happening_of (Tick moment) = events.Tick moment
happening_of (Edit context edit) = events.Edited context.now edit.now
