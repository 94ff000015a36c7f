-- The figures of the connections.
use Rattle.std.specs.Prelude.{ℕ, List, filter, length, map}
use Rattle.sv_connection.specs.States.{ConnectionState, is_writing}
use Rattle.sv_connection.specs.Holding.{held}
use Rattle.sv_connection.specs.Known.{Known}
use Rattle.sv_connection.specs.declared.queries.Figures.{Figures}

module _ {S : Type 0} where
  -- The states of the open connections.
  abbrev pub standings : Known S → List (ConnectionState S)
  standings known = map (λ entry. entry.1) known.entries

  -- The number of open connections that have bytes to write.
  abbrev pub writing : Known S → ℕ
  writing known = length (filter is_writing (standings known))

  -- How many connections are open, how many of them have bytes to write, how many bytes all hold, and how many were
  -- accepted.
  abbrev pub figures_of : Known S → Figures
  figures_of known = record {
    connections = length known.entries;
    writing = writing known;
    held = held known;
    opened = known.next;
  }
