-- The bytes that connections hold: those that wait to be passed to the handler or to be written, and those of
-- unfinished messages.
use Rattle.std.specs.Prelude.{ℕ, ◌+◌, ◌-◌, ◌≤◌, ◌^◌, length, map, min}
use Rattle.std.specs.List.{fold}
use Rattle.sv_connection.specs.Known.{AreAtRest, Known, place_in}
use Rattle.sv_connection.specs.States.{ConnectionState}

-- The sum of two counts, at most 2^64 - 1.
abbrev pub together : ℕ → ℕ → ℕ
together one other = min (one + other) (2 ^ 64 - 1)

module _ {S : Type 0} where
  -- The number of bytes that a connection holds.
  abbrev pub weight : ConnectionState S → ℕ
  weight at = together (together (length at.ahead) (length at.unsent)) at.under_way

  -- The number of bytes that all connections hold.
  abbrev pub held : Known S → ℕ
  held known = fold (λ sum at. together sum (weight at)) 0 (map (λ entry. entry.1) known.entries)

  -- All connections together hold at most as many bytes as they may.
  abbrev pub IsWithin : Known S → Type 0
  IsWithin known = held known ≤ known.limits.held_bytes

  -- They do so, and each of them rests.
  abbrev pub IsSettled : Known S → Type 0
  IsSettled known = AreAtRest (place_in known) × IsWithin known

  -- They hold no more than they may, if they did not before.
  abbrev pub StaysWithin : Known S → Known S → Type 0
  StaysWithin known known_after = IsWithin known → IsWithin known_after
