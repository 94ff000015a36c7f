-- How a reader of a body handles a piece (RFC 9112, section 6).
use Rattle.std.specs.Prelude.{◌≡◌, ℕ, ◌≤◌, List, ◌++◌, length, drop}
use Rattle.sv_wire.specs.declared.body_reader.BodyEnd.{BodyEnd}
use Rattle.sv_wire.specs.declared.body_reader.BodyEnd.TheVariants.{Complete, Broken}
use Rattle.sv_wire.specs.declared.body_reader.Progress.{Progress}
use Rattle.sv_wire.specs.declared.body_reader.Progress.TheVariants.{Awaits, Ended}
use Rattle.sv_wire.specs.Body.{Awaited, nothing_came, ReadsBody}
use Rattle.sv_wire.specs.Chunks.{Body, unfinished, complete, broken}

-- The reading of a body that ends in this way, with `rest` after it.
abbrev pub ended : BodyEnd → List ℕ → Body
ended (Complete bytes) rest = complete bytes rest
ended (Broken fault) rest = broken fault rest

-- The progress of a reader over a piece. If the body ended, the reader is again before the first byte of a body.
abbrev pub ReadsOn : Awaited → List ℕ → Progress → Awaited → Type 0
ReadsOn before piece Awaits after =
    (after ≡ record { framing = before.framing; came = before.came ++ piece })
    × ReadsBody before.framing (before.came ++ piece) unfinished
ReadsOn before piece (Ended end count) after =
    (count ≤ length piece) × ReadsBody before.framing (before.came ++ piece) (ended end (drop count piece))
    × (after ≡ nothing_came before.framing)
