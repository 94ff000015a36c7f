use Rattle.std.proofs.Common.{ℕ, ◌<◌, List, length, ap, arith}
use Rattle.sv_wire.specs.declared.text_kind.TextKind.TheVariants as text
use Rattle.sv_wire.specs.declared.limits.TheConstants.{MAX_TRAILER_LEN}
use Rattle.sv_wire.specs.declared.machine.Stage.{Stage}
use Rattle.sv_wire.specs.declared.machine.Stage.TheVariants.{Plain, SizeLine, Data, DataEnd, Trailer}
use Rattle.sv_wire.specs.Chunks.{text_limit}
use Rattle.sv_wire.specs.Machine.{FitsStage}
use Rattle.sv_text.proofs.FrontLemmas.{Unended-inverse}
use Rattle.sv_wire.proofs.laws.open_texts_are_short.Goals as goal

is_short : (stage : Stage) (held bytes : List ℕ) → FitsStage stage held bytes → length held < MAX_TRAILER_LEN
is_short (Plain count) held bytes fit = omega (arith, ap length fit)
is_short SizeLine held bytes fit = omega (arith, (Unended-inverse (text_limit text.SizeLine) held _ fit.0).1)
is_short (Data count) held bytes fit = omega (arith, ap length fit.0)
is_short DataEnd held bytes fit = omega (arith, fit.0)
is_short Trailer held bytes fit = (Unended-inverse (text_limit text.Trailer) held _ fit).1

pub returns : goal.returns
returns c machine fit = is_short machine.stage machine.held.items machine.body.items fit
