use native.Mathlib.Numerals.{unary_clauses}
use Rattle.sv_program.proofs.FileLines.{found_within, line_ends_within, same_region}
use Rattle.sv_program.proofs.file_line.Fronts.region.Goals as goal

pub returns-clause-region : goal.returns-clause-region
returns-clause-region c = (
  c.in_ok-bounds.bounds.low,
  c.in_ok-bounds.bounds.high,
  (
    found_within _ c.in_ok-between.between.high _ c.in_ok-bounds.bounds.low c.in_ok-bounds.bounds.high (simp unary_clauses at (rw c.requires at c.in_ok-between.ensures.0)) (rw c.requires at c.in_ok-bounds.ensures),
    same_region _ _ c.in_ok-bounds.bounds.low c.in_ok-bounds.bounds.high c.requires,
  ),
)

pub returns-clause-within : goal.returns-clause-within
returns-clause-within c = rw c.requires (line_ends_within c.args.self.now.text.now c.in_ok-bounds.bounds.high)
