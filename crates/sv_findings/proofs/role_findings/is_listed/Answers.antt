use Rattle.std.proofs.Common.{ℕ, List, sym, ◌∙◌}
use Rattle.std.specs.Borrow.{Bor}
use Rattle.std.specs.Str.{bytes_eq}
use Rattle.sv_policy.proofs.Listed.{any_seen}
use Rattle.sv_findings.proofs.role_findings.is_listed.Goals as goal

pub returns : goal.returns
returns c = c.is_among.ensures ∙ sym (any_seen (λ name. bytes_eq name c.args.name.now) (λ (name : Bor (List ℕ)). name.now) c.args.names.now)
