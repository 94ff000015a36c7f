use Rattle.std.proofs.Common.{ℕ, List, sym, ◌∙◌}
use Rattle.std.specs.Borrow.{Bor}
use Rattle.sv_mapping.specs.Form.{form_seen}
use Rattle.sv_policy.proofs.Listed.{any_seen}
use Rattle.sv_findings.specs.Unserved.{may_hold}
use Rattle.sv_findings.proofs.unserved.may_be_among.Goals as goal

pub returns : goal.returns
returns c = c.may_hold_one.ensures ∙ sym (any_seen (may_hold (form_seen c.args.form)) (λ (file : Bor (List ℕ)). file.now) c.args.files.now)
