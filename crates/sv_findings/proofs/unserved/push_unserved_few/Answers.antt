use Rattle.std.proofs.Common.{◌≡◌, ◌++◌, ◌∙◌, ℕ, List, OnOk, ap, map, subst}
use Rattle.std.specs.Borrow.{Bor}
use Rattle.std.specs.List.{flat_map}
use Rattle.sv_findings.specs.Unserved.{is_unserved, reached_files, unserved_in}
use Rattle.sv_findings.proofs.unserved.push_unserved_few.Goals as goal

pub returns : goal.returns
returns c =
    subst (λ (patterns : List (List ℕ)). OnOk c.push_unserved_at.result (c.push_unserved_at.new.findings.items ≡ c.args.findings.now.items
    ++ flat_map (unserved_in (is_unserved c.args.reaches.now.0 c.args.reaches.now.1 patterns c.args.servlets.now (reached_files c.args.reaches.now.0 c.args.reaches.now.1 c.args.files.now))) c.args.constraints.now))
    c.in_ok-of.ensures
    (subst (λ (files : List (List ℕ)). OnOk c.push_unserved_at.result (c.push_unserved_at.new.findings.items ≡ c.args.findings.now.items
    ++ flat_map (unserved_in (is_unserved c.args.reaches.now.0 c.args.reaches.now.1 c.in_ok-of.field-0 c.args.servlets.now files)) c.args.constraints.now))
    (ap (map (λ (file : Bor (List ℕ)). file.now)) c.as_slice.ensures.value ∙ c.in_ok-files.ensures)
    c.push_unserved_at.ensures)
