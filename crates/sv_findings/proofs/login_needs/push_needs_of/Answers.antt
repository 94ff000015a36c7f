use Rattle.std.proofs.Common.{◌≡◌, ℕ, List, ◌++◌, OnOk, map, ap, ap₂, ◌∙◌, subst}
use Rattle.std.specs.Borrow.{Bor}
use Rattle.sv_policy.specs.Patterns.{different}
use Rattle.sv_findings.specs.LoginNeeds.{base_folders, needed_paths}
use Rattle.sv_findings.specs.declared.finding.Finding.TheVariants as finding
use Rattle.sv_findings.proofs.login_needs.push_needs_of.Goals as goal

abbrev seen : List (Bor (List ℕ)) → List (List ℕ)
seen texts = map (λ (text : Bor (List ℕ)). text.now) texts

pub returns : goal.returns
returns c =
    let folders : seen c.as_slice.result.now ≡ base_folders c.args.page.now.path (seen c.args.asked.now) =
    ap seen c.as_slice.ensures.value ∙ c.in_ok-folders.ensures ∙ ap (λ own. base_folders own (seen c.args.asked.now)) c.as_str.ensures in
    subst (λ (paths : List (List ℕ)). OnOk c.push_needed.result (c.push_needed.new.findings.items ≡ c.args.findings.now.items ++ map finding.LoginNeeds (different paths)))
    (c.as_slice-2.ensures.value ∙ c.in_ok-needed.ensures
    ∙ ap₂ (λ its text. needed_paths c.args.context.now.reaches.now.0 c.args.context.now.reaches.now.1 c.args.context.now.constraints.now c.args.context.now.rules.now its text) folders c.as_str-2.ensures)
    c.push_needed.ensures
