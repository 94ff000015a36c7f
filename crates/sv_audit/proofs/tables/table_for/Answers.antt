use Rattle.std.proofs.Common.{ℕ, List, [], ◌∷◌, ◌++◌, map, ap, cond, refl, ◌∙◌}
use Rattle.std.specs.Borrow.{Bor}
use Rattle.sv_audit.specs.Access.{asking}
use Rattle.sv_audit.proofs.Made.{table_made}
use Rattle.sv_audit.specs.Rows.{match_every_path, other_paths, row_for}
use Rattle.sv_audit.proofs.tables.table_for.Goals as goal

pub returns : goal.returns
returns c =
    table_made (asking c.args.whose) c.args.constraints.now c.args.rules.now (map (λ (pattern : Bor (List ℕ)). pattern.now) c.in_ok-patterns.patterns.items) (map (λ (pattern : Bor (List ℕ)). pattern.now) c.in_ok-patterns.patterns.items) c.in_ok-rows.rows.items c.from_vec.result
    c.in_ok-patterns.ensures refl
    (c.in_ok-rows.ensures ∙ ap (λ ps. map (row_for (asking c.args.whose) c.args.constraints.now c.args.rules.now) (map (λ (pattern : Bor (List ℕ)). pattern.now) ps)) c.as_slice.ensures.value)
    (c.from_vec.ensures ∙ c.in_ok-push_other_paths.ensures ∙ ap (λ ps. c.in_ok-rows.rows.items ++ cond (match_every_path (map (λ (pattern : Bor (List ℕ)). pattern.now) ps)) [] (other_paths ∷ [])) c.as_slice-2.ensures.value)
