use Rattle.std.proofs.Common.{◌≡◌, ℕ, ◌&&◌, length, take, ltb}
use Rattle.std.specs.List.{list_any}
use Rattle.sv_mapping.specs.Pattern.{is_at_or_below}
use Rattle.sv_mapping.proofs.context_path.longest_path.Given as goal

abbrev pub invariant-loop-context : goal.invariant-loop-context
invariant-loop-context g l =
    (len : ℕ) → list_any (λ context. is_at_or_below (g.C.HasContextPath.path_of context) l.path && ltb len (length (g.C.HasContextPath.path_of context))) (take l.context-index l.contexts) ≡ ltb len l.longest
