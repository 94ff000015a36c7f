use Rattle.std.proofs.Common.{◌≡◌, ℕ, Bool, true, false, ◌||◌, List, [], ◌∷◌, ◌++◌, length, drop, cond, refl, ap, ◌∙◌}
use Rattle.std.proofs.lemmas.Bool.Decides.{Decides-eqb}
use Rattle.std.proofs.lemmas.Slice.Eq.{starts_is}
use Rattle.std.specs.Prelude.{codes, nat_eq}
use Rattle.std.specs.List.{starts_with}
use Rattle.std.specs.Str.{bytes_eq}
use Rattle.sv_mapping.proofs.Rooted.{slashed_rooted}
use Rattle.sv_mapping.specs.Segments.{is_rooted}
use Rattle.sv_audit.proofs.Shapes.{after}
use Rattle.sv_audit.proofs.laws.served_paths_are_rooted.Goals as goal

rooted_at : (context path : List ℕ) (same : Bool) → (same || starts_with nat_eq path (context ++ codes "/")) ≡ true → is_rooted (cond same (codes "/") (drop (length context) path)) ≡ true
rooted_at context path true at = refl
rooted_at context path false at =
    let is : path ≡ (context ++ 47 ∷ []) ++ drop (length (context ++ 47 ∷ [])) path = (starts_is Decides-eqb path (context ++ 47 ∷ []) _ refl).0 at in
    slashed_rooted (drop (length context) path) (drop (length (context ++ 47 ∷ [])) path)
    (ap (drop (length context)) is ∙ after context (drop (length (context ++ 47 ∷ [])) path))

pub returns : goal.returns
returns c = λ context path at. rooted_at context path (bytes_eq path context) at
