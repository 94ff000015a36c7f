-- The loop that builds the deployment of each context.
use Rattle.std.proofs.Common.{◌≡◌, ◌∙◌, List, [], ◌∷◌, ◌++◌, map, Ok, refl, ap}
use Rattle.sv_deployments.proofs.Steps.{behind}
use Rattle.sv_text.specs.Steps.{◌>>=◌}
use Rattle.sv_program.specs.Configuration.{Step, each}

-- one step of the loop
pub one_more : {A B : Type 0} (step : A → Step B) (left rest : List A) (a : A) (b : B) (bs next : List B) (whole : Step (List B))
    → left ≡ a ∷ rest → step a ≡ Ok b → next ≡ bs ++ b ∷ []
    → (each step left >>= λ others. Ok (bs ++ others)) ≡ whole
    → (each step rest >>= λ others. Ok (next ++ others)) ≡ whole
one_more step left rest a b bs next whole front gives pushed known =
    let shown = rw front at known in
    rw pushed (behind bs b (each step rest) ∙ rw gives at shown)

-- the view of a list after one more item
pub seen_more : {A B : Type 0} (view : A → B) (made next : List A) (a : A) → next ≡ made ++ a ∷ [] → map view next ≡ map view made ++ view a ∷ []
seen_more view made next a pushed = rw pushed (pushed_view view made a)
  where
    pushed_view : {A B : Type 0} (view : A → B) (xs : List A) (x : A) → map view (xs ++ x ∷ []) ≡ map view xs ++ view x ∷ []
    pushed_view view [] x = refl
    pushed_view view (y ∷ ys) x = ap (λ others. view y ∷ others) (pushed_view view ys x)
