-- A loop that applies a step to each item of a list.
use Rattle.std.proofs.Common.{◌≡◌, ◌∙◌, ℕ, ◌+◌, ◌<◌, List, [], ◌∷◌, ◌++◌, length, drop, get_or, drop-cons, add-one, Ok, Err, refl, suc, sym, ap, append_assoc}
use Rattle.sv_text.specs.Steps.{◌>>=◌}
use Rattle.sv_program.specs.Configuration.{Step, each}

after : {A : Type 0} (bs : List A) (b : A) (rest : Step (List A))
    → (rest >>= λ more. Ok ((bs ++ b ∷ []) ++ more)) ≡ ((rest >>= λ more. Ok (b ∷ more)) >>= λ more. Ok (bs ++ more))
after bs b (Ok more) = ap Ok (append_assoc bs (b ∷ []) more)
after bs b (Err fault) = refl

pub one_more : {A B : Type 0} (step : A → Step B) (items : List A) (i : ℕ) (a : A) (b : B) (bs next : List B) (whole : Step (List B))
    → i < length items → a ≡ get_or items i a → step a ≡ Ok b → next ≡ bs ++ b ∷ []
    → (each step (drop i items) >>= λ rest. Ok (bs ++ rest)) ≡ whole
    → (each step (drop (i + 1) items) >>= λ rest. Ok (next ++ rest)) ≡ whole
one_more step items i a b bs next whole within at gives pushed known =
    let front : drop i items ≡ a ∷ drop (i + 1) items = rw (add-one, drop-cons items i a) (ap (λ x. x ∷ drop (suc i) items) (sym at)) in
    let shown = rw front at known in
    rw pushed (after bs b (each step (drop (i + 1) items)) ∙ rw gives at shown)
