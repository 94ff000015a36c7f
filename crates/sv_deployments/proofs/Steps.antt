-- A loop that makes one component for each item.
use Rattle.std.proofs.Common.{◌≡◌, ◌∙◌, ℕ, ◌+◌, ◌<◌, List, [], ◌∷◌, ◌++◌, length, drop, get_or, drop-cons, add-one, Result, Ok, Err, refl, suc, sym, ap, append_assoc, length-append}
use Rattle.sv_text.specs.Steps.{◌>>=◌}
use Rattle.sv_deployments.specs.Parts.{each_from}

pub behind : {A E : Type 0} (bs : List A) (b : A) (rest : Result (List A) E)
    → (rest >>= λ more. Ok ((bs ++ b ∷ []) ++ more)) ≡ ((rest >>= λ more. Ok (b ∷ more)) >>= λ more. Ok (bs ++ more))
behind bs b (Ok more) = ap Ok (append_assoc bs (b ∷ []) more)
behind bs b (Err fault) = refl

pub one_more : {A B E : Type 0} (step : ℕ → A → Result B E) (items : List A) (i : ℕ) (a : A) (b : B) (bs next : List B) (whole : Result (List B) E)
    → i < length items → a ≡ get_or items i a → step (length bs) a ≡ Ok b → next ≡ bs ++ b ∷ []
    → (each_from step (length bs) (drop i items) >>= λ rest. Ok (bs ++ rest)) ≡ whole
    → (each_from step (length next) (drop (i + 1) items) >>= λ rest. Ok (next ++ rest)) ≡ whole
one_more step items i a b bs next whole within at gives pushed known =
    let front : drop i items ≡ a ∷ drop (i + 1) items = rw (add-one, drop-cons items i a) (ap (λ x. x ∷ drop (suc i) items) (sym at)) in
    let more : length (bs ++ b ∷ []) ≡ length bs + 1 = length-append bs (b ∷ []) in
    let shown = rw front at known in
    rw (pushed, more) (behind bs b (each_from step (length bs + 1) (drop (i + 1) items)) ∙ rw gives at shown)
