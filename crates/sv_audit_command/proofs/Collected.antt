-- A loop that makes a value of each item of a list.
use Rattle.std.proofs.Common.{◌≡◌, ◌∙◌, List, [], ◌∷◌, ◌++◌, map, sym, ap, append_assoc}
use Rattle.std.proofs.lemmas.List.{map-append}

pub one_more_made : {A B : Type 0} (f : A → B) (made next : List B) (done left rest all : List A) (a : A) (b : B)
    → (made ≡ map f done) × (done ++ left ≡ all) → left ≡ a ∷ rest → next ≡ made ++ b ∷ [] → b ≡ f a
    → (next ≡ map f (done ++ a ∷ [])) × ((done ++ a ∷ []) ++ rest ≡ all)
one_more_made f made next done left rest all a b known first pushed is = (
  pushed ∙ ap (λ front. front ++ b ∷ []) known.0 ∙ ap (λ last. map f done ++ last ∷ []) is ∙ sym (map-append f done (a ∷ [])),
  append_assoc done (a ∷ []) rest ∙ ap (λ items. done ++ items) (sym first) ∙ known.1,
)
