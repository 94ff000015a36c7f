-- Texts that are put together from parts.
use Rattle.std.proofs.Common.{◌≡◌, ℕ, List, ◌++◌, ap, map, sym, ◌∙◌, append_assoc}
use Rattle.std.proofs.lemmas.List.{map-append}

pub joined : (front shown middle last word told : List ℕ) → word ≡ shown → told ≡ last → front ++ (word ++ (middle ++ told)) ≡ front ++ shown ++ middle ++ last
joined front shown middle last word told one two =
    ap (λ (text : List ℕ). front ++ (text ++ (middle ++ told))) one
    ∙ ap (λ (text : List ℕ). front ++ (shown ++ (middle ++ text))) two
    ∙ sym (append_assoc front shown (middle ++ last))
    ∙ sym (append_assoc (front ++ shown) middle last)

pub more_items : {A B : Type 0} (text : A → B) (items more : List A) (texts : List B) → map text items ≡ texts → map text (items ++ more) ≡ texts ++ map text more
more_items {A} {B} text items more texts same = map-append text items more ∙ ap (λ (front : List B). front ++ map text more) same
