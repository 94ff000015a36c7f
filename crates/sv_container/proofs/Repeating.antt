-- A path that repeats an earlier one.
use Rattle.std.proofs.Common.{◌≡◌, ℕ, ◌+◌, ◌<◌, true, List, [], ◌∷◌, ◌++◌, map, length, get_or, take, drop, sym, ap, ◌∙◌, append_assoc}
use Rattle.std.proofs.lemmas.List.{take_more, take-append-drop, map-append}
use Rattle.sv_container.specs.Paths.{IsRepeatedFirst}
use Rattle.sv_descriptor.proofs.Differing.{Distinct, names_before}
use Rattle.sv_descriptor.specs.Table.{is_among}

pub repeated_at : {X : Type 0} (f : X → List ℕ) (items : List X) (names : List (List ℕ)) (i : ℕ) (item : X)
    → i < length items → item ≡ get_or items i item → Distinct f items names i → is_among names (f item) ≡ true
    → IsRepeatedFirst (map f items) (f item)
repeated_at f items names i item within at before found =
    record {
      front = names_before f items i;
      rest = map f (drop (i + 1) items);
      are = ap (map f) (sym (take-append-drop (i + 1) items)) ∙ map-append f (take (i + 1) items) (drop (i + 1) items)
          ∙ ap (λ front. front ++ map f (drop (i + 1) items))
          (ap (map f) (take_more items i item within) ∙ map-append f (take i items) _ ∙ ap (λ x. names_before f items i ++ f x ∷ []) (sym at))
          ∙ append_assoc (names_before f items i) (f item ∷ []) (map f (drop (i + 1) items));
      differ = before.differ;
      repeated = sym (before.same (f item)) ∙ found;
    }
