-- Sequences of calls.
use Rattle.std.proofs.Common.{◌≡◌, ℕ, ◌<◌, List, [], ◌∷◌, ◌++◌, refl, subst, sym, ap, ◌∙◌, append_assoc, append-nil, length, map, take, drop}
use Rattle.std.proofs.lemmas.List.{map-append, take-append-drop}
use Rattle.std.specs.List.{concat}
use Rattle.sv_streams.specs.Calls.{AreMade, Call, Making, Took, WriteFailed}

-- One more call was made.
pub one_more : {S : Type 0} (makes : Making S) (before between after : S) (calls : List Call) (call : Call)
    → AreMade makes before calls between → makes between call after → AreMade makes before (calls ++ call ∷ []) after
one_more {S} makes before between after [] call are made = let P : S → Type 0 = λ s. makes s call after in (after, subst P are made, refl)
one_more makes before between after (first ∷ calls) call are made =
    (are.0, are.1, one_more makes are.0 between after calls call are.2 made)

concat_more : (pieces : List (List ℕ)) (piece : List ℕ) → concat (pieces ++ piece ∷ []) ≡ concat pieces ++ piece
concat_more [] piece = append-nil piece
concat_more (first ∷ pieces) piece = ap (λ bytes. first ++ bytes) (concat_more pieces piece) ∙ sym (append_assoc first (concat pieces) piece)

-- One more piece was written.
pub piece_more : {S : Type 0} (makes : Making S) (before between after : S) (pieces : List (List ℕ)) (bytes rest behind : List ℕ) (count : ℕ)
    → AreMade makes before (map Took pieces) between → concat pieces ++ rest ≡ bytes
    → makes between (Took (take count rest)) after → behind ≡ drop count rest
    → (more : List (List ℕ)) × AreMade makes before (map Took more) after × (concat more ++ behind ≡ bytes)
piece_more makes before between after pieces bytes rest behind count are is made left =
    let piece = take count rest in
    let P : List Call → Type 0 = λ calls. AreMade makes before calls after in (
      pieces ++ piece ∷ [],
      subst P (sym (map-append Took pieces (piece ∷ []))) (one_more makes before between after (map Took pieces) (Took piece) are made),
      ap (λ front. front ++ behind) (concat_more pieces piece)
          ∙ append_assoc (concat pieces) piece behind
          ∙ ap (λ text. concat pieces ++ (piece ++ text)) left
          ∙ ap (λ text. concat pieces ++ text) (take-append-drop count rest)
          ∙ is,
    )

-- A write failed.
pub failed_at : {S : Type 0} (makes : Making S) (before between after : S) (pieces : List (List ℕ)) (bytes rest : List ℕ)
    → AreMade makes before (map Took pieces) between → concat pieces ++ rest ≡ bytes
    → makes between WriteFailed after → 0 < length rest
    → (written : List (List ℕ)) × (calls : List Call) × AreMade makes before calls after
    × ((left : List ℕ) × (calls ≡ map Took written ++ WriteFailed ∷ []) × (concat written ++ left ≡ bytes) × (0 < length left))
failed_at makes before between after pieces bytes rest are is made left =
    (pieces, map Took pieces ++ WriteFailed ∷ [], one_more makes before between after (map Took pieces) WriteFailed are made, (rest, refl, is, left))

-- All bytes were written.
pub written : {S : Type 0} (makes : Making S) (before after : S) (pieces : List (List ℕ)) (bytes rest : List ℕ)
    → AreMade makes before (map Took pieces) after → concat pieces ++ rest ≡ bytes → rest ≡ []
    → (written : List (List ℕ)) × (calls : List Call) × AreMade makes before calls after × ((calls ≡ map Took written) × (concat written ≡ bytes))
written makes before after pieces bytes rest are is empty =
    (pieces, map Took pieces, are, (refl, sym (append-nil (concat pieces)) ∙ ap (λ text. concat pieces ++ text) (sym empty) ∙ is))
