-- Bytes that are appended one after another.
use Rattle.std.proofs.Common.{◌≡◌, ℕ, List, [], ◌++◌, sym, ap, ◌∙◌, append_assoc}
use Rattle.std.proofs.lemmas.List.{append-nil}

pub and_more : (out after last : List ℕ) (piece rest : List ℕ) → after ≡ out ++ piece → last ≡ after ++ rest → last ≡ out ++ (piece ++ rest)
and_more out after last piece rest first others = others ∙ ap (λ (front : List ℕ). front ++ rest) first ∙ append_assoc out piece rest

pub and_last : (out after : List ℕ) (piece : List ℕ) → after ≡ out ++ piece → after ≡ out ++ (piece ++ [])
and_last out after piece is = is ∙ ap (λ (back : List ℕ). out ++ back) (sym (append-nil piece))

pub of_same : {A : Type 0} (encode : A → List ℕ) (x y : A) (out after : List ℕ) → x ≡ y → after ≡ out ++ encode x → after ≡ out ++ encode y
of_same encode x y out after same is = is ∙ ap (λ (value : _). out ++ encode value) same
