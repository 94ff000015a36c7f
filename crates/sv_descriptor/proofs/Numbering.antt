-- Constraints numbered one after another.
use Rattle.std.proofs.Common.{◌≡◌, ℕ, zero, suc, ◌+◌, ◌<◌, List, [], ◌∷◌, ◌++◌, length, take, drop, get_or, sym, ap, ◌∙◌, subst, arith, add-one, zero-add}
use Rattle.std.specs.Prelude.{slice_set}
use Rattle.sv_constraints.specs.declared.constraint.Constraint.{Constraint}
use Rattle.sv_descriptor.specs.Constraint.{numbered}

numbered-set : (n i : ℕ) (found : List Constraint) (d : Constraint) → i < length found
    → slice_set (numbered n (take i found) ++ drop i found) i (record (get_or (numbered n (take i found) ++ drop i found) i d) { number = i + n })
    ≡ numbered n (take (suc i) found) ++ drop (suc i) found
numbered-set n i [] d l = absurd (omega arith)
numbered-set n zero (c ∷ rest) d l = ap (λ m. record c { number = m } ∷ rest) (zero-add n)
numbered-set n (suc i) (c ∷ rest) d l =
    let cur = numbered (n + 1) (take i rest) ++ drop i rest in
    let same : suc i + n ≡ i + (n + 1) = omega arith in
    ap (λ others. record c { number = n } ∷ others)
    (ap (λ m. slice_set cur i (record (get_or cur i d) { number = m })) same ∙ numbered-set (n + 1) i rest d (omega arith))

-- One more constraint gets its number; those before it have theirs.
pub numbered-next : (found so_far : List Constraint) (i : ℕ) (d : Constraint) → i < length found → so_far ≡ numbered 1 (take i found) ++ drop i found
    → slice_set so_far i (record (get_or so_far i d) { number = i + 1 }) ≡ numbered 1 (take (i + 1) found) ++ drop (i + 1) found
numbered-next found so_far i d l e =
    subst (λ xs. slice_set xs i (record (get_or xs i d) { number = i + 1 }) ≡ numbered 1 (take (i + 1) found) ++ drop (i + 1) found) (sym e)
    (numbered-set 1 i found d l ∙ ap (λ k. numbered 1 (take k found) ++ drop k found) (sym (add-one i)))
