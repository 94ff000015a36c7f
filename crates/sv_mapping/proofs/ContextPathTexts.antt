-- Paths that begin with a context path.
use Rattle.std.proofs.Common.{◌≡◌, ℕ, true, false, List, [], ◌∷◌, ◌++◌, length, take, drop, eqb, refl, sym, ◌∙◌, ap, append_assoc, append-nil, inl, inr}
use Rattle.std.specs.List.{starts_with}
use Rattle.std.specs.Str.{bytes_eq}
use Rattle.std.proofs.lemmas.Bool.{false_from_ne_true, or_cases, or_from}
use Rattle.std.proofs.lemmas.Bool.Decides.{Decides-eqb}
use Rattle.std.proofs.lemmas.Slice.Eq.{bytes_eq-Decides, starts_is}
use Rattle.std.proofs.Math.Seq.{take-append_seam, take-length}
use Rattle.sv_mapping.specs.Pattern.{is_at_or_below}

same_bytes : (xs ys : List ℕ) → bytes_eq xs ys ≡ true → xs ≡ ys
same_bytes xs ys h = (bytes_eq-Decides xs ys).0 h

starts_not : (text front : List ℕ) → ((rest : List ℕ) → text ≡ front ++ rest → ⊥) → starts_with eqb text front ≡ false
starts_not text front none = false_from_ne_true _ (λ h. none _ ((starts_is Decides-eqb text front _ refl).0 h))

pub below_none : (context path : List ℕ) → ((rest : List ℕ) → path ≡ context ++ rest → ⊥) → is_at_or_below context path ≡ false
below_none context path none =
    or_from _ _ (false_from_ne_true _ (λ same. none [] (same_bytes path context same ∙ sym (append-nil context))))
    (starts_not path (context ++ 47 ∷ []) (λ rest k. none (47 ∷ rest) (k ∙ append_assoc context (47 ∷ []) rest)))

-- The context path is a front of the path.
pub below_front : (context path : List ℕ) → is_at_or_below context path ≡ true → take (length context) path ≡ context
below_front context path h =
    elim (or_cases _ _ h) [
      | inl whole ↦ rw (same_bytes path context whole) (take-length context)
      | inr below ↦
          let front : path ≡ (context ++ 47 ∷ []) ++ drop (length (context ++ 47 ∷ [])) path = (starts_is Decides-eqb path (context ++ 47 ∷ []) _ refl).0 below in
          let cut : take (length context) ((context ++ 47 ∷ []) ++ drop (length (context ++ 47 ∷ [])) path) ≡ context = rw append_assoc (take-append_seam context _) in
          ap (take (length context)) front ∙ cut
    ]
