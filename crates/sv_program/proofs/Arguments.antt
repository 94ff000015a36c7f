-- A list of one argument.
use Rattle.std.proofs.Common.{◌≡◌, ℕ, Bool, true, List, [], ◌∷◌, length, map, eqb, ap, sym, ◌∙◌, arith}
use Rattle.std.specs.Str.{bytes_eq}
use Rattle.std.proofs.lemmas.Bool.{eqb-true}
use Rattle.std.proofs.lemmas.Slice.Eq.{bytes_eq-Decides}

pub one_argument : {A : Type 0} (text : A → List ℕ) (items : List A) (x : A) (rest : List A) (seen wanted : List ℕ) (equal : Bool)
    → items ≡ x ∷ rest → eqb (length rest) 0 ≡ true → seen ≡ text x → equal ≡ bytes_eq seen wanted → equal ≡ true → map text items ≡ wanted ∷ []
one_argument text items x [] seen wanted equal shape few shown test holds =
    rw shape (ap (λ word. word ∷ []) (sym shown ∙ (bytes_eq-Decides seen wanted).0 (sym test ∙ holds)))
one_argument text items x (y ∷ rest) seen wanted equal shape few shown test holds =
    absurd (omega (arith, eqb-true (length (y ∷ rest)) 0 few))
