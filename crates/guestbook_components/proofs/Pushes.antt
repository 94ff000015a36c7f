-- Texts appended in order.
use Rattle.std.proofs.Common.{◌≡◌, ℕ, List, ◌++◌, ap, ◌∙◌, append_assoc}

pub two : (old mid new a b : List ℕ) → mid ≡ old ++ a → new ≡ mid ++ b → new ≡ old ++ (a ++ b)
two old mid new a b first second = second ∙ ap (λ (text : List ℕ). text ++ b) first ∙ append_assoc old a b

pub three : (old one other new a b c : List ℕ) → one ≡ old ++ a → other ≡ one ++ b → new ≡ other ++ c → new ≡ old ++ (a ++ b ++ c)
three old one other new a b c first second third = two old other new (a ++ b) c (two old one other a b first second) third
