-- Texts appended one after another.
use Rattle.std.proofs.Common.{◌≡◌, ℕ, List, ◌++◌, ap, ◌∙◌}
use Rattle.std.proofs.lemmas.List.{append_assoc}

pub pushed : (old before text between after : List ℕ) → between ≡ old ++ before → after ≡ between ++ text → after ≡ old ++ (before ++ text)
pushed old before text between after was is = is ∙ ap (λ bytes. bytes ++ text) was ∙ append_assoc old before text
