-- Statuses of a handle that holds nothing, and of calls that always succeed.
use Rattle.std.proofs.Common.{◌≡◌, refl, sym, subst, ℕ, List, Option, Some, None}
use Rattle.std.specs.Prelude.{IsUtf8}
use Rattle.sv_policy_c.specs.Deciding.{IfHeld}
use Rattle.sv_policy_c.specs.declared.engine.Engine.{Engine}
use Rattle.sv_policy_c.specs.declared.status.Status.{Status}
use Rattle.sv_policy_c.specs.declared.status.Status.TheVariants as status

pub nothing_held : (does : Engine → Status → Type 0) (before : Option Engine) → before ≡ None → IfHeld does before status.Nothing
nothing_held does before none = subst (λ (held : Option Engine). IfHeld does held status.Nothing) (sym none) refl

pub done_held : (before : Option Engine) (engine : Engine) → before ≡ Some engine → IfHeld (λ _ told. told ≡ status.Written) before status.Written
done_held before engine some = subst (λ (held : Option Engine). IfHeld (λ _ told. told ≡ status.Written) held status.Written) (sym some) refl

-- the statuses `Nothing` and `Written` do not report a text as invalid
pub nothing_calls : (text : List ℕ) → status.Nothing ≡ status.NotText → ¬ (IsUtf8 text)
nothing_calls text same = absurd (cc)

pub written_calls : (first second : List ℕ) → status.Written ≡ status.NotText → ¬ (IsUtf8 first × IsUtf8 second)
written_calls first second same = absurd (cc)
