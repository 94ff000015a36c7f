-- The context paths that serve a path, and its front before the last slash.
use Rattle.std.proofs.Common.{ℕ, ◌≡◌, ◌||◌, eqb, List, None, Some, ap}
use Rattle.std.specs.Str.{bytes_eq, NoCharPasses}
use Rattle.std.specs.Str.Pattern.{RFindsChar, SplitsAroundMatch}
use Rattle.sv_text.proofs.LastSlash.{below-cut, below-none}
use Rattle.sv_mapping.specs.Fronts.{serves}
use Rattle.sv_mapping.specs.Pattern.{is_at_or_below}

pub serves-cut : (text front back context : List ℕ) → SplitsAroundMatch (RFindsChar 47) text front back
    → is_at_or_below context text ≡ (bytes_eq text context || serves context (Some front))
serves-cut text front back context h = ap (λ below. bytes_eq text context || below) (below-cut text front back context h)

pub serves-none : (text context : List ℕ) → NoCharPasses (λ d. eqb d 47) text → is_at_or_below context text ≡ (bytes_eq text context || serves context None)
serves-none text context none = ap (λ below. bytes_eq text context || below) (below-none text context none)
