-- The input of the command `first`.
use Rattle.std.proofs.Common.{◌≡◌, ℕ, List, [], ◌++◌, Option, Some, None, take, IfSome, option_map}

-- reading the first bytes of a stream into an empty vector
pub read_front : (stream : Option (List ℕ)) (limit : ℕ) (before after : List ℕ)
    → before ≡ []
    → IfSome (option_map (take limit) stream) (λ bytes. after ≡ before ++ bytes)
    → IfSome stream (λ bytes. after ≡ take limit bytes)
read_front None limit before after empty read = tt
read_front (Some bytes) limit before after empty read = cc
