-- Two drops in sequence.
use Rattle.std.proofs.Common.{ℕ, List, ◌++◌, Option, None, Some, sym, ap, ◌∙◌, arith, append_assoc}
use Rattle.std.proofs.lemmas.List.{length-append}
use Rattle.std.specs.Io.KnownBytes.{Consumes}
use Rattle.sv_readiness.specs.Dropping.{Drops}

both_consumed : (before between after : Option (List ℕ)) (first second : List ℕ)
    → Consumes before between first → Consumes between after second → Consumes before after (first ++ second)
both_consumed None between after first second one two = tt
both_consumed (Some known) None after first second one two = absurd one
both_consumed (Some known) (Some rest) None first second one two = absurd two
both_consumed (Some known) (Some rest) (Some end) first second one two = one ∙ ap (λ more. first ++ more) two ∙ sym (append_assoc first second end)

-- two drops in sequence are one drop
pub drops_both : (before between after : Option (List ℕ)) (left middle end : ℕ) → Drops before left middle between → Drops between middle end after → Drops before left end after
drops_both before between after left middle end (first, one, less) (second, two, least) =
    let long = length-append first second in
    (first ++ second, both_consumed before between after first second one two, omega arith)
