-- The entries of a queue as a tree, each with the first record of its subtree.
use Rattle.std.specs.Prelude.{◌≡◌, ℕ, ◌+◌, ◌*◌, List, Option, Some, slice_get}
use Rattle.std.specs.Option.{option_and_then}
use Rattle.sv_session.specs.declared.due.Due.{Due}
use Rattle.sv_session.specs.declared.node.Node.{Node}
use Rattle.sv_session.specs.Order.{sooner}

abbrev pub least_at : List Node → ℕ → Option Due
least_at nodes place = option_and_then (λ node. node.least) (slice_get nodes place)

-- The first of a record and all records in the subtrees below an index.
abbrev pub least_below : List Node → Option Due → ℕ → Option Due
least_below nodes own place = sooner (sooner own (least_at nodes (2 * place + 1))) (least_at nodes (2 * place + 2))

-- The entry holds the first record of its subtree.
abbrev pub IsSettled : List Node → ℕ → Type 0
IsSettled nodes place = (node : Node) → slice_get nodes place ≡ Some node → node.least ≡ least_below nodes node.own place
