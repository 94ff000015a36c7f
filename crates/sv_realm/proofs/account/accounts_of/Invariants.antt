use Rattle.std.proofs.Common.{◌≡◌, ◌++◌, vec_len, length, map}
use Rattle.std.specs.List.{enumerate_from}
use Rattle.std.specs.Vec.Iter.{into_iter_items}
use Rattle.sv_realm.specs.Account.{account_of}
use Rattle.sv_realm.proofs.account.accounts_of.Given as goal

abbrev pub invariant-loop-user : goal.invariant-loop-user
invariant-loop-user l =
    (l.yielded ++ into_iter_items l.user-iterator ≡ l.fn.users.items)
    × (l.accounts.items ≡ map account_of (enumerate_from 0 l.yielded))
    × (vec_len l.accounts ≡ length l.yielded)
