use Rattle.std.proofs.Common.{Some, arith}
use Rattle.std.proofs.lemmas.Grind.{common_steps}
use Rattle.std.proofs.lemmas.Option.{gets}
use Rattle.sv_realm.proofs.Found.{placed_caller}
use Rattle.sv_realm.proofs.realm.Realm.caller.Goals as goal

pub returns : goal.returns
returns c =
    placed_caller c.self.inside.accounts.items c.args.self.now c.args.number (Some c.in_ok-account.account.now)
    c.self.invariant c.self.view_is (grind (arith, common_steps, gets))
