use Rattle.std.proofs.Common.{None, Some}
use Rattle.sv_realm.proofs.Found.{named_caller}
use Rattle.sv_realm.proofs.realm.Realm.find.Goals as goal

pub returns-in_err-account : goal.returns-in_err-account
returns-in_err-account c =
    rw c.from_residual.ensures (named_caller c.self.inside.accounts.items c.as_slice.result.now c.args.self.now c.args.name.now None
    c.self.invariant c.self.view_is c.as_slice.ensures.value c.in_err-account.ensures)

pub returns : goal.returns
returns c =
    named_caller c.self.inside.accounts.items c.as_slice.result.now c.args.self.now c.args.name.now
    (Some c.in_ok-account.account.now) c.self.invariant c.self.view_is c.as_slice.ensures.value c.in_ok-account.ensures
