use Rattle.std.proofs.Common.{None, Some, ap, ◌∙◌}
use Rattle.std.specs.Bool.{then_some}
use Rattle.std.specs.Option.{option_copied}
use Rattle.sv_realm.specs.Account.{account_fits}
use Rattle.sv_realm.proofs.Found.{checked_caller}
use Rattle.sv_realm.proofs.realm.Realm.check.Goals as goal

pub returns-in_err-account : goal.returns-in_err-account
returns-in_err-account c =
    rw c.from_residual.ensures (checked_caller c.self.inside.accounts.items c.as_slice.result.now c.args.self.now c.args.name.now
    c.args.password.now None c.self.invariant c.self.view_is c.as_slice.ensures.value c.in_err-account.ensures)

pub returns-then-fitting : goal.returns-then-fitting
returns-then-fitting c =
    let account = c.in_ok-account.account.now in
    ap (λ passed. then_some passed account.caller)
    (c.if-fitting.ensures ∙ ap (λ named. account_fits (option_copied named) c.args.password.now) c.in_ok-account.was)
    ∙ checked_caller c.self.inside.accounts.items c.as_slice.result.now c.args.self.now c.args.name.now c.args.password.now
    (Some account) c.self.invariant c.self.view_is c.as_slice.ensures.value c.in_ok-account.ensures

pub returns-else-fitting : goal.returns-else-fitting
returns-else-fitting c =
    let account = c.in_ok-account.account.now in
    ap (λ passed. then_some passed account.caller)
    (c.if-fitting.ensures ∙ ap (λ named. account_fits (option_copied named) c.args.password.now) c.in_ok-account.was)
    ∙ checked_caller c.self.inside.accounts.items c.as_slice.result.now c.args.self.now c.args.name.now c.args.password.now
    (Some account) c.self.invariant c.self.view_is c.as_slice.ensures.value c.in_ok-account.ensures
