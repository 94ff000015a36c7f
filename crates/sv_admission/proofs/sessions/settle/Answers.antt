use Rattle.std.proofs.Common.{◌≡◌, sym, subst}
use Rattle.sv_exchange.specs.Asked.{asked_in}
use Rattle.sv_admission.specs.Seen.{seen}
use Rattle.sv_admission.specs.Settled.{settled_by}
use Rattle.sv_admission.proofs.sessions.settle.Goals as goal

pub returns-in-LoggedIn : goal.returns-in-LoggedIn
returns-in-LoggedIn c =
    subst (λ outcome. seen c.args.sessions.now.store c.renewed.result
    ≡ settled_by c.args.context_path.now (asked_in c.args.request.now) c.args.held outcome c.args.sessions.now.store)
    (sym c.in-LoggedIn.is) (c.renewed.ensures c.args.sessions.now.store)

pub returns-in-Protected : goal.returns-in-Protected
returns-in-Protected c =
    subst (λ outcome. seen c.args.sessions.now.store c.unchanged.result
    ≡ settled_by c.args.context_path.now (asked_in c.args.request.now) c.args.held outcome c.args.sessions.now.store)
    (sym c.in-Protected.is) (c.unchanged.ensures c.args.sessions.now.store)

pub returns-in-LoginFailed : goal.returns-in-LoginFailed
returns-in-LoginFailed c =
    subst (λ outcome. seen c.args.sessions.now.store c.unchanged-in-LoginFailed.result
    ≡ settled_by c.args.context_path.now (asked_in c.args.request.now) c.args.held outcome c.args.sessions.now.store)
    (sym c.in-LoginFailed.is) (c.unchanged-in-LoginFailed.ensures c.args.sessions.now.store)

pub returns-in-NoSession : goal.returns-in-NoSession
returns-in-NoSession c =
    subst (λ outcome. seen c.args.sessions.now.store c.unchanged-in-NoSession.result
    ≡ settled_by c.args.context_path.now (asked_in c.args.request.now) c.args.held outcome c.args.sessions.now.store)
    (sym c.in-NoSession.is) (c.unchanged-in-NoSession.ensures c.args.sessions.now.store)

pub returns-in-Entered : goal.returns-in-Entered
returns-in-Entered c =
    subst (λ outcome. seen c.args.sessions.now.store c.unchanged-in-Entered.result
    ≡ settled_by c.args.context_path.now (asked_in c.args.request.now) c.args.held outcome c.args.sessions.now.store)
    (sym c.in-Entered.is) (c.unchanged-in-Entered.ensures c.args.sessions.now.store)

pub returns-in-NoLogin : goal.returns-in-NoLogin
returns-in-NoLogin c =
    subst (λ outcome. seen c.args.sessions.now.store c.unchanged-in-NoLogin.result
    ≡ settled_by c.args.context_path.now (asked_in c.args.request.now) c.args.held outcome c.args.sessions.now.store)
    (sym c.in-NoLogin.is) (c.unchanged-in-NoLogin.ensures c.args.sessions.now.store)

pub returns-in-Denied : goal.returns-in-Denied
returns-in-Denied c =
    subst (λ outcome. seen c.args.sessions.now.store c.unchanged-in-Denied.result
    ≡ settled_by c.args.context_path.now (asked_in c.args.request.now) c.args.held outcome c.args.sessions.now.store)
    (sym c.in-Denied.is) (c.unchanged-in-Denied.ensures c.args.sessions.now.store)
