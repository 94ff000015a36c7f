use Rattle.std.proofs.Common.{ℕ, List, ◌∙◌, ap}
use Rattle.sv_tree.specs.FileServlet.{sent_to}
use Rattle.sv_exchange.specs.Asked.{asked_in}
use Rattle.sv_admission.specs.Seen.{seen}
use Rattle.sv_admission.proofs.Saving.{is_saved, not_saved}
use Rattle.sv_admission.proofs.sessions.interrupt.Goals as goal

pub returns-then-not-is_get : goal.returns-then-not-is_get
returns-then-not-is_get c =
    let asked = asked_in c.args.request.now in
    not_saved c.args.context_path.now asked c.args.held c.args.sessions.now.store c.is_get.result (seen c.args.sessions.now.store c.unchanged.result)
    c.is_get.ensures c.if-not-is_get.true (c.unchanged.ensures c.args.sessions.now.store)

pub returns : goal.returns
returns c =
    let asked = asked_in c.args.request.now in
    is_saved c.args.context_path.now asked c.in_ok-target.target c.args.held c.args.sessions.now.store c.save_in.new.sessions.store c.is_get.result c.save_in.result
    c.is_get.ensures c.if-not-is_get.false
    (c.in_ok-target.ensures ∙ ap (λ (path : List ℕ). sent_to c.args.context_path.now path asked.canon.query) c.as_str.ensures) c.save_in.ensures
