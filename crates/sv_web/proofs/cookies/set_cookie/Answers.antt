use Rattle.std.specs.Prelude.{ℕ, List, codes}
use Rattle.std.proofs.Common.{◌≡◌, ap, ◌∙◌, rules}
use Rattle.sv_exchange.specs.Changing.{AddHeader, answer, left_by}
use Rattle.sv_web.specs.Cookies.{cookie_text}
use Rattle.sv_web.proofs.Doing.{does_left}
use Rattle.sv_web.proofs.cookies.set_cookie.Goals as goal

pub returns-clause-added : goal.returns-clause-added
returns-clause-added c =
    let text : c.as_str.result.now ≡ cookie_text c.args.cookie.now = search rules in
    does_left (AddHeader (codes "set-cookie") c.as_str.result.now) c.in_ok-add_header.field-0 c.args.exchange.now c.add_header.new.self
    c.in_ok-add_header.ensures.does
    ∙ ap (λ (t : List ℕ). left_by (answer (AddHeader (codes "set-cookie") t) c.args.exchange.now) (AddHeader (codes "set-cookie") t) c.args.exchange.now) text
