use Rattle.std.proofs.Common.{◌==◌, ◌∙◌, None, rules}
use Rattle.std.specs.Option.{option_and_then, option_or}
use borrow.Author.Tests.{tests}
use Rattle.std.proofs.lemmas.Iterator.Consumers.{fold_from_yields_List}
use Rattle.std.proofs.lemmas.Iterator.Splits.{YieldsList-from_slice_split}
use Rattle.httparse.specs.Grammar.{trim_ows}
use Rattle.sv_session.specs.Store.{number_of}
use Rattle.sv_login.specs.Cookies.{pieces_of, value_of}
use Rattle.sv_login.proofs.HeldLemmas.{first_by_fold}
use Rattle.sv_login.proofs.request_session.held_by_value.Goals as goal

pub returns : goal.returns
returns c =
    fold_from_yields_List _ (λ found piece. option_or found (option_and_then (λ value. number_of value c.args.sessions.now.store) (value_of c.args.name.now (trim_ows piece))))
    None _ c.fold.ensures.ran
    (YieldsList-from_slice_split _ (λ b. b == 59) c.args.value.now c.split.ensures.rest c.split.ensures.done
    c.split.ensures.closure (λ x b q k. search (rules, tests)))
    (λ a x b q k. search (rules, tests))
    ∙ first_by_fold (λ value. number_of value c.args.sessions.now.store) (λ piece. value_of c.args.name.now (trim_ows piece)) None (pieces_of c.args.value.now)
