use Rattle.std.proofs.Common.{ap, sym, subst, ◌∙◌, arith}
use Rattle.std.specs.Cow.{cow_str_bytes}
use Rattle.std.proofs.lemmas.List.Elements.{All-from_get_or}
use Rattle.percent_encoding.proofs.PercentLemmas.{IsByte}
use Rattle.sv_text.specs.Gives.{GivesAnswer}
use Rattle.sv_uri.proofs.QueryLemmas.{percent_encode-query}
use Rattle.sv_uri.proofs.query.visible_query.Goals as goal

pub returns-in-Borrowed : goal.returns-in-Borrowed
returns-in-Borrowed c =
    let small = All-from_get_or IsByte c.args.query.now 0 (λ i within. omega (arith, c.type_inv.query i)) in
    let visible = ap cow_str_bytes (sym c.in-Borrowed.is) ∙ c.in_ok-text.ensures.value ∙ c.percent_encode.ensures.text ∙ percent_encode-query c.args.query.now small in
    subst (GivesAnswer c.copy_of.result) visible c.copy_of.ensures

pub returns-in-Owned : goal.returns-in-Owned
returns-in-Owned c =
    let small = All-from_get_or IsByte c.args.query.now 0 (λ i within. omega (arith, c.type_inv.query i)) in
    let visible = ap cow_str_bytes (sym c.in-Owned.is) ∙ c.in_ok-text.ensures.value ∙ c.percent_encode.ensures.text ∙ percent_encode-query c.args.query.now small in
    c.from_string.ensures ∙ visible
