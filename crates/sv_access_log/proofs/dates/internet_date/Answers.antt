use Rattle.std.proofs.Common.{ap, ◌∙◌, ◌≡◌}
use Rattle.std.specs.List.{list_all}
use Rattle.sv_access_log.proofs.DateLemmas.{internet_cut, internet_cut_with, internet_date_is, internet_date_part}
use Rattle.sv_access_log.specs.Escaping.{is_printable}
use Rattle.sv_access_log.proofs.dates.internet_date.Goals as goal

pub returns-clause-value : goal.returns-clause-value
returns-clause-value c =
    ap (internet_cut_with c.to_bytes.result) c.month_number-month.ensures.value ∙ ap internet_cut c.to_bytes.ensures ∙ internet_date_is c.args.date.now

pub returns-clause-printable : goal.returns-clause-printable
returns-clause-printable c =
    ap (λ m. list_all is_printable (internet_cut_with c.to_bytes.result m)) c.month_number-month.ensures.value
    ∙ ap (λ t. list_all is_printable (internet_cut t)) c.to_bytes.ensures
    ∙ ap (list_all is_printable) (internet_date_is c.args.date.now) ∙ (internet_date_part c.args.date.now).printable
