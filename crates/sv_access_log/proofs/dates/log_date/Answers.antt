use Rattle.std.proofs.Common.{ap, ◌∙◌}
use Rattle.std.specs.List.{list_all}
use Rattle.sv_access_log.proofs.DateLemmas.{log_cut, log_date_is, log_date_part}
use Rattle.sv_access_log.specs.Escaping.{is_printable}
use Rattle.sv_access_log.proofs.dates.log_date.Goals as goal

pub returns-clause-value : goal.returns-clause-value
returns-clause-value c = ap log_cut c.to_bytes.ensures ∙ log_date_is c.args.date.now

pub returns-clause-printable : goal.returns-clause-printable
returns-clause-printable c =
    ap (λ t. list_all is_printable (log_cut t)) c.to_bytes.ensures ∙ ap (list_all is_printable) (log_date_is c.args.date.now) ∙ (log_date_part c.args.date.now).printable
