use Rattle.sv_headline.proofs.Printing.{prints}
use Rattle.sv_headline.proofs.laws.what_a_script_prints_is_lawful.Goals as goal
use Rattle.sv_component.specs.Steps.{steps_of}

pub returns : goal.returns
returns g c =
    prints (steps_of g.S.Servlet.servlet_step g.F.Filter.filter_step g.L.Listener.listener_step) g.I.Stream.makes g.O.Stream.makes
    c.every_run_is_lawful_until_memory_is_refused.ensures c.callers_of_a_started_container_have_logged_in.ensures
    c.requests_enter_exactly_where_allowed.ensures c.a_run_writes_one_text.ensures c.a_script_is_a_lawful_run.ensures
