use Rattle.sv_component.specs.Steps.{steps_of}
use Rattle.sv_headline.proofs.Failing.{is_lawful}
use Rattle.sv_headline.proofs.laws.what_a_failed_output_holds_is_lawful.Goals as goal

pub returns : goal.returns
returns g c =
    is_lawful (steps_of g.S.Servlet.servlet_step g.F.Filter.filter_step g.L.Listener.listener_step) g.I.Stream.makes g.O.Stream.makes
    c.every_run_is_lawful_until_memory_is_refused.ensures c.callers_of_a_started_container_have_logged_in.ensures
    c.requests_enter_exactly_where_allowed.ensures c.a_failed_output_holds_a_part.ensures c.a_script_is_a_lawful_run.ensures
