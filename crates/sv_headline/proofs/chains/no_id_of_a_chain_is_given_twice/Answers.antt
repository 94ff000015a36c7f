use Rattle.sv_component.specs.Steps.{steps_of}
use Rattle.sv_headline.proofs.Chaining.{no_id_is_given_twice}
use Rattle.sv_headline.proofs.chains.no_id_of_a_chain_is_given_twice.Goals as goal

pub returns : goal.returns
returns g c =
    no_id_is_given_twice (steps_of g.S.Servlet.servlet_step g.F.Filter.filter_step g.L.Listener.listener_step) g.W.Words.draws
    c.sessions_change_by_calls.ensures c.contexts_go_on.ensures c.each_id_has_the_next_serial.ensures.next c.each_id_has_the_next_serial.ensures.differ
