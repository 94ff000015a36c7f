use Rattle.sv_headline.proofs.restarts.callers_of_a_resumed_container_have_logged_in.Goals as goal

pub returns : goal.returns
returns g c = λ deployed words noted noted_after first happenings answers after starts runs going parts suspension stopped hands
    deployments next_words left begun begun_after second resumes place number caller context there held.
    let was = c.callers_go_on.ensures after parts suspension stopped hands deployments next_words left begun begun_after second resumes place number caller context there held in
    record {
      held = was;
      logged_in = c.callers_of_a_started_container_have_logged_in.ensures deployed words noted noted_after first happenings answers after starts runs going
          was.place number was.old (record { context = was.before; there = was.there; holds = was.held });
    }
