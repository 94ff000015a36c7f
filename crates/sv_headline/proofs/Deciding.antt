-- Nothing that is done for a message that enters depends on the constraints.
use Rattle.std.proofs.Common.{List, inl, inr, refl}
use Rattle.sv_component.specs.Runs.{Record}
use Rattle.sv_component.specs.Steps.{ComponentSteps}
use Rattle.sv_context.specs.State.{ContextState}
use Rattle.sv_headline.specs.DecidedOnce.{AccessIsDecidedOnce, handled_under}
use Rattle.sv_headline.specs.Message.{IsDoneBy}
use Rattle.sv_login.specs.declared.outcome.Outcome.TheVariants.{Entered}
use Rattle.sv_policy.specs.Compiled.{Standing}
use Rattle.sv_run.specs.Contexts.{Handling}

module _ {S F L : Type 0} (moving : ComponentSteps S F L) where
  done_under : (handling : Handling (ContextState S F L)) (made : List Record) (constraints : Standing) → IsDoneBy moving handling made Entered
      → IsDoneBy moving (handled_under constraints handling) made Entered
  done_under handling made constraints done = record {
    noted = done.noted;
    exchange = done.exchange;
    answers = done.answers;
    moves = done.moves;
    response = done.response;
    sessions = done.sessions;
    stays = record {
      content = done.stays.content;
      policy = refl;
      users = done.stays.users;
      servlets = done.stays.servlets;
      filters = done.stays.filters;
      listeners = done.stays.listeners;
      initialised = done.stays.initialised;
    };
  }

  pub access_is_decided_once : AccessIsDecidedOnce moving
  access_is_decided_once handling made constraints may otherwise (inl enters) = inl (otherwise, done_under handling made constraints enters.1)
  access_is_decided_once handling made constraints may otherwise (inr out) = absurd (out.0 may)
