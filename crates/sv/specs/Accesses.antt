-- What an access log shows of a container's last event.
use Rattle.std.specs.Prelude.{ℕ, List, Option, option_and_then, slice_get}
use Rattle.std.specs.Option.{option_map}
use Rattle.sv_access_log.specs.Answered.{Answered}
use Rattle.sv_container.specs.Container.{accesses_of, state_of}
use Rattle.sv_container.specs.declared.container.Container.{Container}
use Rattle.sv_context.specs.State.{ContextState}
use Rattle.sv_realm.specs.Realm.{caller_at}
use Rattle.sv_realm.specs.declared.caller.Caller.{Caller}

module _ {S F L : Type 0} where
  -- the name of the user with a number, in the context at a place
  abbrev pub name_in : List (ContextState S F L) → ℕ → ℕ → Option (List ℕ)
  name_in contexts place number =
      option_and_then (λ (context : ContextState S F L). option_map (λ (caller : Caller). caller.name) (caller_at context.users number)) (slice_get contexts place)

  -- the path of the context at a place
  abbrev pub path_in : List (ContextState S F L) → ℕ → Option (List ℕ)
  path_in contexts place = option_map (λ (context : ContextState S F L). context.content.context_path) (slice_get contexts place)

  -- the accesses of the last event, with the names and paths of the current contexts
  abbrev pub answered_in : {W : Type 0} → Container S F L W → Answered
  answered_in container = record {
    accesses = accesses_of container;
    user_name = name_in (state_of container).world.contexts;
    context_path = path_in (state_of container).world.contexts;
  }
