-- The number of contexts that stop is the number of contexts.
use Rattle.std.proofs.Common.{◌≡◌, Bool, true, false, List, length, refl}
use Rattle.std.proofs.lemmas.List.{length-map}
use Rattle.sv_container.specs.Stopping.{contexts_to_stop}
use Rattle.sv_context.specs.Forgetting.{without_sessions}
use Rattle.sv_context.specs.State.{ContextState}

pub stops_all : {S F L : Type 0} (stopped : Bool) (contexts : List (ContextState S F L)) → length (contexts_to_stop stopped contexts) ≡ length contexts
stops_all true contexts = length-map contexts without_sessions
stops_all false contexts = refl
