-- Memory that is reserved before a start.
use Rattle.std.specs.Prelude.{◌≡◌, ℕ, ◌≤◌, List, [], length, vec_capacity}
use Rattle.sv_context.specs.Several.{paths_of}
use Rattle.sv_lifecycle.specs.declared.deployment.Deployment.{Deployment}
use Rattle.sv_context.specs.declared.room.Room.{Room}
use Rattle.sv_context.specs.declared.room.StopRoom.{StopRoom}

module _ {S F L : Type 0} where
  -- Capacity for the results of stopping `count` contexts, with nothing in it yet.
  pub record HasRoomToStop (count : ℕ) (room : StopRoom S F L) : Type 0 where
    pub back : room.back.items ≡ []
    pub back_room : count ≤ vec_capacity room.back
    pub parts : room.parts.items ≡ []
    pub parts_room : count ≤ vec_capacity room.parts
    pub remains : room.remains.items ≡ []
    pub remains_room : count ≤ vec_capacity room.remains

  -- Capacity for the contexts of the deployments, and a copy of each context path.
  pub record IsReady (deployments : List (Deployment S F L)) (room : Room S F L) : Type 0 where
    pub paths : room.paths.items ≡ paths_of deployments
    pub contexts : room.contexts.items ≡ []
    pub contexts_room : length deployments ≤ vec_capacity room.contexts
    pub stop : HasRoomToStop (length deployments) room.stop
