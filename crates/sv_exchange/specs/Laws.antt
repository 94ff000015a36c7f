-- Laws about the definitions.
use Rattle.std.specs.Prelude.{◌≡◌, ◌↔◌, true, List}
use Rattle.sv_exchange.specs.Changing.{Change, Reaches, after_all}
use Rattle.sv_exchange.specs.Dispatches.{is_within_include}
use Rattle.sv_exchange.specs.Keeping.{SameHead, SameRequest}
use Rattle.sv_exchange.specs.State.{State}
use Rattle.sv_session.specs.Runs.{MovedByComponents}

-- A state is reached exactly if some list of changing calls leads to it.
abbrev pub ChangesAreCalls : Type 0
ChangesAreCalls = (before after : State) → (Reaches before after ↔ ((changes : List Change) × (after ≡ after_all changes before)))

-- Changing calls keep the request.
abbrev pub ChangesKeepTheRequest : Type 0
ChangesKeepTheRequest = (before after : State) → Reaches before after → SameRequest before after

-- Within an include, changing calls leave the status and the fields unchanged (section 9.3).
abbrev pub IncludesKeepTheHead : Type 0
IncludesKeepTheHead = (before after : State) → Reaches before after → is_within_include before ≡ true → SameHead before after

-- Changing calls move the sessions of the context by calls that components can make at the time of the request.
abbrev pub ChangesMoveTheSessions : Type 0
ChangesMoveTheSessions = (before after : State) → Reaches before after → MovedByComponents before.moment before.store after.store
