-- The parts of an exchange that components leave as they are: the fields that a proxy reads, and the caller.
use Rattle.std.specs.Prelude.{◌≡◌}
use Rattle.sv_application.specs.ProxyFields.{OnExchange, SameProxyFields}
use Rattle.sv_component.specs.Call.{Call}
use Rattle.sv_exchange.specs.State.{State}

-- the fields that a proxy reads are those of the first state
unfoldable pub HasFieldsOf : State → State → Type 0
HasFieldsOf first now = SameProxyFields first now

-- the caller is that of the first state
unfoldable pub HasCallerOf : State → State → Type 0
HasCallerOf first now = now.caller ≡ first.caller

-- the fields that a proxy reads stay the same, in a form that composes without an intermediate state
abbrev pub LeavesFields : State → State → Type 0
LeavesFields before after = (first : State) → HasFieldsOf first before → HasFieldsOf first after

-- the caller stays the same, in such a form
abbrev pub LeavesCaller : State → State → Type 0
LeavesCaller before after = (first : State) → HasCallerOf first before → HasCallerOf first after

-- the call leaves the fields that a proxy reads
abbrev pub CallLeavesFields : Call → Type 0
CallLeavesFields call = OnExchange LeavesFields call

-- the call leaves the caller, too
abbrev pub CallLeavesBoth : Call → Type 0
CallLeavesBoth call = OnExchange LeavesFields call × OnExchange LeavesCaller call
