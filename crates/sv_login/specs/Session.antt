-- The session of a login (Jakarta Servlet 6.0, sections 7.1 and 13.6.3).
use Rattle.std.specs.Prelude.{ℕ, ◌+◌, List, Option, None, is_some, unwrap_or, option_and_then}
use Rattle.std.specs.Bool.{then_some}
use Rattle.std.specs.Option.{option_map_or}
use Rattle.sv_session.specs.Calls.{opened, opening_faults, renamed, renaming_faults, saved_of, with_caller, with_saved}
use Rattle.sv_session.specs.Store.{Store, numbered}
use Rattle.sv_session.specs.declared.session_fault.SessionFault.{SessionFault}

-- The number of the held session, if it is live.
abbrev pub living : Option ℕ → Store → Option ℕ
living held store = option_and_then (λ number. then_some (is_some (numbered number store)) number) held

-- The faults and the effect of giving the live session a new id, or of opening a session if there is none.
abbrev pub session_faults : Option ℕ → Store → List SessionFault
session_faults held store = option_map_or (λ number. renaming_faults number store) (living held store) (opening_faults store)

abbrev pub with_session : Option ℕ → ℕ × ℕ → ℕ → Store → Store
with_session held words now store = option_map_or (λ number. renamed number words store) (living held store) (opened words now store)

-- The number of the session of a login.
abbrev pub session_number : Option ℕ → Store → ℕ
session_number held store = unwrap_or (living held store) (store.serial + 1)

-- The session holds the caller, and no saved target.
abbrev pub logged_in : Option ℕ → Option ℕ → ℕ × ℕ → ℕ → Store → Store
logged_in caller held words now store =
    with_caller (session_number held store) caller (with_saved (session_number held store) None (with_session held words now store))

-- The target that was saved in the session.
abbrev pub saved_target : Option ℕ → ℕ × ℕ → ℕ → Store → Option (List ℕ)
saved_target held words now store = saved_of (session_number held store) (with_session held words now store)
