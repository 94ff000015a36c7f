-- The effects of changing calls on an exchange (Jakarta Servlet 6.0, chapters 3, 5, 7 and 9).
use Rattle.std.specs.Prelude.{◌≡◌, ℕ, ◌+◌, Bool, true, false, not, ◌&&◌, List, [], ◌∷◌, ◌++◌, length, ◌==◌, nat_le, is_some, Result, Ok, Err, if◌then◌else◌}
use Rattle.sv_exchange.specs.declared.exchange_fault.ExchangeFault.{ExchangeFault}
use Rattle.sv_exchange.specs.declared.exchange_fault.ExchangeFault.TheVariants as faults
use Rattle.sv_exchange.specs.declared.limits.TheConstants.{MAX_RESPONSE_BODY_LEN, LEAST_STATUS, MAX_STATUS, RESET_CONTENT, NOT_MODIFIED}
use Rattle.sv_exchange.specs.Attributes.{is_reserved_attribute, set_value}
use Rattle.sv_exchange.specs.Dispatches.{is_within_include}
use Rattle.sv_exchange.specs.Fields.{add_field, is_field, is_reserved_field, set_field}
use Rattle.sv_exchange.specs.Sessions.{ended, has_session, logged_out, on_session, opened, opening_faults, session_value, setting_faults, wants_session, with_attribute, without_attribute}
use Rattle.sv_exchange.specs.State.{State}
use Rattle.sv_text.specs.Faults.{first_or}
use Rattle.sv_message.specs.Chunking.{joined, piece_of}

-- A changing call with its arguments.
pub data Change : Type 0 where
  SetStatus : ℕ → Change
  SetHeader : List ℕ → List ℕ → Change
  AddHeader : List ℕ → List ℕ → Change
  Write : List ℕ → Change
  SetAttribute : List ℕ → List ℕ → Change
  Flush : Change
  SessionOpen : Change
  SessionSet : List ℕ → List ℕ → Change
  SessionRemove : List ℕ → Change
  SessionEnd : Change
  Logout : Change

-- Whether the status and the fields can be changed: not once the response is committed, and not within an include.
abbrev pub is_open : State → Bool
is_open before = not before.committed && not (is_within_include before)

-- Whether a component may set the status.
abbrev pub is_settable : ℕ → Bool
is_settable status =
    nat_le LEAST_STATUS status && nat_le status MAX_STATUS && not (status == RESET_CONTENT) && not (status == NOT_MODIFIED)

-- Whether a field with the name can be set.
abbrev pub is_free : List ℕ → State → Bool
is_free name before = is_open before && not (is_reserved_field name)

-- The result of setting a field. Unless the call is ignored, the name and the value must be valid for a field.
abbrev pub field_answer : List ℕ → List ℕ → State → Result Bool ExchangeFault
field_answer name value before =
    if is_free name before then (if is_field name value then Ok true else Err faults.BadHeader) else Ok false

-- Whether the body can take `count` more bytes, in addition to its pieces and its buffer.
abbrev pub has_room : ℕ → State → Bool
has_room count before = nat_le (length (joined before.flushed) + length before.buffer + count) MAX_RESPONSE_BODY_LEN

-- The result of a call, unless memory runs out. `false` means that the call is ignored.
abbrev pub answer : Change → State → Result Bool ExchangeFault
answer (SetStatus status) before = Ok (is_open before && is_settable status)
answer (SetHeader name value) before = field_answer name value before
answer (AddHeader name value) before = field_answer name value before
answer (Write bytes) before = if has_room (length bytes) before then Ok true else Err faults.TooLarge
answer (SetAttribute name value) before = Ok (not (is_reserved_attribute name))
answer Flush before = Ok true
answer SessionOpen before = if has_session before then Ok true else first_or (opening_faults before) true
answer (SessionSet name value) before = first_or (setting_faults name value before) true
answer (SessionRemove name) before = wants_session before
answer SessionEnd before = wants_session before
answer Logout before = Ok true

-- The state after a call that is not ignored.
abbrev pub changed : Change → State → State
changed (SetStatus status) before = record before { status = status }
changed (SetHeader name value) before = record before { fields = set_field name value before.fields }
changed (AddHeader name value) before = record before { fields = add_field name value before.fields }
changed (Write bytes) before = record before { buffer = before.buffer ++ bytes }
changed (SetAttribute name value) before = record before { attributes = set_value name value before.attributes }
changed Flush before = record before { flushed = before.flushed ++ piece_of before.buffer; buffer = []; committed = true }
changed SessionOpen before = if has_session before then before else opened before
changed (SessionSet name value) before = on_session (with_attribute name value) before
changed (SessionRemove name) before = if is_some (session_value name before) then on_session (without_attribute name) before else before
changed SessionEnd before = on_session ended before
changed Logout before = if is_some before.caller then logged_out before else before

-- The state after a call with the given result: changed, or as it was.
abbrev pub left_by : Result Bool ExchangeFault → Change → State → State
left_by (Ok true) change before = changed change before
left_by (Ok false) change before = before
left_by (Err fault) change before = before

-- The call returns the specified result and leaves the specified state. A refusal changes nothing.
abbrev pub Does : Change → Result Bool ExchangeFault → State → State → Type 0
Does change (Ok done) before after = (answer change before ≡ Ok done) × (after ≡ left_by (Ok done) change before)
Does change (Err faults.NoMemory) before after = (answer change before ≡ Ok true) × (after ≡ before)
Does change (Err fault) before after = (answer change before ≡ Err fault) × (after ≡ before)

-- The state after a sequence of calls, if none runs out of memory.
abbrev pub after_all : List Change → State → State
after_all [] before = before
after_all (change ∷ changes) before = after_all changes (left_by (answer change before) change before)

-- The state is reached by changing calls only.
unfoldable pub IsReached : State → State → Type 0
IsReached before after = (changes : List Change) × (after ≡ after_all changes before)

-- The same, in a form that composes without an intermediate state.
abbrev pub Reaches : State → State → Type 0
Reaches before after = (from : State) → IsReached from before → IsReached from after
