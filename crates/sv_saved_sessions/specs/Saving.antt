-- What was written of a file.
use Rattle.std.specs.Prelude.{◌≡◌, List, ℕ, ◌+◌, ◌++◌, Bool, Result, Ok, Err, MatchResult, drop, length, min, nat_le, slice_get}
use Rattle.std.specs.List.{AllByRecursion, flat_map}
use Rattle.sv_lifecycle.specs.declared.suspended_context.SuspendedContext.{SuspendedContext}
use Rattle.sv_saved_sessions.specs.Content.{constraint_bytes, content, magic_line, session_bytes, user_bytes}
use Rattle.sv_saved_sessions.specs.Encoding.{list_bytes, number_bytes, text_bytes}
use Rattle.sv_saved_sessions.specs.File.{file_of}
use Rattle.sv_saved_sessions.specs.Hmac.{HoldsMessage}
use Rattle.sv_saved_sessions.specs.Saved.{CanBeSaved, IsSession}
use Rattle.sv_saved_sessions.specs.declared.file_writer.FileWriter.{FileWriter}
use Rattle.sv_saved_sessions.specs.declared.hmac.Hmac.{Hmac}
use Rattle.sv_saved_sessions.specs.declared.pieces.Pieces.{Pieces}
use Rattle.sv_saved_sessions.specs.declared.save_fault.SaveFault.{SaveFault}
use Rattle.sv_saved_sessions.specs.declared.save_fault.SaveFault.TheVariants.{NoMemory, TooManyUsers, WriteFailed}
use Rattle.sv_saved_sessions.specs.declared.saved_head.SavedHead.{SavedHead}
use Rattle.sv_session.specs.Restoring.{session_after}
use Rattle.sv_session.specs.Store.{SessionsState, Store}
use Rattle.sv_streams.specs.Calls.{Making, WritesAll}
use Rattle.sv_streams.specs.declared.stream.WriteFailed.{WriteFailed as WriteFault}

-- All of the bytes were written, unless a write failed, or memory ran out after a front of them was written. Nothing was
-- written if there are too many users.
abbrev pub WritesFront : {S : Type 0} → Making S → List ℕ → S → Result (Unit {0}) SaveFault → S → Type 0
WritesFront makes bytes before (Ok done) after = WritesAll makes bytes before (Ok tt) after
WritesFront makes bytes before (Err WriteFailed) after = (failed : WriteFault) × WritesAll makes bytes before (Err failed) after
WritesFront makes bytes before (Err NoMemory) after =
    (front rest : List ℕ) × (bytes ≡ front ++ rest) × WritesAll makes front before (Ok tt) after
WritesFront makes bytes before (Err TooManyUsers) after = after ≡ before

-- The same for the rest of a file that was begun.
abbrev pub WritesRest : {S : Type 0} → Making S → List ℕ → S → Result (Unit {0}) SaveFault → S → Type 0
WritesRest makes bytes before (Ok done) after = WritesFront makes bytes before (Ok done) after
WritesRest makes bytes before (Err NoMemory) after = WritesFront makes bytes before (Err NoMemory) after
WritesRest makes bytes before (Err WriteFailed) after = WritesFront makes bytes before (Err WriteFailed) after
WritesRest makes bytes before (Err TooManyUsers) after = ⊥

-- The computation of a code took in more of the message.
abbrev pub TakesIn : Hmac → List ℕ → Hmac → Type 0
TakesIn before more after = (key message : List ℕ) → HoldsMessage key before message → HoldsMessage key after (message ++ more)

-- More bytes follow those in the buffer: they are in the buffer at the end, or they were written and are in the code.
abbrev pub Passes : {S : Type 0} → Making S → List ℕ → Pieces → S → Result (Unit {0}) SaveFault → Pieces → S → Type 0
Passes makes more before sink (Ok done) after sink_after =
    (written : List ℕ) × (before.buffer.items ++ more ≡ written ++ after.buffer.items)
    × WritesAll makes written sink (Ok tt) sink_after × TakesIn before.hmac written after.hmac
Passes makes more before sink (Err fault) after sink_after = WritesRest makes (before.buffer.items ++ more) sink (Err fault) sink_after

-- The context of a head and sessions.
abbrev pub suspended : SavedHead → SessionsState → SuspendedContext
suspended head sessions = record {
  path = head.path.now;
  users = head.users.now;
  declared = head.declared.now;
  constraints = head.constraints.now;
  greatest = head.greatest;
  sessions = sessions;
}

-- The content before the first session.
abbrev pub head_bytes : ℕ → SavedHead → Store → List ℕ
head_bytes moment head store =
    (magic_line ++ (text_bytes head.path.now ++ number_bytes moment))
    ++ (list_bytes user_bytes head.users.now ++ (list_bytes constraint_bytes head.declared.now ++ (list_bytes constraint_bytes head.constraints.now
    ++ (number_bytes head.greatest ++ (number_bytes store.serial ++ number_bytes (length store.sessions))))))

-- A file was begun at `start`, and so many sessions have been added. A front of the content was written and is in the
-- code. The front, the buffer and the sessions that are left are the whole content. The context can be saved if these
-- sessions can.
pub record IsUpTo {S : Type 0} (makes : Making S) (key : List ℕ) (time : ℕ) (context : SuspendedContext) (added : ℕ) (start : S) (writer : FileWriter) (sink : S) : Type 0 where
  pub front : List ℕ
  pub parts : content time context ≡ (front ++ writer.pieces.buffer.items) ++ flat_map session_bytes (drop added context.sessions.store.sessions)
  pub written : WritesAll makes front start (Ok tt) sink
  pub in_code : HoldsMessage key writer.pieces.hmac front
  pub fits : AllByRecursion IsSession (drop added context.sessions.store.sessions) → CanBeSaved time context
  pub next : session_after writer.last context.sessions.store ≡ slice_get context.sessions.store.sessions added

-- The next sessions of the store, at most so many, are added to any file of a context with this store, and the result is
-- whether all have been added. Else a front of the file was written.
abbrev pub GoesOn : {S : Type 0} → Making S → Store → ℕ → FileWriter → S → Result Bool SaveFault → FileWriter → S → Type 0
GoesOn {S} makes store count before sink result after sink_after =
    (key : List ℕ) (moment : ℕ) (context : SuspendedContext) (added : ℕ) (start : S)
    → context.sessions.store ≡ store → IsUpTo makes key moment context added start before sink
    → MatchResult result
    (λ all. (all ≡ nat_le (length store.sessions) (added + count)) × IsUpTo makes key moment context (min (added + count) (length store.sessions)) start after sink_after)
    (λ fault. WritesRest makes (file_of key moment context) start (Err fault) sink_after)

-- The file of any context of which all sessions were added is written as a whole, and the context can be saved.
abbrev pub Finishes : {S : Type 0} → Making S → FileWriter → S → Result (Unit {0}) SaveFault → S → Type 0
Finishes {S} makes writer sink result sink_after =
    (key : List ℕ) (moment : ℕ) (context : SuspendedContext) (start : S)
    → IsUpTo makes key moment context (length context.sessions.store.sessions) start writer sink
    → WritesRest makes (file_of key moment context) start result sink_after × CanBeSaved moment context
