-- A line for the server at a control socket, and its reply.
use Rattle.std.specs.Prelude.{◌≡◌, ◌≢◌, ◌==◌, ◌⊎◌, ◌&&◌, ◌||◌, ◌-◌, ℕ, Bool, not, List, codes, length, slice_get, if◌then◌else◌, Option, Some, None, IfSome, Result, Ok, Err}
use Rattle.std.specs.Io.KnownBytes.{Appends}
use Rattle.std.specs.Str.{bytes_eq}
use Rattle.sv_listening.specs.declared.limits.TheConstants.{REPLY_SECONDS, STOP_SECONDS}
use Rattle.sv_program.specs.declared.command_fault.CommandFault.{CommandFault}
use Rattle.sv_program.specs.declared.command_fault.CommandFault.TheVariants as fault
use Rattle.sv_program.specs.declared.refusal.Refusal.{Refusal}
use Rattle.sv_program.specs.declared.refusal.Refusal.TheVariants.{Unknown, NoSuch, TooMany, NumberSpent, Method, User, NoMemory, Stopping, Cut, Late}

-- the seconds that a read of the reply may wait
abbrev pub seconds_for : List ℕ → ℕ
seconds_for line = if bytes_eq line (codes "stop\n") then STOP_SECONDS else REPLY_SECONDS

-- the refusal that a reply is to any line
abbrev pub refusal_in : List ℕ → Option Refusal
refusal_in reply =
    if bytes_eq reply (codes "unknown\n") then Some Unknown
    else if bytes_eq reply (codes "edit refused 1\n") then Some NoSuch
    else if bytes_eq reply (codes "edit refused 2\n") then Some TooMany
    else if bytes_eq reply (codes "edit refused 3\n") then Some NumberSpent
    else if bytes_eq reply (codes "edit refused 4\n") then Some NoMemory
    else if bytes_eq reply (codes "no memory\n") then Some NoMemory
    else if bytes_eq reply (codes "method\n") then Some Method
    else if bytes_eq reply (codes "user\n") then Some User
    else None

-- a list may be empty
abbrev pub asks_for_list : List ℕ → Bool
asks_for_list line = bytes_eq line (codes "constraints\n") || bytes_eq line (codes "uncovered\n")

abbrev pub ends_well : List ℕ → Option ℕ → Bool
ends_well line (Some byte) = byte == 10
ends_well line None = asks_for_list line

-- a reply is complete if it ends with a line feed, or is an empty list
abbrev pub is_complete : List ℕ → List ℕ → Bool
is_complete line reply = ends_well line (slice_get reply (length reply - 1))

-- the refusal that a reply is only to some lines
abbrev pub other_refusal : List ℕ → List ℕ → Option Refusal
other_refusal line reply =
    if bytes_eq reply (codes "stopping\n") && not (bytes_eq line (codes "stop\n")) then Some Stopping
    else if is_complete line reply then None
    else Some Cut

abbrev pub or_other : Option Refusal → List ℕ → List ℕ → Option Refusal
or_other (Some refusal) line reply = Some refusal
or_other None line reply = other_refusal line reply

-- why the server did not do what the line asked for, if the reply says so or is incomplete
abbrev pub refusal_of : List ℕ → List ℕ → Option Refusal
refusal_of line reply = or_other (refusal_in reply) line reply

-- the connection to the socket of this name cannot be opened, or breaks
abbrev pub IsBroken : List ℕ → CommandFault → Type 0
IsBroken socket (fault.File name why) = name ≡ socket
IsBroken socket (fault.Refused Late) = Unit {0}
IsBroken socket (fault.Refused Cut) = Unit {0}
IsBroken socket fault.NoMemory = Unit {0}
IsBroken socket other = ⊥

-- the fault of a reply with this refusal; without one the output failed
abbrev pub IsOutcome : Option Refusal → CommandFault → Type 0
IsOutcome (Some refusal) (fault.Refused found) = found ≡ refusal
IsOutcome None fault.Output = Unit {0}
IsOutcome refusal other = ⊥

module _ (socket line : List ℕ) where
  -- a run of the command, by the reply: what is written is the reply, if it is no refusal
  abbrev pub Answers : Result (Unit {0}) CommandFault → Option (List ℕ) → Option (List ℕ) → Type 0
  Answers (Ok done) old new = (reply : List ℕ) × (refusal_of line reply ≡ None) × Appends old new reply
  Answers (Err found) old new = IsBroken socket found ⊎ ((reply : List ℕ) × IsOutcome (refusal_of line reply) found)

  module _ (stream : Option (List ℕ)) where
    -- the reply is all that the stream gives, if that is known
    abbrev pub IsReply : List ℕ → Type 0
    IsReply reply = IfSome stream (λ bytes. reply ≡ bytes)

    -- the same with a stream: the line is sent, and the reply is what the stream gives until its end
    abbrev pub Converses : Result (Unit {0}) CommandFault → Option (List ℕ) → Option (List ℕ) → Option (List ℕ) → Option (List ℕ) → Type 0
    Converses (Ok done) before after old new =
        Appends before after line × ((reply : List ℕ) × IsReply reply × (refusal_of line reply ≡ None) × Appends old new reply)
    Converses (Err found) before after old new =
        IsBroken socket found
        ⊎ (Appends before after line × ((reply : List ℕ) × IsReply reply × IsOutcome (refusal_of line reply) found))
