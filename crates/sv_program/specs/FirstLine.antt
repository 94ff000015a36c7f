-- The line of the command `first`. RFC 9112 defines the reading of the request, Jakarta Servlet 6.0 section 3.5 its
-- path, and section 13.8 the decision.
use Rattle.std.specs.Prelude.{◌≡◌, ℕ, Bool, List, ◌∷◌, [], ◌++◌, Option, Some, None, Result, Ok, Err, codes, take, IfSome, if◌then◌else◌}
use Rattle.std.specs.Io.KnownBytes.{Appends}
use Rattle.sv_wire.specs.Reads.{Reads}
use Rattle.sv_wire.specs.Items.{first_item}
use Rattle.sv_wire.specs.WireFault as wire_fault
use Rattle.sv_wire.specs.declared.item.Item.{Item}
use Rattle.sv_wire.specs.declared.owed_head.OwedHead.{OwedHead}
use Rattle.sv_wire.specs.declared.item.Item.TheVariants.{Continue, Refuse}
use Rattle.sv_wire.specs.declared.item.Item.TheVariants.{Message as IsMessage}
use Rattle.sv_message.specs.declared.message.Message.{Message}
use Rattle.sv_message.specs.declared.message.Target.{Target}
use Rattle.sv_message.specs.declared.message.Target.TheVariants.{Star, Path}
use Rattle.sv_uri.specs.Canonical.{canonical}
use Rattle.sv_uri.specs.declared.path.Canon.{Canon}
use Rattle.sv_uri.specs.declared.fault.PathFault.{PathFault}
use Rattle.sv_uri.specs.Fault as path_fault
use Rattle.sv_constraints.specs.Verdict.{verdict}
use Rattle.sv_constraints.specs.Decision.{decision_text}
use Rattle.sv_program.specs.declared.command_fault.CommandFault.{CommandFault}
use Rattle.sv_program.specs.declared.command_fault.CommandFault.TheVariants.{Input, Output, NoMemory}
use Rattle.sv_program.specs.ExamplePolicy.{example_constraints, example_rules}

-- the options of the command
abbrev pub first_options : Bool → List (List ℕ)
first_options deny_uncovered = if deny_uncovered then codes "deny" ∷ [] else []

-- the line of a request that is refused before a decision
abbrev pub refused_line : List ℕ → List ℕ
refused_line cause = codes "refused cause=" ++ cause

-- the combined verdict on a method at a canonical path, without a caller
abbrev pub decision_line : List ℕ → List ℕ → Bool → List ℕ
decision_line method path deny_uncovered =
    decision_text (verdict example_constraints (example_rules deny_uncovered) method path None)

-- the same for the canonical path of a target, if it has one
abbrev pub path_line : List ℕ → Result Canon PathFault → Bool → List ℕ
path_line method (Ok canon) deny_uncovered = decision_line method canon.path deny_uncovered
path_line method (Err fault) deny_uncovered = refused_line (path_fault.fault_name fault)

abbrev pub target_line : List ℕ → Target → Bool → List ℕ
target_line method Star deny_uncovered = refused_line (codes "Star")
target_line method (Path target) deny_uncovered = path_line method (canonical target) deny_uncovered

abbrev pub message_line : Message → Bool → List ℕ
message_line message deny_uncovered = target_line message.method message.target deny_uncovered

-- the line for the first item that is not a `Continue`, if there is one
abbrev pub item_line : Option Item → Bool → List ℕ
item_line (Some (IsMessage message)) deny_uncovered = message_line message deny_uncovered
item_line (Some (Refuse fault)) deny_uncovered = refused_line (wire_fault.fault_name fault)
item_line (Some Continue) deny_uncovered = codes "none"
item_line None deny_uncovered = codes "none"

-- the line for the first item of the stream; a stream has only one reading
abbrev pub IsFirstLine : List ℕ → Bool → List ℕ → Type 0
IsFirstLine stream deny_uncovered line =
    (items : List Item) × (owed : Option OwedHead) × (rest : List ℕ) × Reads None stream items owed rest × (line ≡ item_line (first_item items) deny_uncovered)

-- the line and a line feed are appended to the known bytes of the writer
abbrev pub WritesFirstLine : List ℕ → Bool → Option (List ℕ) → Option (List ℕ) → Type 0
WritesFirstLine stream deny_uncovered old new =
    (line : List ℕ) × IsFirstLine stream deny_uncovered line × Appends old new (line ++ 10 ∷ [])

-- the faults of reading the input
abbrev pub IsReadFault : CommandFault → Type 0
IsReadFault Input = Unit {0}
IsReadFault NoMemory = Unit {0}
IsReadFault other = ⊥

-- the faults of the command
abbrev pub IsFirstFault : CommandFault → Type 0
IsFirstFault Output = Unit {0}
IsFirstFault other = IsReadFault other

-- a run of the command; it reads the first 65,536 bytes of the reader, if they are known
abbrev pub RunsFirst : Bool → Result (Unit {0}) CommandFault → Option (List ℕ) → Option (List ℕ) → Option (List ℕ) → Type 0
RunsFirst deny_uncovered (Ok done) stream old new = IfSome stream (λ bytes. WritesFirstLine (take 65536 bytes) deny_uncovered old new)
RunsFirst deny_uncovered (Err fault) stream old new = IsFirstFault fault
