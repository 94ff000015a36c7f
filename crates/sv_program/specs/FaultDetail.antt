-- The second line of the fault of a command: why the first line is printed.
use Rattle.std.specs.Prelude.{◌≡◌, ℕ, List, ◌++◌, codes, Option, Some, None}
use Rattle.std.specs.Net.Text.{socket_text}
use Rattle.sv_files.specs.declared.fault.FilesFault.{FilesFault}
use Rattle.sv_files.specs.declared.fault.FilesFault.TheVariants as files
use Rattle.sv_journal.specs.declared.start_code.NewCode.{NewCode}
use Rattle.sv_journal.specs.declared.start_code.NewCode.TheVariants as new
use Rattle.sv_journal.specs.declared.start_code.StartCode.TheVariants as start
use Rattle.sv_program.specs.Detail.{FaultInFile, IsDetail, detail_text, named, place_text, with_path}
use Rattle.sv_program.specs.FilePlace.{IsPlaceText, ValueInFile}
use Rattle.sv_program.specs.Refusal.{refusal_text}
use Rattle.sv_program.specs.Unavailable.{reason_text}
use Rattle.sv_program.specs.declared.command_fault.CommandFault.{CommandFault}
use Rattle.sv_program.specs.declared.command_fault.CommandFault.TheVariants as fault
use Rattle.sv_program.specs.declared.detail.Detail.{Detail}
use Rattle.sv_program.specs.declared.detail.Detail.TheVariants as detail
use Rattle.sv_program.specs.declared.socket_fault.SocketFault.{SocketFault}
use Rattle.sv_program.specs.declared.socket_fault.SocketFault.TheVariants as socket

-- why the static files of a context are refused, after the path of the file that has the fault
abbrev pub files_reason : FilesFault → List ℕ
files_reason files.BadPath = codes "no request target can name this path"
files_reason files.Duplicate = codes "two files have the same path"
files_reason files.TooMany = codes "there are more than 10,000 files"
files_reason files.TooLarge = codes "the file has more than 1,048,576 bytes"
files_reason files.NoMemory = codes "memory ran out"

-- why a container does not start
abbrev pub start_reason : NewCode → List ℕ
start_reason (new.Start start.PartsMismatch) = codes "its components are not those of its descriptor"
start_reason (new.Start (start.InitFailed place)) = place_text place ++ codes " of its descriptor: init failed"
start_reason (new.Start start.NoMemory) = codes "memory ran out"
start_reason new.DuplicateContext = codes "another context has this path"
start_reason new.TooManyContexts = codes "there are more than 64 contexts"

-- what failed of a socket
abbrev pub socket_reason : SocketFault → List ℕ
socket_reason (socket.Address address why) = socket_text address ++ codes ": " ++ reason_text why
socket_reason socket.Accept = codes "no connection can be accepted"
socket_reason socket.Connection = codes "the connection of the program to itself failed"
socket_reason socket.Poll = codes "the system reports no more events of connections"

-- there is a second line: two spaces and this text
abbrev pub Says : List ℕ → Option Detail → Type 0
Says text (Some given) = detail_text given ≡ codes "  " ++ text
Says text None = ⊥

-- there is a second line, and it is the one for this fault of a file
abbrev pub HasLine : FaultInFile → Option Detail → Type 0
HasLine faulty (Some (detail.Line line)) = IsDetail faulty line.now
HasLine faulty other = ⊥

-- there is a second line, with the place of a class and the classes of the program
abbrev pub SaysClasses : ValueInFile → List ℕ → Option Detail → Type 0
SaysClasses place known given =
    (shown : List ℕ) × IsPlaceText place.file place.text place.steps shown × Says (shown ++ (codes ": the program has " ++ known)) given

-- the second line of a fault; only that of memory has none
abbrev pub IsFaultDetail : CommandFault → Option Detail → Type 0
IsFaultDetail (fault.File name why) given = Says (named name ++ codes ": " ++ reason_text why) given
IsFaultDetail (fault.Folder name entry) given = Says (name ++ entry.path ++ codes ": " ++ reason_text entry.why) given
IsFaultDetail (fault.Server faulty) given = HasLine faulty given
IsFaultDetail (fault.Descriptor context faulty) given = HasLine faulty given
IsFaultDetail (fault.Users context faulty) given = HasLine faulty given
IsFaultDetail (fault.Class name place known) given = SaysClasses place known given
IsFaultDetail (fault.Files context found path) given = Says (with_path path (files_reason found)) given
IsFaultDetail (fault.Start code context) given = Says (start_reason code) given
IsFaultDetail (fault.Socket found) given = Says (socket_reason found) given
IsFaultDetail (fault.Script line) given = Says (codes "the line is malformed, or the container refuses what it requests") given
IsFaultDetail (fault.User shown) given = Says (codes "the context has no user " ++ shown) given
IsFaultDetail (fault.Role shown) given = Says (codes "no context knows the role " ++ shown) given
IsFaultDetail (fault.Method shown) given = Says (codes "the method is not a token: " ++ shown) given
IsFaultDetail (fault.Refused refusal) given = Says (refusal_text refusal) given
IsFaultDetail fault.Input given = Says (codes "standard input cannot be read") given
IsFaultDetail fault.Output given = Says (codes "standard output cannot be written, and may be incomplete") given
IsFaultDetail fault.NoMemory given = given ≡ None
IsFaultDetail (fault.Findings count) given = Says (codes "the report shows them; --fail-on names their kinds") given
IsFaultDetail (fault.Faults count) given = Says (codes "the report shows them") given
