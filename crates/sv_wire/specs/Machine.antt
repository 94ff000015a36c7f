-- How a machine that has read the start of a body reads the text after it (RFC 9112, sections 6 and 7.1).
use Rattle.std.specs.Prelude.{◌≡◌, ℕ, ◌+◌, ◌-◌, ◌<◌, ◌≤◌, List, [], ◌++◌, length, take, drop, Option}
use Rattle.sv_text.specs.declared.front.Cut.{Cut}
use Rattle.sv_text.specs.declared.front.Cut.TheVariants.{Whole, Endless, Unended}
use Rattle.sv_wire.specs.declared.text_kind.TextKind.{TextKind}
use Rattle.sv_wire.specs.declared.text_kind.TextKind.TheVariants as text
use Rattle.sv_wire.specs.declared.limits.TheConstants.{MAX_BODY_LEN}
use Rattle.sv_wire.specs.declared.body_reader.Framing.{Framing}
use Rattle.sv_wire.specs.declared.machine.Machine.{Machine}
use Rattle.sv_wire.specs.declared.machine.Stage.{Stage}
use Rattle.sv_wire.specs.declared.machine.Stage.TheVariants.{Plain, SizeLine, Data, DataEnd, Trailer}
use Rattle.sv_wire.specs.declared.machine.Step.{Step}
use Rattle.sv_wire.specs.declared.machine.Step.TheVariants.{Moved, Stopped}
use Rattle.sv_wire.specs.declared.machine.Stop.{Stop}
use Rattle.sv_wire.specs.declared.machine.Stop.TheVariants.{Awaits, Complete, Broken}
use Rattle.sv_wire.specs.Chunks.{Body, unfinished, complete, broken, Part, chunk, last, cut_text, text_limit, read_data, read_trailer, after_line, ReadsChunks}
use Rattle.sv_wire.specs.Body.{read_length, ReadsBody}

-- The text that follows chunks with these `bytes` consists of some chunks, and gives this reading of the whole body.
abbrev pub ReadsRest : List ℕ → List ℕ → Body → Type 0
ReadsRest bytes text body = (chunks : List (List ℕ)) × ReadsChunks bytes text chunks body

-- The reading of the whole body, if this part comes next.
abbrev pub GoesOn : List ℕ → Part → Body → Type 0
GoesOn bytes (chunk more rest) body = ReadsRest (bytes ++ more) rest body
GoesOn bytes (last end) body = body ≡ end

-- The reading of the whole body, from a stage on.
abbrev pub Resumes : Stage → List ℕ → List ℕ → Body → Type 0
Resumes (Plain count) bytes text body = body ≡ read_length bytes count text
Resumes SizeLine bytes text body = ReadsRest bytes text body
Resumes (Data count) bytes text body = GoesOn bytes (read_data count text) body
Resumes DataEnd bytes text body = GoesOn bytes (read_data 0 text) body
Resumes Trailer bytes text body = body ≡ read_trailer bytes text

-- The reading of the whole body by a machine, if this text comes next.
abbrev pub Continues : Machine → List ℕ → Body → Type 0
Continues machine more body = Resumes machine.stage machine.body.items (machine.held.items ++ more) body

-- The invariant of each stage: the held bytes do not end their text, and chunks keep the body within its limit.
abbrev pub FitsStage : Stage → List ℕ → List ℕ → Type 0
FitsStage (Plain count) held bytes = held ≡ []
FitsStage SizeLine held bytes = (cut_text text.SizeLine held ≡ Unended) × (length bytes ≤ MAX_BODY_LEN)
FitsStage (Data count) held bytes = (held ≡ []) × (0 < count) × (length bytes + count ≤ MAX_BODY_LEN)
FitsStage DataEnd held bytes = (length held < 2) × (length bytes ≤ MAX_BODY_LEN)
FitsStage Trailer held bytes = cut_text text.Trailer held ≡ Unended

abbrev pub IsFit : Machine → Type 0
IsFit machine = FitsStage machine.stage machine.held.items machine.body.items

-- Where an open text ends: `held` was received before, `stream` follows, and the machine then holds `after`.
abbrev pub CutsOpen : TextKind → List ℕ → List ℕ → List ℕ → Cut → Type 0
CutsOpen kind held stream after (Whole len) =
    (length held < len) × (len ≤ length after) × (len - length held ≤ length stream)
    × ((more : List ℕ) → (cut_text kind (held ++ (stream ++ more)) ≡ Whole len)
    × (take len (held ++ (stream ++ more)) ≡ take len after)
    × (drop len (held ++ (stream ++ more)) ≡ drop (len - length held) stream ++ more))
CutsOpen kind held stream after Endless =
    (length held ≤ text_limit kind) × (text_limit kind - length held ≤ length stream)
    × ((more : List ℕ) → (cut_text kind (held ++ (stream ++ more)) ≡ Endless)
    × (drop (text_limit kind) (held ++ (stream ++ more)) ≡ drop (text_limit kind - length held) stream ++ more))
CutsOpen kind held stream after Unended = (after ≡ held ++ stream) × (cut_text kind after ≡ Unended)

-- How a machine in this stage stops in the text.
abbrev pub StopsFrom : Stage → List ℕ → List ℕ → List ℕ → Stop → Machine → Type 0
StopsFrom stage held bytes stream Awaits new =
    IsFit new × Continues new [] unfinished
    × ((more : List ℕ) (body : Body) → Continues new more body → Resumes stage bytes (held ++ (stream ++ more)) body)
StopsFrom stage held bytes stream (Complete count) new =
    (count ≤ length stream) × Resumes stage bytes (held ++ stream) (complete new.body.items (drop count stream))
StopsFrom stage held bytes stream (Broken fault count) new =
    (count ≤ length stream) × Resumes stage bytes (held ++ stream) (broken fault (drop count stream))

-- The result of one step over the text from this stage.
abbrev pub StepsFrom : Stage → List ℕ → List ℕ → List ℕ → Step → Machine → Type 0
StepsFrom stage held bytes stream (Moved count) new =
    (0 < count) × (count ≤ length stream) × IsFit new
    × ((more : List ℕ) (body : Body) → Continues new (drop count stream ++ more) body → Resumes stage bytes (held ++ (stream ++ more)) body)
StepsFrom stage held bytes stream (Stopped stop) new = StopsFrom stage held bytes stream stop new

abbrev pub StopsAt : Machine → List ℕ → Stop → Machine → Type 0
StopsAt old stream stop new = StopsFrom old.stage old.held.items old.body.items stream stop new

abbrev pub StepsTo : Machine → List ℕ → Step → Machine → Type 0
StepsTo old stream step new = StepsFrom old.stage old.held.items old.body.items stream step new

-- The step at a size line that took `at` bytes of the text, given the bytes of the chunks before it.
abbrev pub BeginsChunk : List ℕ → Option ℕ → ℕ → Step → Machine → Type 0
BeginsChunk bytes size at (Moved count) new =
    (count ≡ at) × IsFit new
    × ((stream : List ℕ) (body : Body) → Continues new stream body → GoesOn bytes (after_line bytes size stream) body)
BeginsChunk bytes size at (Stopped (Broken fault count)) new =
    (count ≡ at) × ((stream : List ℕ) → after_line bytes size stream ≡ last (broken fault stream))
BeginsChunk bytes size at (Stopped Awaits) new = ⊥
BeginsChunk bytes size at (Stopped (Complete count)) new = ⊥

-- A machine before the first byte of a body with this framing.
abbrev pub Opens : Framing → Machine → Type 0
Opens framing machine = IsFit machine × ((more : List ℕ) (body : Body) → Continues machine more body → ReadsBody framing more body)
