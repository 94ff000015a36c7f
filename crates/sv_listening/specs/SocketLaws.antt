-- The law of streams that are read in parts.
use Rattle.std.specs.Prelude.{◌≡◌, ◌<◌, List, ◌++◌, length}
use Rattle.std.specs.List.{AllByRecursion}
use Rattle.sv_streams.specs.Calls.{AreMade, Call, Gave, Making, failures, given, taken}
use Rattle.sv_listening.specs.Parts.{InParts, IsPart, MakesParts}

-- The bytes of a read are a part, unless the stream ended.
abbrev pub GivesPart : Call → Type 0
GivesPart (Gave bytes) = 0 < length bytes → IsPart bytes
GivesPart other = Unit {0}

-- Calls of a stream that is read in parts are calls of the stream below. The bytes that it returns and then keeps are
-- those that it kept before and that the stream below gave.
abbrev pub PartsAreWhatIsRead : {S : Type 0} → Making S → Type 0
PartsAreWhatIsRead {S} makes =
    (before after : InParts S) (calls : List Call) → AreMade (MakesParts makes) before calls after
    → AllByRecursion GivesPart calls
    × ((below : List Call) × AreMade makes before.stream below after.stream × (given calls ++ after.kept ≡ before.kept ++ given below)
    × (taken calls ≡ taken below) × (failures calls ≡ failures below))
