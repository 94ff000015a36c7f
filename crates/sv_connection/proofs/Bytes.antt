-- The bytes that the calls of turns read and write.
use Rattle.std.proofs.Common.{◌≡◌, ℕ, ◌+◌, ◌≤◌, Bool, true, false, ◌||◌, ◌⊎◌, List, [], ◌∷◌, ◌++◌, Some, refl, ap, ◌∙◌, inl, inr, append_assoc, append-nil, flat_map, length, map, arith}
use Rattle.std.specs.List.{AllByRecursion, concat}
use Rattle.sv_connection.specs.Laws.{IsLeft, bytes_of, last_bytes, last_sends, sends_of}
use Rattle.sv_connection.specs.Turns.{AtClose, AtEnd, AtFailedRead, AtFailedWrite, AtLimit, AtRefusal, Ending, GoesOn, IsEnding, Turn, all_calls, calls_of, last_calls, over_of}
use Rattle.sv_streams.specs.declared.line_reader.TheConstants.{MAX_READS}
use Rattle.sv_connection.specs.declared.over.Over.TheVariants.{Closed, Lost}
use Rattle.sv_streams.specs.Calls.{Gave, Took, WriteFailed, failures, given, meets_end, reads, taken}
use Rattle.sv_streams.proofs.CallJoins.{end_join, failures_join, given_join, reads_join, taken_join}

-- Writes.
none_given : (parts : List (List ℕ)) → given (map Took parts) ≡ []
none_given [] = refl
none_given (part ∷ parts) = none_given parts

all_taken : (parts : List (List ℕ)) → taken (map Took parts) ≡ concat parts
all_taken [] = refl
all_taken (part ∷ parts) = ap (λ bytes. part ++ bytes) (all_taken parts)

none_read : (parts : List (List ℕ)) → reads (map Took parts) ≡ 0
none_read [] = refl
none_read (part ∷ parts) = let rest : reads (map Took parts) ≡ 0 = none_read parts in omega arith

none_failed : (parts : List (List ℕ)) → failures (map Took parts) ≡ 0
none_failed [] = refl
none_failed (part ∷ parts) = let rest : failures (map Took parts) ≡ 0 = none_failed parts in omega arith

-- A turn.
given_of : (turn : Turn) → given (calls_of turn) ≡ turn.bytes
given_of turn = ap (λ bytes. turn.bytes ++ bytes) (none_given turn.parts) ∙ append-nil turn.bytes

reads_of : (turn : Turn) → reads (calls_of turn) ≡ 1
reads_of turn = let rest : reads (map Took turn.parts) ≡ 0 = none_read turn.parts in omega arith

failures_of : (turn : Turn) → failures (calls_of turn) ≡ 0
failures_of turn = let rest : failures (map Took turn.parts) ≡ 0 = none_failed turn.parts in omega arith

-- Turns.
given_of_all : (turns : List Turn) → given (flat_map calls_of turns) ≡ flat_map bytes_of turns
given_of_all [] = refl
given_of_all (turn ∷ turns) =
    given_join (calls_of turn) (flat_map calls_of turns)
    ∙ ap (λ front. front ++ given (flat_map calls_of turns)) (given_of turn)
    ∙ ap (λ bytes. turn.bytes ++ bytes) (given_of_all turns)

taken_of_all : (turns : List Turn) → AllByRecursion GoesOn turns → taken (flat_map calls_of turns) ≡ flat_map sends_of turns
taken_of_all [] all = refl
taken_of_all (turn ∷ turns) (here, all) =
    taken_join (calls_of turn) (flat_map calls_of turns)
    ∙ ap (λ front. front ++ taken (flat_map calls_of turns)) (all_taken turn.parts ∙ here.whole.is_written)
    ∙ ap (λ bytes. turn.reaction.sends ++ bytes) (taken_of_all turns all)

reads_of_all : (turns : List Turn) → reads (flat_map calls_of turns) ≡ length turns
reads_of_all [] = refl
reads_of_all (turn ∷ turns) =
    let joined : reads (calls_of turn ++ flat_map calls_of turns) ≡ reads (calls_of turn) + reads (flat_map calls_of turns) =
    reads_join (calls_of turn) (flat_map calls_of turns) in
    let first : reads (calls_of turn) ≡ 1 = reads_of turn in
    let rest : reads (flat_map calls_of turns) ≡ length turns = reads_of_all turns in
    omega arith

failures_of_all : (turns : List Turn) → failures (flat_map calls_of turns) ≡ 0
failures_of_all [] = refl
failures_of_all (turn ∷ turns) =
    let joined : failures (calls_of turn ++ flat_map calls_of turns) ≡ failures (calls_of turn) + failures (flat_map calls_of turns) =
    failures_join (calls_of turn) (flat_map calls_of turns) in
    let first : failures (calls_of turn) ≡ 0 = failures_of turn in
    let rest : failures (flat_map calls_of turns) ≡ 0 = failures_of_all turns in
    omega arith

-- The last calls.
given_last : (ending : Ending) → given (last_calls ending) ≡ last_bytes ending
given_last AtEnd = refl
given_last (AtClose turn) = given_of turn
given_last AtFailedRead = refl
given_last (AtFailedWrite turn) = given_join (calls_of turn) (WriteFailed ∷ []) ∙ append-nil (given (calls_of turn)) ∙ given_of turn
given_last AtLimit = refl
given_last (AtRefusal bytes moment) = append-nil bytes

taken_last : (turns : List Turn) (ending : Ending) → IsEnding turns ending
    → (rest : List ℕ) × (taken (last_calls ending) ++ rest ≡ last_sends ending) × IsLeft ending rest
taken_last turns AtEnd is = ([], refl, refl)
taken_last turns (AtClose turn) (whole, closes) = ([], append-nil (taken (calls_of turn)) ∙ all_taken turn.parts ∙ whole.is_written, refl)
taken_last turns AtFailedRead is = ([], refl, refl)
taken_last turns (AtFailedWrite turn) (rest, cut) = (
  rest,
  ap (λ bytes. bytes ++ rest) (taken_join (calls_of turn) (WriteFailed ∷ []) ∙ append-nil (taken (calls_of turn)) ∙ all_taken turn.parts) ∙ cut.is_written,
  cut.left,
)
taken_last turns AtLimit is = ([], refl, refl)
taken_last turns (AtRefusal bytes moment) is = ([], refl, refl)

reads_last : (ending : Ending) → reads (last_calls ending) ≤ 1
reads_last AtEnd = omega arith
reads_last (AtClose turn) = let one : reads (calls_of turn) ≡ 1 = reads_of turn in omega arith
reads_last AtFailedRead = omega arith
reads_last (AtFailedWrite turn) =
    let one : reads (calls_of turn) ≡ 1 = reads_of turn in
    let joined : reads (calls_of turn ++ WriteFailed ∷ []) ≡ reads (calls_of turn) + reads (WriteFailed ∷ []) = reads_join (calls_of turn) (WriteFailed ∷ []) in
    omega arith
reads_last AtLimit = omega arith
reads_last (AtRefusal bytes moment) = omega arith

-- There is at most one read more than turns.
pub reads_within : (turns : List Turn) (ending : Ending) → reads (all_calls turns ending) ≤ length turns + 1
reads_within turns ending =
    let joined : reads (flat_map calls_of turns ++ last_calls ending) ≡ reads (flat_map calls_of turns) + reads (last_calls ending) =
    reads_join (flat_map calls_of turns) (last_calls ending) in
    let front : reads (flat_map calls_of turns) ≡ length turns = reads_of_all turns in
    let last : reads (last_calls ending) ≤ 1 = reads_last ending in
    omega arith

pub reads_at_limit : (turns : List Turn) → reads (all_calls turns AtLimit) ≡ length turns
reads_at_limit turns = ap reads (append-nil (flat_map calls_of turns)) ∙ reads_of_all turns

pub given_of_calls : (turns : List Turn) (ending : Ending) → given (all_calls turns ending) ≡ flat_map bytes_of turns ++ last_bytes ending
given_of_calls turns ending =
    given_join (flat_map calls_of turns) (last_calls ending)
    ∙ ap (λ front. front ++ given (last_calls ending)) (given_of_all turns)
    ∙ ap (λ bytes. flat_map bytes_of turns ++ bytes) (given_last ending)

pub taken_of_calls : (turns : List Turn) (ending : Ending) → AllByRecursion GoesOn turns → IsEnding turns ending
    → (rest : List ℕ) × (taken (all_calls turns ending) ++ rest ≡ flat_map sends_of turns ++ last_sends ending) × IsLeft ending rest
taken_of_calls turns ending all is =
    let last = taken_last turns ending is in (
      last.0,
      ap (λ bytes. bytes ++ last.0) (taken_join (flat_map calls_of turns) (last_calls ending))
          ∙ append_assoc (taken (flat_map calls_of turns)) (taken (last_calls ending)) last.0
          ∙ ap (λ front. front ++ (taken (last_calls ending) ++ last.0)) (taken_of_all turns all)
          ∙ ap (λ bytes. flat_map sends_of turns ++ bytes) last.1,
      last.2,
    )

failures_then : (turns : List Turn) (ending : Ending) (count : ℕ) → failures (last_calls ending) ≡ count → failures (all_calls turns ending) ≡ count
failures_then turns ending count last =
    let joined : failures (flat_map calls_of turns ++ last_calls ending) ≡ failures (flat_map calls_of turns) + failures (last_calls ending) =
    failures_join (flat_map calls_of turns) (last_calls ending) in
    let front : failures (flat_map calls_of turns) ≡ 0 = failures_of_all turns in
    omega arith

pub lost_has_a_cause : (turns : List Turn) (ending : Ending) → IsEnding turns ending → over_of ending ≡ Some Lost
    → (failures (all_calls turns ending) ≡ 1) ⊎ (reads (all_calls turns ending) ≡ MAX_READS)
lost_has_a_cause turns AtEnd is over = cc
lost_has_a_cause turns (AtClose turn) is over = cc
lost_has_a_cause turns AtFailedRead is over = inl (failures_then turns AtFailedRead 1 refl)
lost_has_a_cause turns (AtFailedWrite turn) is over =
    let joined : failures (calls_of turn ++ WriteFailed ∷ []) ≡ failures (calls_of turn) + failures (WriteFailed ∷ []) =
    failures_join (calls_of turn) (WriteFailed ∷ []) in
    let front : failures (calls_of turn) ≡ 0 = failures_of turn in
    inl (failures_then turns (AtFailedWrite turn) 1 (omega arith))
lost_has_a_cause turns AtLimit is over = inr (reads_at_limit turns ∙ is)
lost_has_a_cause turns (AtRefusal bytes moment) is over = cc

or_true : (b : Bool) → (b || true) ≡ true
or_true true = refl
or_true false = refl

pub closed_has_a_cause : (turns : List Turn) (ending : Ending) → IsEnding turns ending → over_of ending ≡ Some Closed
    → (failures (all_calls turns ending) ≡ 0)
    × ((meets_end (all_calls turns ending) ≡ true) ⊎ ((turn : Turn) × (ending ≡ AtClose turn) × (turn.reaction.closes ≡ true)))
closed_has_a_cause turns AtEnd is over = (
  failures_then turns AtEnd 0 refl,
  inl (end_join (flat_map calls_of turns) (Gave [] ∷ []) ∙ or_true (meets_end (flat_map calls_of turns))),
)
closed_has_a_cause turns (AtClose turn) (whole, closes) over = (failures_then turns (AtClose turn) 0 (failures_of turn), inr (turn, refl, closes))
closed_has_a_cause turns AtFailedRead is over = cc
closed_has_a_cause turns (AtFailedWrite turn) is over = cc
closed_has_a_cause turns AtLimit is over = cc
closed_has_a_cause turns (AtRefusal bytes moment) is over = cc
