-- The progress of a connection.
use Rattle.std.proofs.Common.{◌≡◌, ◌≢◌, ℕ, ◌+◌, ◌<◌, ◌≤◌, List, [], ◌∷◌, ◌++◌, None, Some, Ok, Err, Result, refl, sym, ap, ◌∙◌, inl, inr, append_assoc, append-nil, flat_map, length, length-append, map, arith}
use Rattle.std.proofs.lemmas.List.{map-append}
use Rattle.std.specs.List.{AllByRecursion}
use Rattle.sv_connection.specs.Connection.{Connects, IsResult, Talks}
use Rattle.sv_connection.specs.Turns.{AtClose, AtEnd, AtFailedRead, AtFailedWrite, AtLimit, AtRefusal, Ending, GoesOn, IsEnding, Turn, all_calls, brought, calls_of, last_answers, last_calls, last_events, last_moments, moment_of, piece_of}
use Rattle.sv_connection.specs.TurnSteps.{TakesTurn, TellsOver}
use Rattle.sv_streams.specs.declared.line_reader.TheConstants.{MAX_READS}
use Rattle.sv_connection.specs.declared.over.Over.{Over}
use Rattle.sv_connection.specs.declared.over.Over.TheVariants.{Lost}
use Rattle.sv_run.specs.Events.{Opened}
use Rattle.sv_run.specs.Reacting.{Reacting}
use Rattle.sv_run.specs.declared.happening.Reaction.{Reaction}
use Rattle.sv_run.specs.declared.step_fault.StepFault.{StepFault}
use Rattle.sv_streams.specs.Calls.{Making, reads}
use Rattle.sv_connection.proofs.Bytes.{reads_at_limit, reads_within}
use Rattle.sv_connection.proofs.TalkLemmas.{talks_join}

calls_more : (turns : List Turn) (turn : Turn) → flat_map calls_of (turns ++ turn ∷ []) ≡ flat_map calls_of turns ++ calls_of turn
calls_more [] turn = append-nil (calls_of turn)
calls_more (first ∷ turns) turn =
    ap (λ calls. calls_of first ++ calls) (calls_more turns turn) ∙ sym (append_assoc (calls_of first) (flat_map calls_of turns) (calls_of turn))

all_more : {A : Type 0} (P : A → Type 0) (xs : List A) (x : A) → AllByRecursion P xs → P x → AllByRecursion P (xs ++ x ∷ [])
all_more P [] x all is = (is, tt)
all_more P (first ∷ xs) x (here, all) is = (here, all_more P xs x all is)

ends_behind : (turns : List Turn) (ending : Ending) → ending ≢ AtLimit → IsEnding [] ending → IsEnding turns ending
ends_behind turns AtEnd other is = is
ends_behind turns (AtClose turn) other is = is
ends_behind turns AtFailedRead other is = is
ends_behind turns (AtFailedWrite turn) other is = is
ends_behind turns AtLimit other is = absurd (other refl)
ends_behind turns (AtRefusal bytes moment) other is = is

-- The turns that went on so far.
pub record Progress {R S C : Type 0} (steps : Reacting R) (makes : Making S) (tells : C → ℕ → C → Type 0) (connection : ℕ)
    (before : R) (stream : S) (clock : C) (turns_taken : ℕ) (now : R) (stream_now : S) (clock_now : C) : Type 0 where
  pub opening : Reaction
  pub turns : List Turn
  pub go_on : AllByRecursion GoesOn turns
  pub counted : length turns ≡ turns_taken
  pub talks : Talks steps makes tells before stream clock
      (Opened connection ∷ map (piece_of connection) turns)
      (Ok opening ∷ map brought turns)
      (flat_map calls_of turns)
      (map moment_of turns)
      now stream_now clock_now

module _ {R S C : Type 0} (steps : Reacting R) (makes : Making S) (tells : C → ℕ → C → Type 0) (connection : ℕ) (before : R) (stream : S) (clock : C) where
  -- The opening was refused.
  pub opening_refused : (fault : StepFault) (after : R) → steps before (Opened connection) (Err fault) after
      → Connects steps makes tells connection before stream clock (Err fault) after stream clock
  opening_refused fault after step =
      inl (record { fault = fault; talks = record { reacts = (after, step, refl); are_made = refl; are_told = refl }; is_result = refl })

  -- The connection was opened.
  pub opened : (opening : Reaction) (after : R) → steps before (Opened connection) (Ok opening) after
      → Progress steps makes tells connection before stream clock 0 after stream clock
  opened opening after step = record {
    opening = opening;
    turns = [];
    go_on = tt;
    counted = refl;
    talks = record { reacts = (after, step, refl); are_made = refl; are_told = refl };
  }

  module _ (turns_taken : ℕ) (now after : R) (stream_now stream_after : S) (clock_now clock_after : C)
      (p : Progress steps makes tells connection before stream clock turns_taken now stream_now clock_now) where
    -- One more turn went on.
    pub turn_more : TakesTurn steps connection makes tells now stream_now clock_now None after stream_after clock_after
        → Progress steps makes tells connection before stream clock (turns_taken + 1) after stream_after clock_after
    turn_more (turn, goes_on, talks) =
        let counted : length (p.turns ++ turn ∷ []) ≡ length p.turns + 1 = length-append p.turns (turn ∷ []) in
        let counted_yet : length p.turns ≡ turns_taken = p.counted in
        let joined = talks_join steps makes tells before now after stream stream_now stream_after clock clock_now clock_after
        (Opened connection ∷ map (piece_of connection) p.turns) (piece_of connection turn ∷ [])
        (Ok p.opening ∷ map brought p.turns) (brought turn ∷ [])
        (flat_map calls_of p.turns) (calls_of turn) (map moment_of p.turns) (moment_of turn ∷ []) p.talks talks in
        record {
          opening = p.opening;
          turns = p.turns ++ turn ∷ [];
          go_on = all_more GoesOn p.turns turn p.go_on goes_on;
          counted = omega arith;
          talks = rw (
            map-append (piece_of connection) p.turns (turn ∷ []),
            map-append brought p.turns (turn ∷ []),
            calls_more p.turns turn,
            map-append moment_of p.turns (turn ∷ []),
          ) joined;
        }

    served : (result : Result Over StepFault) (ending : Ending) (last : Result Reaction StepFault) → IsEnding p.turns ending → reads (all_calls p.turns ending) ≤ MAX_READS
        → Talks steps makes tells now stream_now clock_now (last_events connection ending) (last_answers ending last) (last_calls ending) (last_moments ending) after stream_after clock_after
        → IsResult ending last result
        → Connects steps makes tells connection before stream clock result after stream_after clock_after
    served result ending last is_ending within talks is_result =
        inr (record {
          opening = p.opening;
          turns = p.turns;
          go_on = p.go_on;
          ending = ending;
          is_ending = is_ending;
          within = within;
          last = last;
          talks = talks_join steps makes tells before now after stream stream_now stream_after clock clock_now clock_after
              (Opened connection ∷ map (piece_of connection) p.turns) (last_events connection ending)
              (Ok p.opening ∷ map brought p.turns) (last_answers ending last)
              (flat_map calls_of p.turns) (last_calls ending) (map moment_of p.turns) (last_moments ending) p.talks talks;
          is_result = is_result;
        })

    -- A turn ended the connection.
    pub over_then : (result : Result Over StepFault) → turns_taken < MAX_READS
        → TakesTurn steps connection makes tells now stream_now clock_now (Some result) after stream_after clock_after
        → Connects steps makes tells connection before stream clock result after stream_after clock_after
    over_then result below (ending, last, other, is_ending, talks, is_result) =
        let counted : length p.turns ≡ turns_taken = p.counted in
        let read : reads (all_calls p.turns ending) ≤ length p.turns + 1 = reads_within p.turns ending in
        served result ending last (ends_behind p.turns ending other is_ending) (omega arith) talks is_result

    -- The limit of reads was met.
    pub limit_met : (result : Result Over StepFault) → turns_taken ≡ MAX_READS → TellsOver steps connection now Lost result after
        → stream_after ≡ stream_now → clock_after ≡ clock_now
        → Connects steps makes tells connection before stream clock result after stream_after clock_after
    limit_met result all (last, step, is_result) same same_clock =
        let read : reads (all_calls p.turns AtLimit) ≡ length p.turns = reads_at_limit p.turns in
        let counted : length p.turns ≡ MAX_READS = p.counted ∙ all in
        served result AtLimit last counted (omega arith) (record { reacts = (after, step, refl); are_made = same; are_told = same_clock }) is_result
