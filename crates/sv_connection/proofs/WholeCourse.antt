-- A connection as a run of a container.
use Rattle.std.proofs.Common.{◌≡◌, ◌⊎◌, ℕ, true, List, [], ◌∷◌, ◌++◌, map, flat_map, MatchOption, Option, None, Some, Ok, Err, Result, refl, sym, ap, ◌∙◌, inl, inr, subst, append_assoc, append-nil}
use Rattle.std.specs.Option.{option_to_list}
use Rattle.sv_connection.specs.Connection.{AreTold, IsRefused, IsResult, IsServed, told_as}
use Rattle.sv_connection.specs.Laws as laws
use Rattle.sv_connection.specs.Running.{AConnectionIsARun, ClosesAtLast, IsARun, IsLeft, IsOverBy, IsPiece, OnlyPiecesSend, Read, bytes_of, events_of, moment_of, piece_of, sent_by}
use Rattle.sv_connection.specs.Turns.{AtClose, AtEnd, AtFailedRead, AtFailedWrite, AtLimit, AtRefusal, Ending, GoesOn, IsEnding, Turn, all_calls, brought, calls_of, last_answers, last_events, last_moments, over_event, over_of}
use Rattle.sv_connection.specs.Turns as turns_so
use Rattle.sv_streams.specs.declared.line_reader.TheConstants.{MAX_READS}
use Rattle.sv_connection.specs.declared.over.Over.{Over}
use Rattle.sv_connection.specs.declared.over.Over.TheVariants.{Closed, Lost}
use Rattle.sv_run.specs.Contexts.{Theory}
use Rattle.sv_run.specs.Effect.{Effect, shown}
use Rattle.sv_run.specs.Events.{Happening, Opened, Piece}
use Rattle.sv_run.specs.Events as events
use Rattle.sv_run.specs.Reacting.{Reacting, Reacts, StepsLike, answer_shown}
use Rattle.sv_run.specs.Runs.{Answer, Run}
use Rattle.sv_run.specs.State.{State}
use Rattle.sv_run.specs.declared.happening.Reaction.{Reaction}
use Rattle.sv_run.specs.declared.step_fault.StepFault.{StepFault}
use Rattle.sv_run.proofs.Reactions.{run_of}
use Rattle.sv_streams.specs.Calls.{AreMade, Call, Making, WriteFailed, failures, given, meets_end, reads, taken}
use Rattle.sv_connection.proofs.Bytes.{closed_has_a_cause, given_of_calls, lost_has_a_cause, taken_of_calls}

-- ---- Only pieces send

pub only_pieces_send : {Context Words : Type 0} (theory : Theory Context Words) → OnlyPiecesSend theory
only_pieces_send {Context} theory before after (events.Opened number) effect accepts =
    inr (ap (λ (e : Effect Context). e.sends) accepts.is_joined ∙ ap (λ (e : Effect Context). e.sends) accepts.happens.0)
only_pieces_send theory before after (events.Piece number bytes moment) effect accepts = inl (number, bytes, moment, refl)
only_pieces_send {Context} theory before after (events.Ended number) effect accepts =
    inr (ap (λ (e : Effect Context). e.sends) accepts.is_joined ∙ ap (λ (e : Effect Context). e.sends) accepts.happens.0)
only_pieces_send {Context} theory before after (events.Lost number) effect accepts =
    inr (ap (λ (e : Effect Context). e.sends) accepts.is_joined ∙ ap (λ (e : Effect Context). e.sends) accepts.happens.0)
only_pieces_send {Context} theory before after (events.Tick moment) effect accepts =
    inr (ap (λ (e : Effect Context). e.sends) accepts.is_joined ∙ ap (λ (e : Effect Context). e.sends) accepts.happens.0)
only_pieces_send {Context} theory before after (events.Edited path edit) effect accepts =
    inr (ap (λ (e : Effect Context). e.sends) accepts.is_joined ∙ ap (λ (e : Effect Context). e.sends) accepts.happens.brings)

-- ---- Turns as reads and reactions

abbrev read_of : Turn → Read
read_of turn = record { bytes = turn.bytes; moment = turn.moment }

abbrev last_reads : Ending → List Read
last_reads AtEnd = []
last_reads (AtClose turn) = read_of turn ∷ []
last_reads AtFailedRead = []
last_reads (AtFailedWrite turn) = read_of turn ∷ []
last_reads AtLimit = []
last_reads (AtRefusal bytes moment) = record { bytes = bytes; moment = moment } ∷ []

abbrev reads_of : List Turn → Ending → List Read
reads_of [] ending = last_reads ending
reads_of (turn ∷ turns) ending = read_of turn ∷ reads_of turns ending

abbrev last_reactions : Ending → List Reaction
last_reactions AtEnd = []
last_reactions (AtClose turn) = turn.reaction ∷ []
last_reactions AtFailedRead = []
last_reactions (AtFailedWrite turn) = turn.reaction ∷ []
last_reactions AtLimit = []
last_reactions (AtRefusal bytes moment) = []

abbrev reactions_of : List Turn → Ending → List Reaction
reactions_of [] ending = last_reactions ending
reactions_of (turn ∷ turns) ending = turn.reaction ∷ reactions_of turns ending

abbrev bytes_sent : Reaction → List ℕ
bytes_sent reaction = reaction.sends

same_events : (connection : ℕ) (turns : List Turn) (ending : Ending)
    → map (turns_so.piece_of connection) turns ++ last_events connection ending
    ≡ map (piece_of connection) (reads_of turns ending) ++ map (over_event connection) (option_to_list (over_of ending))
same_events connection [] AtEnd = refl
same_events connection [] (AtClose turn) = refl
same_events connection [] AtFailedRead = refl
same_events connection [] (AtFailedWrite turn) = refl
same_events connection [] AtLimit = refl
same_events connection [] (AtRefusal bytes moment) = refl
same_events connection (turn ∷ turns) ending = ap (λ more. Piece connection turn.bytes turn.moment ∷ more) (same_events connection turns ending)

same_answers : (turns : List Turn) (ending : Ending) (last : Result Reaction StepFault)
    → map brought turns ++ last_answers ending last ≡ map Ok (reactions_of turns ending) ++ last ∷ []
same_answers [] AtEnd last = refl
same_answers [] (AtClose turn) last = refl
same_answers [] AtFailedRead last = refl
same_answers [] (AtFailedWrite turn) last = refl
same_answers [] AtLimit last = refl
same_answers [] (AtRefusal bytes moment) last = refl
same_answers (turn ∷ turns) ending last = ap (λ more. Ok turn.reaction ∷ more) (same_answers turns ending last)

same_moments : (turns : List Turn) (ending : Ending) → map turns_so.moment_of turns ++ last_moments ending ≡ map moment_of (reads_of turns ending)
same_moments [] AtEnd = refl
same_moments [] (AtClose turn) = refl
same_moments [] AtFailedRead = refl
same_moments [] (AtFailedWrite turn) = refl
same_moments [] AtLimit = refl
same_moments [] (AtRefusal bytes moment) = refl
same_moments (turn ∷ turns) ending = ap (λ more. turn.moment ∷ more) (same_moments turns ending)

same_bytes : (turns : List Turn) (ending : Ending) → flat_map laws.bytes_of turns ++ laws.last_bytes ending ≡ flat_map bytes_of (reads_of turns ending)
same_bytes [] AtEnd = refl
same_bytes [] (AtClose turn) = sym (append-nil turn.bytes)
same_bytes [] AtFailedRead = refl
same_bytes [] (AtFailedWrite turn) = sym (append-nil turn.bytes)
same_bytes [] AtLimit = refl
same_bytes [] (AtRefusal bytes moment) = sym (append-nil bytes)
same_bytes (turn ∷ turns) ending =
    append_assoc turn.bytes (flat_map laws.bytes_of turns) (laws.last_bytes ending) ∙ ap (λ more. turn.bytes ++ more) (same_bytes turns ending)

same_sends : (turns : List Turn) (ending : Ending) → flat_map laws.sends_of turns ++ laws.last_sends ending ≡ flat_map bytes_sent (reactions_of turns ending)
same_sends [] AtEnd = refl
same_sends [] (AtClose turn) = sym (append-nil turn.reaction.sends)
same_sends [] AtFailedRead = refl
same_sends [] (AtFailedWrite turn) = sym (append-nil turn.reaction.sends)
same_sends [] AtLimit = refl
same_sends [] (AtRefusal bytes moment) = refl
same_sends (turn ∷ turns) ending =
    append_assoc turn.reaction.sends (flat_map laws.sends_of turns) (laws.last_sends ending)
    ∙ ap (λ more. turn.reaction.sends ++ more) (same_sends turns ending)

-- ---- The end

left_so : (turns : List Turn) (ending : Ending) (rest : List ℕ) → laws.IsLeft ending rest → IsLeft (all_calls turns ending) (over_of ending) rest
left_so turns AtEnd rest is = inl is
left_so turns (AtClose turn) rest is = inl is
left_so turns AtFailedRead rest is = inl is
left_so turns (AtFailedWrite turn) rest is =
    inr (refl, (flat_map calls_of turns ++ calls_of turn, sym (append_assoc (flat_map calls_of turns) (calls_of turn) (WriteFailed ∷ []))))
left_so turns AtLimit rest is = inl is
left_so turns (AtRefusal bytes moment) rest is = inl is

-- The last reaction closes the connection.
abbrev ReactionCloses : List Reaction → Type 0
ReactionCloses reactions = (earlier : List Reaction) × (last : Reaction) × (earlier ++ last ∷ [] ≡ reactions) × (last.closes ≡ true)

reactions_at_close : (turns : List Turn) (turn : Turn) → map (λ (t : Turn). t.reaction) turns ++ turn.reaction ∷ [] ≡ reactions_of turns (AtClose turn)
reactions_at_close [] turn = refl
reactions_at_close (first ∷ turns) turn = ap (λ more. first.reaction ∷ more) (reactions_at_close turns turn)

closes_so : (opening : Reaction) (turns : List Turn) (ending : Ending) → IsEnding turns ending → over_of ending ≡ Some Closed
    → (failures (all_calls turns ending) ≡ 0) × ((meets_end (all_calls turns ending) ≡ true) ⊎ ReactionCloses (opening ∷ reactions_of turns ending))
closes_so opening turns ending is over =
    let cause = closed_has_a_cause turns ending is over in
    (cause.0, by_cause cause.1)
  where
    by_cause : ((meets_end (all_calls turns ending) ≡ true) ⊎ ((turn : Turn) × (ending ≡ AtClose turn) × (turn.reaction.closes ≡ true)))
        → ((meets_end (all_calls turns ending) ≡ true) ⊎ ReactionCloses (opening ∷ reactions_of turns ending))
    by_cause (inl meets) = inl meets
    by_cause (inr closing) =
        inr (
          opening ∷ map (λ (t : Turn). t.reaction) turns,
          closing.0.reaction,
          ap (λ more. opening ∷ more) (reactions_at_close turns closing.0 ∙ ap (λ e. reactions_of turns e) (sym closing.1)),
          closing.2,
        )

same_tail : {X : Type 0} (x y : X) (xs ys : List X) → x ∷ xs ≡ y ∷ ys → xs ≡ ys
same_tail x y xs ys same = cc

same_head : {X : Type 0} (x y : X) (xs ys : List X) → x ∷ xs ≡ y ∷ ys → x ≡ y
same_head x y xs ys same = cc

-- The bytes that the result of an event sends.
abbrev sent_of : Result Reaction StepFault → List ℕ
sent_of (Ok reaction) = reaction.sends
sent_of (Err fault) = []

module _ {Context : Type 0} where
  -- ---- Results, as the run shows them

  accepted_so : (reaction : Reaction) (effect : Effect Context) → ◌≡◌ {A = Result Reaction StepFault} (Ok reaction) (Ok (shown effect)) → reaction ≡ shown effect
  accepted_so reaction effect same = cc

  record SeenOf (reactions : List Reaction) (last : Result Reaction StepFault) (answers : List (Answer Context)) : Type 0 where
    pub accepted : List (Effect Context)
    pub other : Answer Context
    pub are : answers ≡ map Ok accepted ++ other ∷ []
    pub seen : reactions ≡ map shown accepted
    pub last_seen : last ≡ answer_shown other

  seen_of : (reactions : List Reaction) (last : Result Reaction StepFault) (answers : List (Answer Context))
      → map Ok reactions ++ last ∷ [] ≡ map answer_shown answers → SeenOf reactions last answers
  seen_of [] last [] same = absurd (cc)
  seen_of [] last (answer ∷ []) same =
      record { accepted = []; other = answer; are = refl; seen = refl; last_seen = same_head last (answer_shown answer) [] [] same }
  seen_of [] last (answer ∷ more ∷ answers) same = absurd (cc)
  seen_of (reaction ∷ reactions) last [] same = absurd (cc)
  seen_of (reaction ∷ reactions) last (Ok effect ∷ answers) same =
      let later = seen_of reactions last answers (same_tail (Ok reaction) (Ok (shown effect)) (map Ok reactions ++ last ∷ []) (map answer_shown answers) same) in
      let here = accepted_so reaction effect (same_head (Ok reaction) (Ok (shown effect)) (map Ok reactions ++ last ∷ []) (map answer_shown answers) same) in
      record {
        accepted = effect ∷ later.accepted;
        other = later.other;
        are = ap (λ more. Ok effect ∷ more) later.are;
        seen = λ i. here i ∷ later.seen i;
        last_seen = later.last_seen;
      }
  seen_of (reaction ∷ reactions) last (Err fault ∷ answers) same =
      let never : Ok reaction ≡ Err fault = same_head (Ok reaction) (Err fault) (map Ok reactions ++ last ∷ []) (map answer_shown answers) same in
      absurd (cc)

  sent_seen : (answer : Answer Context) → sent_by answer ≡ sent_of (answer_shown answer)
  sent_seen (Ok effect) = refl
  sent_seen (Err fault) = refl

  all_sent : (accepted : List (Effect Context)) (last : Answer Context) → sent_by last ≡ []
      → flat_map sent_by (map Ok accepted ++ last ∷ []) ≡ flat_map bytes_sent (map shown accepted)
  all_sent [] last silent = ap (λ bytes. bytes ++ []) silent
  all_sent (effect ∷ accepted) last silent = ap (λ more. effect.sends ++ more) (all_sent accepted last silent)

  closes_at_last : (earlier : List Reaction) (last : Reaction) (accepted : List (Effect Context)) → earlier ++ last ∷ [] ≡ map shown accepted → last.closes ≡ true
      → ClosesAtLast accepted
  closes_at_last [] last [] same closes = absurd (cc)
  closes_at_last [] last (effect ∷ []) same closes =
      ([], effect, refl, sym (ap (λ (r : Reaction). r.closes) (same_head last (shown effect) [] [] same)) ∙ closes)
  closes_at_last [] last (effect ∷ more ∷ accepted) same closes = absurd (cc)
  closes_at_last (reaction ∷ earlier) last [] same closes = absurd (cc)
  closes_at_last (reaction ∷ earlier) last (effect ∷ accepted) same closes =
      let later = closes_at_last earlier last accepted (same_tail reaction (shown effect) (earlier ++ last ∷ []) (map shown accepted) same) closes in
      (effect ∷ later.0, later.1, ap (λ more. effect ∷ more) later.2, later.3)

  over_so : (over : Option Over) (last : Result Reaction StepFault) (result : Result Over StepFault) (answer : Answer Context) → last ≡ answer_shown answer
      → MatchOption over ((fault : StepFault) × (last ≡ Err fault) × (result ≡ Err fault)) (λ told. result ≡ told_as told last)
      → IsOverBy over answer result
  over_so None last result (Ok effect) seen is =
      let never : Ok (shown effect) ≡ Err is.0 = sym seen ∙ is.1 in
      absurd (cc)
  over_so None last result (Err fault) seen is = (is.0, same_fault fault is.0 (sym seen ∙ is.1), is.2)
    where
      same_fault : (one two : StepFault) → ◌≡◌ {A = Result Reaction StepFault} (Err one) (Err two) → ◌≡◌ {A = Answer Context} (Err one) (Err two)
      same_fault one two same = cc
  over_so (Some told) last result answer seen is = is ∙ ap (told_as told) seen

module _ {R S C Context Words : Type 0} (steps : Reacting R) (makes : Making S) (tells : C → ℕ → C → Type 0) (theory : Theory Context Words)
    (state_of : R → State Context Words) (like : StepsLike steps theory state_of) where
  -- An event that is not a piece sends nothing.
  silent : (before after : R) (happening : Happening) (last : Result Reaction StepFault) → ¬ (IsPiece happening) → steps before happening last after
      → sent_of last ≡ []
  silent before after happening (Err fault) other step = refl
  silent before after happening (Ok reaction) other step =
      let found = like before after happening (Ok reaction) step in
      by_answer found.0 found.1 found.2
    where
      by_effect : (effect : Effect Context) → reaction ≡ shown effect → IsPiece happening ⊎ (effect.sends ≡ []) → reaction.sends ≡ []
      by_effect effect seen (inl is) = absurd (other is)
      by_effect effect seen (inr none) = ap (λ (r : Reaction). r.sends) seen ∙ none

      by_answer : (answer : Answer Context) → events.Steps theory (state_of before) happening answer (state_of after)
          → ◌≡◌ {A = Result Reaction StepFault} (Ok reaction) (answer_shown answer) → reaction.sends ≡ []
      by_answer (Ok effect) accepts seen =
          by_effect effect (accepted_so reaction effect seen) (only_pieces_send theory (state_of before) (state_of after) happening effect accepts)
      by_answer (Err fault) refused seen = absurd (cc)

  module _ (connection : ℕ) where
    not_opened : ¬ (IsPiece (events.Opened connection))
    not_opened is = let never = is.3 in absurd (cc)

    not_ended : ¬ (IsPiece (events.Ended connection))
    not_ended is = let never = is.3 in absurd (cc)

    not_lost : ¬ (IsPiece (events.Lost connection))
    not_lost is = let never = is.3 in absurd (cc)

    -- The event of the end sends nothing, and neither does a refused event.
    last_silent : (turns : List Turn) (ending : Ending) (last : Result Reaction StepFault) (result : Result Over StepFault) (before after : R)
        → IsResult ending last result
        → Reacts steps before (map (turns_so.piece_of connection) turns ++ last_events connection ending) (map brought turns ++ last_answers ending last) after
        → sent_of last ≡ []
    last_silent [] AtEnd last result before after is reacts = silent before reacts.0 (events.Ended connection) last not_ended reacts.1
    last_silent [] (AtClose turn) last result before after is reacts = silent reacts.0 reacts.2.0 (events.Ended connection) last not_ended reacts.2.1
    last_silent [] AtFailedRead last result before after is reacts = silent before reacts.0 (events.Lost connection) last not_lost reacts.1
    last_silent [] (AtFailedWrite turn) last result before after is reacts = silent reacts.0 reacts.2.0 (events.Lost connection) last not_lost reacts.2.1
    last_silent [] AtLimit last result before after is reacts = silent before reacts.0 (events.Lost connection) last not_lost reacts.1
    last_silent [] (AtRefusal bytes moment) last result before after is reacts = ap (λ a. sent_of a) is.1
    last_silent (turn ∷ turns) ending last result before after is reacts = last_silent turns ending last result reacts.0 after is reacts.2

    module _ (before : R) (stream : S) (clock : C) (result : Result Over StepFault) (after : R) (stream_after : S) (clock_after : C) where
      -- Events and results in the form of a connection are a run.
      of_form : (its_pieces : List Read) (its_over : Option Over) (reactions : List Reaction) (its_last : Result Reaction StepFault) (its_calls : List Call) (its_rest : List ℕ)
          → Reacts steps before (events_of connection its_pieces its_over) (map Ok reactions ++ its_last ∷ []) after
          → MatchOption its_over ((fault : StepFault) × (its_last ≡ Err fault) × (result ≡ Err fault)) (λ told. result ≡ told_as told its_last)
          → AreMade makes stream its_calls stream_after → AreTold tells clock (map moment_of its_pieces) clock_after
          → given its_calls ≡ flat_map bytes_of its_pieces → taken its_calls ++ its_rest ≡ flat_map bytes_sent reactions
          → sent_of its_last ≡ [] → IsLeft its_calls its_over its_rest
          → (its_over ≡ Some Lost → (failures its_calls ≡ 1) ⊎ (reads its_calls ≡ MAX_READS))
          → (its_over ≡ Some Closed → (failures its_calls ≡ 0) × ((meets_end its_calls ≡ true) ⊎ ReactionCloses reactions))
          → IsARun steps makes tells theory state_of connection before stream clock result after stream_after clock_after
      of_form its_pieces its_over reactions its_last its_calls its_rest reacts is_result made told read written nothing left loses closes =
          let found = run_of steps theory state_of like before after (events_of connection its_pieces its_over) (map Ok reactions ++ its_last ∷ []) reacts in
          let seen = seen_of reactions its_last found.0 found.2 in
          record {
            pieces = its_pieces;
            over = its_over;
            accepted = seen.accepted;
            last = seen.other;
            runs = subst (λ a. Run theory (state_of before) (events_of connection its_pieces its_over) a (state_of after)) seen.are found.1;
            is_over = over_so its_over its_last result seen.other seen.last_seen is_result;
            calls = its_calls;
            are_made = made;
            are_told = told;
            is_read = read;
            rest = its_rest;
            is_written =
                written ∙ ap (λ rs. flat_map bytes_sent rs) seen.seen
                ∙ sym (all_sent seen.accepted seen.other (sent_seen seen.other ∙ sym (ap (λ a. sent_of a) seen.last_seen) ∙ nothing));
            is_left = left;
            lost = loses;
            closed = λ over. ((closes over).0, by_cause seen.accepted seen.seen (closes over).1);
          }
        where
          by_cause : (effects : List (Effect Context)) → reactions ≡ map shown effects → ((meets_end its_calls ≡ true) ⊎ ReactionCloses reactions)
              → ((meets_end its_calls ≡ true) ⊎ ClosesAtLast effects)
          by_cause effects seen (inl meets) = inl meets
          by_cause effects seen (inr closing) = inr (closes_at_last closing.0 closing.1 effects (closing.2 ∙ seen) closing.3)

      is_served_so : IsServed steps makes tells connection before stream clock result after stream_after clock_after
          → IsARun steps makes tells theory state_of connection before stream clock result after stream_after clock_after
      is_served_so served =
          let bytes = taken_of_calls served.turns served.ending served.go_on served.is_ending in
          let reacts = served.talks.reacts in
          let opens : served.opening.sends ≡ [] = silent before reacts.0 (events.Opened connection) (Ok served.opening) not_opened reacts.1 in
          of_form (reads_of served.turns served.ending) (over_of served.ending) (served.opening ∷ reactions_of served.turns served.ending) served.last
          (all_calls served.turns served.ending) bytes.0
          (subst (λ given. Reacts steps before (events_of connection (reads_of served.turns served.ending) (over_of served.ending)) (Ok served.opening ∷ given) after)
          (same_answers served.turns served.ending served.last)
          (subst (λ asked. Reacts steps before (Opened connection ∷ asked)
          (Ok served.opening ∷ (map brought served.turns ++ last_answers served.ending served.last)) after)
          (same_events connection served.turns served.ending) reacts))
          served.is_result served.talks.are_made
          (subst (λ moments. AreTold tells clock moments clock_after) (same_moments served.turns served.ending) served.talks.are_told)
          (given_of_calls served.turns served.ending ∙ same_bytes served.turns served.ending)
          (bytes.1 ∙ same_sends served.turns served.ending
          ∙ ap (λ front. front ++ flat_map bytes_sent (reactions_of served.turns served.ending)) (sym opens))
          (last_silent served.turns served.ending served.last result reacts.0 after served.is_result reacts.2)
          (left_so served.turns served.ending bytes.0 bytes.2)
          (lost_has_a_cause served.turns served.ending served.is_ending)
          (closes_so served.opening served.turns served.ending served.is_ending)

      is_refused_so : IsRefused steps makes tells connection before stream clock result after stream_after clock_after
          → IsARun steps makes tells theory state_of connection before stream clock result after stream_after clock_after
      is_refused_so refused =
          of_form [] None [] (Err refused.fault) [] [] refused.talks.reacts (refused.fault, refl, refused.is_result) refused.talks.are_made refused.talks.are_told
          refl refl refl (inl refl) (λ over. absurd (cc)) (λ over. absurd (cc))

pub a_connection_is_a_run : {R S C Context Words : Type 0} (steps : Reacting R) (makes : Making S) (tells : C → ℕ → C → Type 0) (theory : Theory Context Words)
    (state_of : R → State Context Words) → AConnectionIsARun steps makes tells theory state_of
a_connection_is_a_run steps makes tells theory state_of like connection before stream clock result after stream_after clock_after (inl refused) =
    is_refused_so steps makes tells theory state_of like connection before stream clock result after stream_after clock_after refused
a_connection_is_a_run steps makes tells theory state_of like connection before stream clock result after stream_after clock_after (inr served) =
    is_served_so steps makes tells theory state_of like connection before stream clock result after stream_after clock_after served
