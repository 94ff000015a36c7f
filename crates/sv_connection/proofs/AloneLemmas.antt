-- The turns of a connection that is served alongside others.
use Rattle.std.proofs.Common.{◌≡◌, ℕ, ◌<◌, ◌+◌, Bool, true, false, cond, List, [], ◌∷◌, ◌++◌, Ok, Result, refl, sym, ap, ◌∙◌, subst, append_assoc, append-nil, flat_map, length, length-append, arith}
use Rattle.std.proofs.lemmas.List.{map-append}
use Rattle.std.specs.List.{AllByRecursion, concat, list_any}
use Rattle.sv_connection.specs.Turns.{GoesOn, Turn, brought, calls_of, piece_of}
use Rattle.sv_connection.specs.Turns as turn
use Rattle.sv_connection.specs.Alone.{AreTurns, IsAlone, IsTold, IsUnderWay, cut_calls}
use Rattle.sv_connection.specs.Course.{Along}
use Rattle.sv_connection.specs.Notes.{answer_of, event_of, moment_of}
use Rattle.sv_connection.specs.Phases.{is_closing, is_refusal, phase_by}
use Rattle.sv_connection.specs.Slots.{Accepted, Accepts, Arms, Action, Closes, Ends, EndsUntold, Hands, Leads, Open, Opens, OpensUntold, Over, Blocks, Slot, Reads, TurnsAway, Unused, Writes, fresh}
use Rattle.sv_connection.specs.States.{ConnectionState}
use Rattle.sv_connection.specs.Ways.{Ways}
use Rattle.sv_connection.specs.declared.phase.Phase.TheVariants.{Closing, Refused}
use Rattle.sv_journal.specs.declared.entry.Entry.{Entry}
use Rattle.sv_run.specs.Events.{Opened}
use Rattle.sv_run.specs.declared.happening.Reaction.{Reaction}
use Rattle.sv_run.specs.declared.step_fault.StepFault.{StepFault}
use Rattle.sv_streams.specs.Calls.{Gave, Took}
use Rattle.sv_wire.specs.declared.inbox.Awaited.{Awaited}
use Rattle.sv_connection.proofs.LawLemmas.{no_unused, over_stays}

pub all_join : {A : Type 0} (P : A → Type 0) (xs ys : List A) → AllByRecursion P xs → AllByRecursion P ys → AllByRecursion P (xs ++ ys)
all_join P [] ys first second = second
all_join P (x ∷ xs) ys (here, first) second = (here, all_join P xs ys first second)

pub flat_join : {A B : Type 0} (f : A → List B) (xs ys : List A) → flat_map f (xs ++ ys) ≡ flat_map f xs ++ flat_map f ys
flat_join f [] ys = refl
flat_join f (x ∷ xs) ys = ap (λ back. f x ++ back) (flat_join f xs ys) ∙ sym (append_assoc (f x) (flat_map f xs) (flat_map f ys))

pub flat_one_more : {A B : Type 0} (f : A → List B) (xs : List A) (x : A) → flat_map f (xs ++ x ∷ []) ≡ flat_map f xs ++ f x
flat_one_more f xs x = flat_join f xs (x ∷ []) ∙ ap (λ back. flat_map f xs ++ back) (append-nil (f x))

none_more : {A B : Type 0} (f : A → List B) (xs : List A) (x : A) → f x ≡ [] → flat_map f (xs ++ x ∷ []) ≡ flat_map f xs
none_more f xs x none = flat_one_more f xs x ∙ ap (λ back. flat_map f xs ++ back) none ∙ append-nil (flat_map f xs)

concat_one : (parts : List (List ℕ)) (part : List ℕ) → concat (parts ++ part ∷ []) ≡ concat parts ++ part
concat_one [] part = append-nil part
concat_one (first ∷ parts) part = ap (λ back. first ++ back) (concat_one parts part) ∙ sym (append_assoc first (concat parts) part)

module _ {S : Type 0} (number : ℕ) (actions : List (Action S)) (opening : Reaction) where
  -- An action without an event, and without a call of a turn.
  quiet_more : (turns : List Turn) (action : Action S) → event_of number action ≡ [] → answer_of action ≡ [] → moment_of action ≡ [] → cut_calls action ≡ []
      → AreTurns number actions opening turns → AreTurns number (actions ++ action ∷ []) opening turns
  quiet_more turns action no_event no_answer no_moment no_call are = record {
    happened = none_more (event_of number) actions action no_event ∙ are.happened;
    answered = none_more answer_of actions action no_answer ∙ are.answered;
    told = none_more moment_of actions action no_moment ∙ are.told;
    called = none_more cut_calls actions action no_call ∙ are.called;
  }

  -- One more piece.
  piece_more : (turns : List Turn) (bytes : List ℕ) (moment : ℕ) (reaction : Reaction) (awaited : Awaited) → AreTurns number actions opening turns
      → AreTurns number (actions ++ Hands bytes moment reaction awaited ∷ []) opening (turns ++ record { bytes = bytes; moment = moment; reaction = reaction; parts = [] } ∷ [])
  piece_more turns bytes moment reaction awaited are =
      let new : Turn = record { bytes = bytes; moment = moment; reaction = reaction; parts = [] } in
      let action = Hands bytes moment reaction awaited in
      record {
        happened = flat_one_more (event_of number) actions action ∙ ap (λ front. front ++ event_of number action) are.happened
            ∙ ap (λ back. Opened number ∷ back) (sym (map-append (piece_of number) turns (new ∷ [])));
        answered = flat_one_more answer_of actions action ∙ ap (λ front. front ++ answer_of action) are.answered
            ∙ ap (λ back. opened ∷ back) (sym (map-append brought turns (new ∷ [])));
        told = flat_one_more moment_of actions action ∙ ap (λ front. front ++ moment_of action) are.told ∙ sym (map-append turn.moment_of turns (new ∷ []));
        called = flat_one_more cut_calls actions action ∙ ap (λ front. front ++ cut_calls action) are.called ∙ sym (flat_one_more calls_of turns new);
      }
    where
      opened : Result Reaction StepFault
      opened = Ok opening

  -- One more part of the last turn.
  part_more : (turns : List Turn) (last : Turn) (part : List ℕ) → AreTurns number actions opening (turns ++ last ∷ [])
      → AreTurns number (actions ++ Writes part ∷ []) opening (turns ++ record last { parts = last.parts ++ part ∷ [] } ∷ [])
  part_more turns last part are =
      let new : Turn = record last { parts = last.parts ++ part ∷ [] } in
      let E = map-append (piece_of number) turns (last ∷ []) in
      record {
        happened = none_more (event_of number) actions (Writes part) refl ∙ are.happened
            ∙ ap (λ back. Opened number ∷ back) (map-append (piece_of number) turns (last ∷ []) ∙ sym (map-append (piece_of number) turns (new ∷ [])));
        answered = none_more answer_of actions (Writes part) refl ∙ are.answered
            ∙ ap (λ back. opened ∷ back) (map-append brought turns (last ∷ []) ∙ sym (map-append brought turns (new ∷ [])));
        told = none_more moment_of actions (Writes part) refl ∙ are.told ∙ map-append turn.moment_of turns (last ∷ []) ∙ sym (map-append turn.moment_of turns (new ∷ []));
        called = flat_one_more cut_calls actions (Writes part)
            ∙ ap (λ front. front ++ Took part ∷ []) (are.called ∙ flat_one_more calls_of turns last)
            ∙ append_assoc (flat_map calls_of turns) (calls_of last) (Took part ∷ [])
            ∙ ap (λ back. flat_map calls_of turns ++ (Gave last.bytes ∷ back)) (sym (map-append Took last.parts (part ∷ [])))
            ∙ sym (flat_one_more calls_of turns new);
      }
    where
      opened : Result Reaction StepFault
      opened = Ok opening

-- A connection closes if its reaction says so.
closes_as : (closes : Bool) (entries : List Entry) (awaited : Awaited) → is_closing (phase_by closes entries awaited) ≡ closes
closes_as false entries awaited = refl
closes_as true entries awaited = by_refusal (list_any is_refusal entries)
  where
    by_refusal : (refused : Bool) → is_closing (cond refused Refused Closing) ≡ true
    by_refusal true = refl
    by_refusal false = refl

module _ {S : Type 0} (ways : Ways S) (number : ℕ) where
  -- The turn under way goes on.
  goes_on : (under : List Turn) (b : ConnectionState S) → IsUnderWay under b → b.unsent ≡ [] → is_closing b.phase ≡ false → AllByRecursion GoesOn under
  goes_on [] b is none still = tt
  goes_on (last ∷ []) b (some, sends, closes) none still = (
    record {
      whole = record { some = some; is_written = sym (append-nil (concat last.parts)) ∙ ap (λ rest. concat last.parts ++ rest) (sym none) ∙ sends };
      stays_open = closes ∙ still;
    },
    tt,
  )
  goes_on (last ∷ other ∷ more) b is none still = absurd is

  still_under : (under : List Turn) (b c : ConnectionState S) → c.unsent ≡ b.unsent → is_closing c.phase ≡ is_closing b.phase → IsUnderWay under b → IsUnderWay under c
  still_under [] b c unsent closes (none, still) = (unsent ∙ none, closes ∙ still)
  still_under (last ∷ []) b c unsent closes (some, sends, is) =
      (some, ap (λ rest. concat last.parts ++ rest) unsent ∙ sends, is ∙ sym closes)
  still_under (last ∷ other ∷ more) b c unsent closes is = absurd is

  quiet_step : (actions : List (Action S)) (action : Action S) (b c : ConnectionState S) → event_of number action ≡ [] → answer_of action ≡ [] → moment_of action ≡ [] → cut_calls action ≡ []
      → c.unsent ≡ b.unsent → is_closing c.phase ≡ is_closing b.phase → IsAlone number actions b → IsAlone number (actions ++ action ∷ []) c
  quiet_step actions action b c no_event no_answer no_moment no_call unsent closes is = record {
    opening = is.opening;
    turns = is.turns;
    go_on = is.go_on;
    under_way = is.under_way;
    is_under_way = still_under is.under_way b c unsent closes is.is_under_way;
    are_turns = quiet_more number actions is.opening (is.turns ++ is.under_way) action no_event no_answer no_moment no_call is.are_turns;
  }

  write_step : (actions : List (Action S)) (b c : ConnectionState S) (part : List ℕ) → 0 < length part → b.unsent ≡ part ++ c.unsent → is_closing c.phase ≡ is_closing b.phase
      → (opening : Reaction) (turns : List Turn) → AllByRecursion GoesOn turns → (under : List Turn) → IsUnderWay under b → AreTurns number actions opening (turns ++ under)
      → IsAlone number (actions ++ Writes part ∷ []) c
  write_step actions b c part some front same opening turns all [] (none, still) are =
      let measured : length (part ++ c.unsent) ≡ length part + length c.unsent = length-append part c.unsent in
      let empty : length (part ++ c.unsent) ≡ 0 = ap length (sym front ∙ none) in
      absurd (omega arith)
  write_step actions b c part some front same opening turns all (last ∷ []) (bytes, sends, is) are = record {
    opening = opening;
    turns = turns;
    go_on = all;
    under_way = record last { parts = last.parts ++ part ∷ [] } ∷ [];
    is_under_way = (
      bytes,
      ap (λ text. text ++ c.unsent) (concat_one last.parts part) ∙ append_assoc (concat last.parts) part c.unsent
          ∙ ap (λ rest. concat last.parts ++ rest) (sym front) ∙ sends,
      is ∙ sym same,
    );
    are_turns = part_more number actions opening turns last part are;
  }
  write_step actions b c part some front same opening turns all (last ∷ other ∷ more) is are = absurd is

  alone_step : (actions : List (Action S)) (action : Action S) (b c : ConnectionState S) → Leads ways (Open b) action (Open c) → IsAlone number actions b → IsAlone number (actions ++ action ∷ []) c
  alone_step actions (Accepts stream) b c leads is = absurd leads
  alone_step actions (Opens reaction) b c leads is = absurd leads
  alone_step actions (Ends cause stream closing reaction) b c leads is = absurd leads
  alone_step actions OpensUntold b c leads is = absurd leads
  alone_step actions (EndsUntold cause stream closing) b c leads is = absurd leads
  alone_step actions (TurnsAway stream closing) b c leads is = absurd leads
  alone_step actions (Closes stream closing) b c leads is = absurd leads
  alone_step actions (Reads bytes) b c (idle, some, made, now) is =
      quiet_step actions (Reads bytes) b c refl refl refl refl (ap (λ (s : ConnectionState S). s.unsent) now) (ap (λ (s : ConnectionState S). is_closing s.phase) now) is
  alone_step actions Blocks b c (needs, blocks, now) is =
      quiet_step actions Blocks b c refl refl refl refl (ap (λ (s : ConnectionState S). s.unsent) now) (ap (λ (s : ConnectionState S). is_closing s.phase) now) is
  alone_step actions Arms b c (needs, arms, now) is =
      quiet_step actions Arms b c refl refl refl refl (ap (λ (s : ConnectionState S). s.unsent) now) (ap (λ (s : ConnectionState S). is_closing s.phase) now) is
  alone_step actions (Writes bytes) b c (some, made, front, now) is =
      write_step actions b c bytes some front (ap (λ (s : ConnectionState S). is_closing s.phase) now) is.opening is.turns is.go_on is.under_way is.is_under_way is.are_turns
  alone_step actions (Hands bytes moment reaction awaited) b c (has, piece, front, now) is = record {
    opening = is.opening;
    turns = is.turns ++ is.under_way;
    go_on = all_join GoesOn is.turns is.under_way is.go_on (goes_on is.under_way b is.is_under_way has.1 has.2);
    under_way = record { bytes = bytes; moment = moment; reaction = reaction; parts = [] } ∷ [];
    is_under_way = (piece.0, ap (λ (s : ConnectionState S). s.unsent) now, sym (ap (λ (s : ConnectionState S). is_closing s.phase) now ∙ closes_as reaction.closes reaction.journal.entries awaited));
    are_turns = piece_more number actions is.opening (is.turns ++ is.under_way) bytes moment reaction awaited is.are_turns;
  }

  not_accepted : (b : ConnectionState S) (action : Action S) (s : S) → Leads ways (Open b) action (Accepted s) → ⊥
  not_accepted b (Accepts stream) s leads = absurd leads
  not_accepted b action s leads = absurd leads

  alone_on : (front actions : List (Action S)) (b at : ConnectionState S) → IsAlone number front b → Along ways (Open b) actions (Open at) → IsAlone number (front ++ actions) at
  alone_on front [] b at is same =
      let P : List (Action S) → Type 0 = λ ds. IsAlone number ds at in
      let Q : Slot S → Type 0 = here front in
      subst P (sym (append-nil front)) (subst Q (sym same) is)
    where
      here : List (Action S) → Slot S → Type 0
      here ds Unused = Unit {0}
      here ds (Accepted s) = Unit {0}
      here ds (Open s) = IsAlone number ds s
      here ds Over = Unit {0}
  alone_on front (action ∷ actions) b at is (Open c, leads, later) =
      let P : List (Action S) → Type 0 = λ ds. IsAlone number ds at in
      subst P (append_assoc front (action ∷ []) actions) (alone_on (front ++ action ∷ []) actions c at (alone_step front action b c leads is) later)
  alone_on front (action ∷ actions) b at is (Accepted s, leads, later) = absurd (not_accepted b action s leads)
  alone_on front (action ∷ actions) b at is (Unused, leads, later) = absurd (no_unused ways (Open b) action leads)
  alone_on front (action ∷ actions) b at is (Over, leads, later) = let no : Open at ≡ Over = (over_stays ways actions (Open at) later).1 in absurd (cc)

  begins : (stream : S) (reaction : Reaction) (s : S) (b : ConnectionState S) → b ≡ fresh s → IsAlone number (Accepts stream ∷ Opens reaction ∷ []) b
  begins stream reaction s b is = record {
    opening = reaction;
    turns = [];
    go_on = tt;
    under_way = [];
    is_under_way = (ap (λ (s : ConnectionState S). s.unsent) is, ap (λ (s : ConnectionState S). is_closing s.phase) is);
    are_turns = record { happened = refl; answered = refl; told = refl; called = refl };
  }

  second_step : (stream s : S) (action : Action S) (actions : List (Action S)) (b at : ConnectionState S) → IsTold action → Leads ways (Accepted s) action (Open b) → Along ways (Open b) actions (Open at)
      → IsAlone number (Accepts stream ∷ action ∷ actions) at
  second_step stream s OpensUntold actions b at told leads later = absurd told
  second_step stream s (Opens reaction) actions b at told leads later =
      alone_on (Accepts stream ∷ Opens reaction ∷ []) actions b at (begins stream reaction s b leads) later
  second_step stream s action actions b at told leads later = absurd leads

  not_twice : (s t : S) (action : Action S) → Leads ways (Accepted s) action (Accepted t) → ⊥
  not_twice s t (Accepts stream) leads = absurd leads
  not_twice s t action leads = absurd leads

  from_accepted : (stream s : S) (actions : List (Action S)) (at : ConnectionState S) → AllByRecursion IsTold actions → Along ways (Accepted s) actions (Open at) → IsAlone number (Accepts stream ∷ actions) at
  from_accepted stream s [] at told is = let no : Open at ≡ Accepted s = is in absurd (cc)
  from_accepted stream s (action ∷ actions) at told (Open b, leads, later) = second_step stream s action actions b at told.0 leads later
  from_accepted stream s (action ∷ actions) at told (Unused, leads, later) = absurd (no_unused ways (Accepted s) action leads)
  from_accepted stream s (action ∷ actions) at told (Accepted t, leads, later) = absurd (not_twice s t action leads)
  from_accepted stream s (action ∷ actions) at told (Over, leads, later) = let no : Open at ≡ Over = (over_stays ways actions (Open at) later).1 in absurd (cc)

  first_step : (action : Action S) (actions : List (Action S)) (s : S) (at : ConnectionState S) → AllByRecursion IsTold actions → Leads ways Unused action (Accepted s) → Along ways (Accepted s) actions (Open at)
      → IsAlone number (action ∷ actions) at
  first_step (Accepts stream) actions s at told leads later = from_accepted stream s actions at told later
  first_step action actions s at told leads later = absurd leads

  not_open : (action : Action S) (b : ConnectionState S) → Leads ways Unused action (Open b) → ⊥
  not_open (Opens reaction) b leads = absurd leads
  not_open action b leads = absurd leads

  pub alone : (actions : List (Action S)) (at : ConnectionState S) → AllByRecursion IsTold actions → Along ways Unused actions (Open at) → IsAlone number actions at
  alone [] at told is = let no : Open at ≡ Unused = is in absurd (cc)
  alone (action ∷ actions) at told (Accepted s, leads, later) = first_step action actions s at told.1 leads later
  alone (action ∷ actions) at told (Open b, leads, later) = absurd (not_open action b leads)
  alone (action ∷ actions) at told (Unused, leads, later) = absurd (no_unused ways Unused action leads)
  alone (action ∷ actions) at told (Over, leads, later) = let no : Open at ≡ Over = (over_stays ways actions (Open at) later).1 in absurd (cc)
