-- Properties of every course of a connection.
use Rattle.std.proofs.Common.{◌≡◌, ◌≢◌, ℕ, true, false, List, [], ◌∷◌, ◌++◌, refl, sym, ap, ◌∙◌, subst, inl, append_assoc, append-nil, flat_map}
use Rattle.sv_connection.specs.Course.{Along}
use Rattle.sv_connection.specs.LoopLaws.{calls_of, handed_of, sends_of}
use Rattle.sv_connection.specs.Slots.{Accepted, Accepts, Arms, Action, Hands, Leads, Needs, Open, Opens, OpensUntold, Over, Blocks, Slot, Reads, TurnsAway, Unused, Writes}
use Rattle.sv_connection.specs.States.{ConnectionState}
use Rattle.sv_connection.specs.Ways.{Ways}
use Rattle.sv_streams.specs.Calls.{given, taken}
use Rattle.sv_streams.proofs.CallJoins.{given_join, taken_join}

abbrev pub ahead_of : {S : Type 0} → Slot S → List ℕ
ahead_of Unused = []
ahead_of (Accepted stream) = []
ahead_of (Open at) = at.ahead
ahead_of Over = []

abbrev pub unsent_of : {S : Type 0} → Slot S → List ℕ
unsent_of Unused = []
unsent_of (Accepted stream) = []
unsent_of (Open at) = at.unsent
unsent_of Over = []

module _ {S : Type 0} (ways : Ways S) where
  pub no_unused : (before : Slot S) (action : Action S) → Leads ways before action Unused → ⊥
  no_unused Unused (Accepts stream) leads = absurd leads
  no_unused (Accepted stream) (Opens reaction) leads = absurd leads
  no_unused (Accepted stream) (TurnsAway closed closing) leads = absurd leads
  no_unused (Open at) (Opens reaction) leads = absurd leads
  no_unused before action leads = absurd leads

  -- A stream was accepted, or the connection is open.
  abbrev pub is_yet : Slot S → Type 0
  is_yet Unused = ⊥
  is_yet (Accepted stream) = Unit {0}
  is_yet (Open at) = Unit {0}
  is_yet Over = ⊥

  pub over_stays : (actions : List (Action S)) (place : Slot S) → Along ways Over actions place → (actions ≡ []) × (place ≡ Over)
  over_stays [] place is = (refl, is)
  over_stays (action ∷ actions) place (between, leads, later) = absurd leads

  step_given : (before : Slot S) (action : Action S) (after : Slot S) → is_yet after → Leads ways before action after
      → ahead_of before ++ given (calls_of action) ≡ handed_of action ++ ahead_of after
  step_given before action Unused yet leads = absurd yet
  step_given before action Over yet leads = absurd yet
  step_given Unused (Accepts stream) (Accepted accepted) yet leads = refl
  step_given (Accepted stream) (Opens reaction) (Open at) yet leads = sym (ap (λ (s : ConnectionState S). s.ahead) leads)
  step_given (Accepted stream) OpensUntold (Open at) yet leads = sym (ap (λ (s : ConnectionState S). s.ahead) leads)
  step_given (Open b) (Reads bytes) (Open at) yet (idle, some, made, is) =
      ap (λ front. front ++ (bytes ++ [])) idle.0 ∙ append-nil bytes ∙ sym (ap (λ (s : ConnectionState S). s.ahead) is)
  step_given (Open b) (Hands bytes moment reaction awaited) (Open at) yet (has, piece, front, is) = append-nil b.ahead ∙ front
  step_given (Open b) (Writes bytes) (Open at) yet (some, made, front, is) = append-nil b.ahead ∙ sym (ap (λ (s : ConnectionState S). s.ahead) is)
  step_given (Open b) Blocks (Open at) yet (needs, blocks, is) = append-nil b.ahead ∙ sym (ap (λ (s : ConnectionState S). s.ahead) is)
  step_given (Open b) Arms (Open at) yet (needs, arms, is) = append-nil b.ahead ∙ sym (ap (λ (s : ConnectionState S). s.ahead) is)
  step_given Unused (Opens reaction) (Open at) yet leads = absurd leads
  step_given (Accepted stream) (Opens reaction) (Accepted accepted) yet leads = absurd leads
  step_given (Open b) (Opens reaction) (Accepted accepted) yet leads = absurd leads
  step_given before action after yet leads = absurd leads

  step_sent : (before : Slot S) (action : Action S) (after : Slot S) → is_yet after → Leads ways before action after
      → unsent_of before ++ sends_of action ≡ taken (calls_of action) ++ unsent_of after
  step_sent before action Unused yet leads = absurd yet
  step_sent before action Over yet leads = absurd yet
  step_sent Unused (Accepts stream) (Accepted accepted) yet leads = refl
  step_sent (Accepted stream) (Opens reaction) (Open at) yet leads = sym (ap (λ (s : ConnectionState S). s.unsent) leads)
  step_sent (Accepted stream) OpensUntold (Open at) yet leads = sym (ap (λ (s : ConnectionState S). s.unsent) leads)
  step_sent (Open b) (Reads bytes) (Open at) yet (idle, some, made, is) = append-nil b.unsent ∙ sym (ap (λ (s : ConnectionState S). s.unsent) is)
  step_sent (Open b) (Hands bytes moment reaction awaited) (Open at) yet (has, piece, front, is) =
      ap (λ rest. rest ++ reaction.sends) has.1 ∙ sym (ap (λ (s : ConnectionState S). s.unsent) is)
  step_sent (Open b) (Writes bytes) (Open at) yet (some, made, front, is) =
      append-nil b.unsent ∙ front ∙ ap (λ text. text ++ at.unsent) (sym (append-nil bytes))
  step_sent (Open b) Blocks (Open at) yet (needs, blocks, is) = append-nil b.unsent ∙ sym (ap (λ (s : ConnectionState S). s.unsent) is)
  step_sent (Open b) Arms (Open at) yet (needs, arms, is) = append-nil b.unsent ∙ sym (ap (λ (s : ConnectionState S). s.unsent) is)
  step_sent Unused (Opens reaction) (Open at) yet leads = absurd leads
  step_sent (Accepted stream) (Opens reaction) (Accepted accepted) yet leads = absurd leads
  step_sent (Open b) (Opens reaction) (Accepted accepted) yet leads = absurd leads
  step_sent before action after yet leads = absurd leads

  not_yet : (actions : List (Action S)) (after : Slot S) → is_yet after → Along ways Over actions after → ⊥
  not_yet actions after yet along = let P : Slot S → Type 0 = λ s. is_yet s in subst P (over_stays actions after along).1 yet

  given_more : (before between after : Slot S) (action : Action S) (actions : List (Action S)) → is_yet between → Leads ways before action between
      → ahead_of between ++ given (flat_map calls_of actions) ≡ flat_map handed_of actions ++ ahead_of after
      → ahead_of before ++ given (calls_of action ++ flat_map calls_of actions) ≡ (handed_of action ++ flat_map handed_of actions) ++ ahead_of after
  given_more before between after action actions yet leads later =
      ap (λ text. ahead_of before ++ text) (given_join (calls_of action) (flat_map calls_of actions))
      ∙ sym (append_assoc (ahead_of before) (given (calls_of action)) (given (flat_map calls_of actions)))
      ∙ ap (λ text. text ++ given (flat_map calls_of actions)) (step_given before action between yet leads)
      ∙ append_assoc (handed_of action) (ahead_of between) (given (flat_map calls_of actions))
      ∙ ap (λ text. handed_of action ++ text) later
      ∙ sym (append_assoc (handed_of action) (flat_map handed_of actions) (ahead_of after))

  pub course_given : (before after : Slot S) (actions : List (Action S)) → is_yet after → Along ways before actions after
      → ahead_of before ++ given (flat_map calls_of actions) ≡ flat_map handed_of actions ++ ahead_of after
  course_given before after [] yet is = append-nil (ahead_of before) ∙ sym (ap ahead_of is)
  course_given before after (action ∷ actions) yet (Unused, leads, later) = absurd (no_unused before action leads)
  course_given before after (action ∷ actions) yet (Accepted stream, leads, later) =
      given_more before (Accepted stream) after action actions tt leads (course_given (Accepted stream) after actions yet later)
  course_given before after (action ∷ actions) yet (Open b, leads, later) =
      given_more before (Open b) after action actions tt leads (course_given (Open b) after actions yet later)
  course_given before after (action ∷ actions) yet (Over, leads, later) = absurd (not_yet actions after yet later)

  sent_more : (before between after : Slot S) (action : Action S) (actions : List (Action S)) → is_yet between → Leads ways before action between
      → unsent_of between ++ flat_map sends_of actions ≡ taken (flat_map calls_of actions) ++ unsent_of after
      → unsent_of before ++ (sends_of action ++ flat_map sends_of actions) ≡ taken (calls_of action ++ flat_map calls_of actions) ++ unsent_of after
  sent_more before between after action actions yet leads later =
      sym (append_assoc (unsent_of before) (sends_of action) (flat_map sends_of actions))
      ∙ ap (λ text. text ++ flat_map sends_of actions) (step_sent before action between yet leads)
      ∙ append_assoc (taken (calls_of action)) (unsent_of between) (flat_map sends_of actions)
      ∙ ap (λ text. taken (calls_of action) ++ text) later
      ∙ sym (append_assoc (taken (calls_of action)) (taken (flat_map calls_of actions)) (unsent_of after))
      ∙ ap (λ text. text ++ unsent_of after) (sym (taken_join (calls_of action) (flat_map calls_of actions)))

  pub course_sent : (before after : Slot S) (actions : List (Action S)) → is_yet after → Along ways before actions after
      → unsent_of before ++ flat_map sends_of actions ≡ taken (flat_map calls_of actions) ++ unsent_of after
  course_sent before after [] yet is = append-nil (unsent_of before) ∙ sym (ap unsent_of is)
  course_sent before after (action ∷ actions) yet (Unused, leads, later) = absurd (no_unused before action leads)
  course_sent before after (action ∷ actions) yet (Accepted stream, leads, later) =
      sent_more before (Accepted stream) after action actions tt leads (course_sent (Accepted stream) after actions yet later)
  course_sent before after (action ∷ actions) yet (Open b, leads, later) =
      sent_more before (Open b) after action actions tt leads (course_sent (Open b) after actions yet later)
  course_sent before after (action ∷ actions) yet (Over, leads, later) = absurd (not_yet actions after yet later)

  -- The last action of a number that is over.
  abbrev pub EndsBy : Slot S → List (Action S) → Type 0
  EndsBy before actions =
      (front : List (Action S)) × (last : Action S) × (place : Slot S) × (actions ≡ front ++ last ∷ []) × Along ways before front place × Leads ways place last Over

  ends_later : (before between : Slot S) (action : Action S) (actions : List (Action S)) → Leads ways before action between → EndsBy between actions → EndsBy before (action ∷ actions)
  ends_later before between action actions leads (front, last, place, is, along, last_leads) =
      (action ∷ front, last, place, ap (λ more. action ∷ more) is, (between, leads, along), last_leads)

  pub ends_so : (before : Slot S) (actions : List (Action S)) → before ≢ Over → Along ways before actions Over → EndsBy before actions
  ends_so before [] open_yet is = absurd (open_yet (sym is))
  ends_so before (action ∷ actions) open_yet (Unused, leads, later) = absurd (no_unused before action leads)
  ends_so before (action ∷ actions) open_yet (Accepted stream, leads, later) =
      ends_later before (Accepted stream) action actions leads (ends_so (Accepted stream) actions (λ same. absurd (cc)) later)
  ends_so before (action ∷ actions) open_yet (Open b, leads, later) =
      ends_later before (Open b) action actions leads (ends_so (Open b) actions (λ same. absurd (cc)) later)
  ends_so before (action ∷ actions) open_yet (Over, leads, later) =
      ([], action, before, ap (λ more. action ∷ more) (over_stays actions Over later).0, refl, leads)

  abbrev rests_well : Slot S → Type 0
  rests_well Unused = Unit {0}
  rests_well (Accepted stream) = Unit {0}
  rests_well (Open at) = at.rests ≡ true → Needs at
  rests_well Over = Unit {0}

  moving : (b at : ConnectionState S) (rests : at.rests ≡ false) → at.rests ≡ true → Needs at
  moving b at not is = let no : false ≡ true = sym not ∙ is in absurd (cc)

  step_rests : (before : Slot S) (action : Action S) (at : ConnectionState S) → Leads ways before action (Open at) → at.rests ≡ true → Needs at
  step_rests (Accepted stream) (Opens reaction) at leads rests = subst (λ (s : ConnectionState S). Needs s) (sym leads) (inl (refl, refl, refl))
  step_rests (Accepted stream) OpensUntold at leads rests = subst (λ (s : ConnectionState S). Needs s) (sym leads) (inl (refl, refl, refl))
  step_rests (Open b) (Reads bytes) at (idle, some, made, is) rests = moving b at (ap (λ (s : ConnectionState S). s.rests) is) rests
  step_rests (Open b) (Hands bytes moment reaction awaited) at (has, piece, front, is) rests = moving b at (ap (λ (s : ConnectionState S). s.rests) is) rests
  step_rests (Open b) (Writes bytes) at (some, made, front, is) rests = moving b at (ap (λ (s : ConnectionState S). s.rests) is) rests
  step_rests (Open b) Blocks at (needs, blocks, is) rests = subst (λ (s : ConnectionState S). Needs s) (sym is) needs
  step_rests (Open b) Arms at (needs, arms, is) rests = subst (λ (s : ConnectionState S). Needs s) (sym is) needs
  step_rests Unused (Opens reaction) at leads rests = absurd leads
  step_rests before action at leads rests = absurd leads

  step_well : (before : Slot S) (action : Action S) (between : Slot S) → Leads ways before action between → rests_well between
  step_well before action Unused leads = tt
  step_well before action (Accepted stream) leads = tt
  step_well before action (Open b) leads = step_rests before action b leads
  step_well before action Over leads = tt

  pub course_rests : (before : Slot S) (actions : List (Action S)) (at : ConnectionState S) → rests_well before → Along ways before actions (Open at) → at.rests ≡ true → Needs at
  course_rests before [] at well is = subst rests_well (sym is) well
  course_rests before (action ∷ actions) at well (between, leads, later) = course_rests between actions at (step_well before action between leads) later
