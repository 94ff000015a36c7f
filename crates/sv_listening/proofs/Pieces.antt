-- The items that the pieces of a run complete, and the bytes that they send.
use Rattle.std.proofs.Common.{◌≡◌, ℕ, ◌+◌, Bool, true, false, ◌⊎◌, List, [], ◌∷◌, ◌++◌, length, Option, None, Some, Ok, Err, refl, sym, ap, ◌∙◌, subst, inl, inr, cond, eqb, arith, length-append}
use Rattle.std.specs.Bool.{MatchBool}
use Rattle.std.specs.List.{count_by}
use Rattle.std.specs.Map.{update}
use Rattle.std.proofs.lemmas.Bool.{false≢true}
use Rattle.std.proofs.lemmas.List.Sums.{sum_by-append}
use Rattle.sv_listening.proofs.Items.{AreAtMost, IsHeld, are_few, by_match, few_calls, few_in_all, is_held, part_completes}
use Rattle.sv_listening.proofs.LineEnds.{HasLineEndsBehind, front_has_so}
use Rattle.sv_listening.specs.Bound.{is_call_to_continue}
use Rattle.sv_listening.specs.Sending.{AnEventSendsLittle, AreAnswered, IsLittle, IsTextFor}
use Rattle.sv_run.specs.Connections.{Connections}
use Rattle.sv_run.specs.Contexts.{Theory}
use Rattle.sv_run.specs.Effect.{Effect, joined, telling}
use Rattle.sv_run.specs.Events.{Edited, Ended, Happening, Happens, Lost, Opened, Piece, Steps, TakesPiece, Tick, moment_after}
use Rattle.sv_run.specs.Feeding.{Feeds, FeedsWhere, held_where}
use Rattle.sv_run.specs.Items.{Responds, Takes, TakesItem, TakesNone}
use Rattle.sv_run.specs.Messages.{Destination, Itself, Within, destination}
use Rattle.sv_run.specs.Runs.{Answer, Run}
use Rattle.sv_run.specs.State.{State, World, settled_at}
use Rattle.sv_run.specs.declared.step_fault.StepFault.TheVariants.{BadConnection, NoMemory, Stopped, TooManyConnections}
use Rattle.sv_wire.specs.Items.{are_ended}
use Rattle.sv_wire.specs.Reads.{Reads}
use Rattle.sv_wire.specs.declared.wire_fault.WireFault.{WireFault}
use Rattle.sv_wire.specs.Inbox.{Held, nothing_held}
use Rattle.sv_wire.specs.declared.item.Item.{Item}
use Rattle.sv_wire.specs.declared.item.Item.TheVariants.{Continue, Message, Refuse}
use Rattle.sv_message.specs.declared.message.Message.{Message as MessageRecord}

-- ---- Bytes held

-- No more is read, or the bytes held await more.
abbrev Awaits : Held → Type 0
Awaits held = (held.spent ≡ true) ⊎ IsHeld held.owed held.rest

-- The same holds for every connection.
abbrev AllAwait : Connections → Type 0
AllAwait connections = (number : ℕ) (held : Held) → connections.held number ≡ Some held → Awaits held

feeds_awaits : (before after : Held) (part : List ℕ) (items : List Item) → Awaits before → Feeds before part items after → Awaits after
feeds_awaits before after part items awaits = by_spent before.spent refl
  where
    by_spent : (t : Bool) → before.spent ≡ t
        → MatchBool t ((items ≡ []) × (after ≡ before)) (Reads before.owed (before.rest ++ part) items after.owed after.rest × (after.spent ≡ are_ended items))
        → Awaits after
    by_spent true spent (none, same) = subst Awaits (sym same) (inl spent)
    by_spent false goes_on (reads, ended) = inr (is_held before.owed (before.rest ++ part) items after.owed after.rest reads)

fed_awaits : (closes : Bool) (before after : Held) (piece : List ℕ) (items : List Item) → Awaits before
    → FeedsWhere closes before piece items after → Awaits after
fed_awaits closes before after piece items awaits fed = subst Awaits (sym fed.is_after) (by_closes closes)
  where
    by_closes : (t : Bool) → Awaits (held_where t fed.left)
    by_closes true = inl refl
    by_closes false = feeds_awaits before fed.left fed.part items awaits fed.feeds

-- One connection that awaits more, alongside all others.
one_more_awaits : (held : ℕ → Option Held) (number : ℕ) (new : Option Held) → ((at : ℕ) (h : Held) → held at ≡ Some h → Awaits h)
    → ((h : Held) → new ≡ Some h → Awaits h) → (at : ℕ) (h : Held) → update eqb held number new at ≡ Some h → Awaits h
one_more_awaits held number new others one at h = by_number (eqb number at)
  where
    by_number : (t : Bool) → cond t new (held at) ≡ Some h → Awaits h
    by_number true is = one h is
    by_number false is = others at h is

some_awaits : (one held : Held) → Awaits one → Some one ≡ Some held → Awaits held
some_awaits one held awaits is = let same : one ≡ held = cc in subst Awaits same awaits

none_awaits : (held : Held) → None ≡ Some held → Awaits held
none_awaits held is = absurd (cc)

nothing_awaits : Awaits nothing_held
nothing_awaits = inr (is_held None [] [] None [] (refl, refl, refl))

-- ---- Runs

module _ {Context Words : Type 0} (theory : Theory Context Words) where
  -- The container has stopped, or every connection awaits more.
  abbrev IsSound : State Context Words → Type 0
  IsSound state = (state.stopped ≡ true) ⊎ AllAwait state.connections

  taken_sound : (before after : State Context Words) (happening : Happening) (effect : Effect Context) → AllAwait before.connections
      → Happens theory before happening effect after → AllAwait after.connections
  taken_sound before after (Opened number) effect sound (brings, is) =
      subst (λ (s : State Context Words). AllAwait s.connections) (sym is)
      (one_more_awaits before.connections.held number (Some nothing_held) sound (λ h same. some_awaits nothing_held h nothing_awaits same))
  taken_sound before after (Piece number bytes moment) effect sound taken =
      let awaits = fed_awaits effect.closes taken.held taken.left bytes taken.items (sound number taken.held taken.holds) taken.feeds in
      subst (λ (s : State Context Words). AllAwait s.connections) (sym taken.is_after)
      (one_more_awaits before.connections.held number (Some taken.left) sound (λ h same. some_awaits taken.left h awaits same))
  taken_sound before after (Ended number) effect sound (brings, is) =
      subst (λ (s : State Context Words). AllAwait s.connections) (sym is) (one_more_awaits before.connections.held number None sound none_awaits)
  taken_sound before after (Lost number) effect sound (brings, is) =
      subst (λ (s : State Context Words). AllAwait s.connections) (sym is) (one_more_awaits before.connections.held number None sound none_awaits)
  taken_sound before after (Tick moment) effect sound (brings, is) = subst (λ (s : State Context Words). AllAwait s.connections) (sym is) sound
  taken_sound before after (Edited path edit) effect sound edits = subst (λ (s : State Context Words). AllAwait s.connections) (sym edits.is_after) sound

  running_awaits : (state : State Context Words) → state.stopped ≡ false → IsSound state → AllAwait state.connections
  running_awaits state runs (inl stopped) = absurd (false≢true (sym runs ∙ stopped))
  running_awaits state runs (inr sound) = sound

  step_sound : (before after : State Context Words) (happening : Happening) (answer : Answer Context) → IsSound before
      → Steps theory before happening answer after → IsSound after
  step_sound before after happening (Ok effect) sound accepts =
      inr (taken_sound (settled_at (moment_after before.moment happening) accepts.contexts before) after happening accepts.brings
      (running_awaits before accepts.runs sound) accepts.happens)
  step_sound before after happening (Err Stopped) sound (stopped, same) = subst IsSound (sym same) sound
  step_sound before after happening (Err BadConnection) sound refuses = subst IsSound (sym refuses.stays) sound
  step_sound before after happening (Err TooManyConnections) sound refuses = subst IsSound (sym refuses.stays) sound
  step_sound before after happening (Err NoMemory) sound breaks = inl breaks.stops

  run_sound : (before after : State Context Words) (happenings : List Happening) (answers : List (Answer Context)) → IsSound before
      → Run theory before happenings answers after → IsSound after
  run_sound before after [] [] sound same = subst IsSound (sym same) sound
  run_sound before after (happening ∷ happenings) (answer ∷ answers) sound (between, step, run) =
      run_sound between after happenings answers (step_sound before between happening answer sound step) run
  run_sound before after [] (answer ∷ answers) sound run = absurd run
  run_sound before after (happening ∷ happenings) [] sound run = absurd run

  -- ---- Effects of items

  -- There are at most this many items. Each is answered, and each but a call to continue is one deed.
  abbrev Answers : ℕ → ℕ → ℕ → Effect Context → Type 0
  Answers moment messages calls effect =
      (items : List Item) × AreAtMost messages calls items × AreAnswered moment items effect.sends
      × (length effect.deeds + count_by is_call_to_continue items ≡ length items)

  module _ (moment : ℕ) where
    deeds_of : Item → ℕ
    deeds_of Continue = 0
    deeds_of (Message message) = 1
    deeds_of (Refuse fault) = 1

    -- One item is answered.
    abbrev IsAnswered : Item → ℕ → Effect Context → Type 0
    IsAnswered item deeds effect = IsTextFor moment item effect.sends × (length effect.deeds ≡ deeds)

    responds : (to : Destination) (message : MessageRecord) (words : ℕ × ℕ) (before after : List Context) (effect : Effect Context)
        → Responds theory moment to message words before effect after → IsAnswered (Message message) 1 effect
    responds (Itself entry response) message words before after effect (text, is, brings, same) =
        subst (IsAnswered (Message message) 1) (sym brings) ((response, is), refl)
    responds (Within place canon) message words before after effect (handling, text, asks, handles, is, brings) =
        subst (IsAnswered (Message message) 1) (sym brings) ((handling.response, is), refl)

    called : (before after : World Context Words) (effect : Effect Context) → TakesItem theory moment Continue before effect after
        → IsAnswered Continue 0 effect
    called before after effect (brings, same) = subst (IsAnswered Continue 0) (sym brings) (refl, refl)

    refused : (before after : World Context Words) (fault : WireFault) (effect : Effect Context) → TakesItem theory moment (Refuse fault) before effect after
        → IsAnswered (Refuse fault) 1 effect
    refused before after fault effect (text, is, brings, same) = subst (IsAnswered (Refuse fault) 1) (sym brings) (is, refl)

    first_answered : (item : Item) (rest : List Item) (first later effect : Effect Context) (deeds calls : ℕ) → effect ≡ joined first later
        → IsAnswered item deeds first → AreAnswered moment rest later.sends
        → deeds + calls ≡ 1 → count_by is_call_to_continue (item ∷ rest) ≡ calls + count_by is_call_to_continue rest
        → length later.deeds + count_by is_call_to_continue rest ≡ length rest
        → AreAnswered moment (item ∷ rest) effect.sends × (length effect.deeds + count_by is_call_to_continue (item ∷ rest) ≡ length (item ∷ rest))
    first_answered item rest first later effect deeds calls is (text, one) others all counts more =
        subst
        (λ (e : Effect Context). AreAnswered moment (item ∷ rest) e.sends
        × (length e.deeds + count_by is_call_to_continue (item ∷ rest) ≡ length (item ∷ rest))) (sym is) (
          (first.sends, later.sends, text, others, refl),
          omega (arith, one, all, counts, more, length-append first.deeds later.deeds),
        )

    none_answered : (messages calls : ℕ) (before after : World Context Words) (effect : Effect Context) → TakesNone theory moment before effect after
        → Answers moment messages calls effect
    none_answered messages calls before after effect (brings, same) = subst (Answers moment messages calls) (sym brings) ([], tt, refl, refl)

    one_more : (item : Item) (items : List Item)
        → count_by is_call_to_continue (item ∷ items) ≡ count_by is_call_to_continue (item ∷ []) + count_by is_call_to_continue items
    one_more item items = sum_by-append (λ i. cond (is_call_to_continue i) 1 0) (item ∷ []) items

    -- Items one after another, up to one that closes the connection.
    answered : (messages calls : ℕ) (items : List Item) (before after : World Context Words) (effect : Effect Context) → AreAtMost messages calls items
        → Takes theory moment items before effect after → Answers moment messages calls effect
    answered messages calls [] before after effect few taken = none_answered messages calls before after effect taken
    answered messages calls (Message message ∷ items) before after effect (n, is, few) (between, first, later, takes, on, joins) =
        add (by_match first.closes (λ none. none_answered n calls between after later none) (λ more. answered n calls items between after later few more) on)
      where
        add : Answers moment n calls later → Answers moment messages calls effect
        add (rest, rest_few, texts, counts) =
            let both = first_answered (Message message) rest first later effect 1 0 joins
            (responds (destination theory before.contexts message.target) message takes.0 before.contexts between.contexts first takes.2)
            texts refl (one_more (Message message) rest) counts in
            (Message message ∷ rest, (n, is, rest_few), both.0, both.1)
    answered messages calls (Continue ∷ items) before after effect (n, is, few) (between, first, later, takes, on, joins) =
        add (by_match first.closes (λ none. none_answered messages n between after later none)
        (λ more. answered messages n items between after later few more) on)
      where
        add : Answers moment messages n later → Answers moment messages calls effect
        add (rest, rest_few, texts, counts) =
            let both = first_answered Continue rest first later effect 0 1 joins (called before between first takes) texts refl
            (one_more Continue rest) counts in
            (Continue ∷ rest, (n, is, rest_few), both.0, both.1)
    answered messages calls (Refuse fault ∷ items) before after effect none (between, first, later, takes, on, joins) =
        let last : TakesNone theory moment between later after =
        by_match first.closes (λ so. so) (λ more. subst (λ is. Takes theory moment is between later after) none more) on in
        let (brings, same) = last in
        let both = first_answered (Refuse fault) [] first later effect 1 0 joins (refused before between fault first takes)
        (ap (λ (e : Effect Context). e.sends) brings) refl (one_more (Refuse fault) [])
        (ap (λ (e : Effect Context). length e.deeds + 0) brings) in
        (Refuse fault ∷ [], refl, both.0, both.1)

  -- ---- The event of a part

  -- The items that the bytes held and a part complete.
  fed_few : (before after : Held) (part : List ℕ) (items : List Item) → Awaits before → HasLineEndsBehind part → Feeds before part items after
      → AreAtMost 2 1 items
  fed_few before after part items awaits has = by_spent before.spent refl
    where
      by_held : Awaits before → before.spent ≡ false → Reads before.owed (before.rest ++ part) items after.owed after.rest → AreAtMost 2 1 items
      by_held (inl spent) goes_on reads = absurd (false≢true (sym goes_on ∙ spent))
      by_held (inr held) goes_on reads = part_completes before.owed before.rest part items after.owed after.rest held has reads

      by_spent : (t : Bool) → before.spent ≡ t
          → MatchBool t ((items ≡ []) × (after ≡ before))
          (Reads before.owed (before.rest ++ part) items after.owed after.rest × (after.spent ≡ are_ended items))
          → AreAtMost 2 1 items
      by_spent true spent (none, same) = subst (AreAtMost 2 1) (sym none) tt
      by_spent false goes_on (reads, ended) = by_held awaits goes_on reads

  is_little : (moment : ℕ) (effect : Effect Context) → Answers moment 2 1 effect → IsLittle moment effect
  is_little moment effect (items, few, sends, counts) =
      record {
        items = items;
        few = are_few items few;
        sends = sends;
        texts = omega (arith, few_calls 2 1 items few, few_in_all 2 1 items few);
        each = counts;
        deeds = omega (arith, counts, few_in_all 2 1 items few);
      }

  pub an_event_sends_little : AnEventSendsLittle theory
  an_event_sends_little start before after happenings answers number moment bytes effect none run is accepts =
      let at : ℕ = moment_after before.moment (Piece number bytes moment) in
      let unknown : AllAwait start.connections =
      subst AllAwait (sym none) (λ other held there. none_awaits held there) in
      let sound = run_sound start before happenings answers (inr unknown) run in
      let taken : TakesPiece theory (settled_at at accepts.contexts before) number bytes accepts.brings after = accepts.happens in
      let awaits = running_awaits before accepts.runs sound number taken.held taken.holds in
      let has : HasLineEndsBehind taken.feeds.part =
      front_has_so taken.feeds.part taken.feeds.unread (subst HasLineEndsBehind taken.feeds.is_piece is.1) in
      let few = fed_few taken.held taken.feeds.left taken.feeds.part taken.items awaits has taken.feeds.feeds in
      subst (IsLittle at) (sym accepts.is_joined)
      (is_little at (joined (telling accepts.told) accepts.brings)
      (answered at 2 1 taken.items (settled_at at accepts.contexts before).world taken.world accepts.brings few taken.takes))
