-- Cut pieces, over whole states.
use Rattle.std.proofs.Common.{◌≡◌, ℕ, Bool, true, false, ◌||◌, ◌⊎◌, inl, inr, List, [], ◌∷◌, ◌++◌, map, Ok, Option, Some, refl, sym, ap, ◌∙◌, subst, eqb, append-nil, append_assoc}
use Rattle.std.proofs.lemmas.Map.{update_here, update-update}
use Rattle.sv_wire.proofs.BoolLemmas.{MatchBool-from_false}
use Rattle.sv_run.specs.Contexts.{Theory}
use Rattle.sv_run.specs.Effect.{Effect, nothing, telling, joined, joined_all}
use Rattle.sv_run.specs.Events.{Accepts, Piece, TakesPiece, raised, unknown_fault}
use Rattle.sv_run.specs.Feeding.{Feeds, held_where}
use Rattle.sv_run.specs.Items.{Takes}
use Rattle.sv_run.specs.Lawful.{AreSettled, EndsExpired}
use Rattle.sv_run.specs.Laws.{AcceptsInParts, PiecesMayBeCut, PiecesMayComeInParts, pieces_of, text_of_parts}
use Rattle.sv_run.specs.Runs.{Run}
use Rattle.sv_run.specs.State.{State, World, holding, settled_at}
use Rattle.sv_run.proofs.Effects.{joined-assoc, joined-nothing}
use Rattle.sv_run.proofs.Feedings.{feeds_in_parts, feeds_whole, where_all}
use Rattle.sv_run.proofs.Stepping.{accepts_settled, raised_once, settled_accepts}
use Rattle.sv_run.proofs.Taking.{TakesBehind, expiring_settles, takes_in_parts, takes_settled, takes_whole}
use Rattle.sv_wire.specs.declared.item.Item.{Item}
use Rattle.sv_wire.specs.Inbox.{Held, spent_for_good}

-- no Boolean is both true and false
not_both : {b : Bool} → b ≡ true → b ≡ false → ⊥
not_both is not = absurd (cc)

-- only the last update of a connection is visible
pub held_last : {Context Words : Type 0} (state : State Context Words) (number : ℕ) (one other : Held)
    → holding number other (holding number one state) ≡ holding number other state
held_last state number one other =
    λ i. record state {
      connections = record { held = λ q. update-update eqb state.connections.held number (Some one) (Some other) q i; known = state.connections.known };
    }

pub same_held : (one other : Held) → ◌≡◌ {A = Option Held} (Some one) (Some other) → one ≡ other
same_held one other same = cc

-- one text cut at two places: the text between the cuts ends one part and begins another
cut_twice : {X : Type 0} (first second part unread : List X) → first ++ second ≡ part ++ unread
    → ((more : List X) × (part ≡ first ++ more) × (second ≡ more ++ unread)) ⊎ ((more : List X) × (first ≡ part ++ more))
cut_twice [] second part unread same = inl (part, refl, same)
cut_twice (x ∷ first) second [] unread same = inr (x ∷ first, refl)
cut_twice {X} (x ∷ first) second (y ∷ part) unread same = next (heads same) (cut_twice first second part unread (tails same))
  where
    heads : x ∷ (first ++ second) ≡ y ∷ (part ++ unread) → x ≡ y
    heads are = cc

    tails : x ∷ (first ++ second) ≡ y ∷ (part ++ unread) → first ++ second ≡ part ++ unread
    tails are = cc

    next : x ≡ y
        → ((more : List X) × (part ≡ first ++ more) × (second ≡ more ++ unread)) ⊎ ((more : List X) × (first ≡ part ++ more))
        → ((more : List X) × (y ∷ part ≡ (x ∷ first) ++ more) × (second ≡ more ++ unread)) ⊎ ((more : List X) × (x ∷ first ≡ (y ∷ part) ++ more))
    next is (inl behind) = inl (behind.0, (λ i. sym is i ∷ behind.1 i), behind.2)
    next is (inr before) = inr (before.0, (λ i. is i ∷ before.1 i))

-- a connection that is closed reads nothing more
closed_stays : (closes : Bool) → spent_for_good ≡ held_where closes spent_for_good
closed_stays true = refl
closed_stays false = refl

module _ {Context Words : Type 0} (theory : Theory Context Words) where
  -- the second part of a piece: none of it is read if the first part closes the connection
  piece_behind : (state after : State Context Words) (number : ℕ) (second more unread : List ℕ) (between world : World Context Words)
      (closes : Bool) (back : Effect Context) (held left : Held) (items : List Item)
      → second ≡ more ++ unread → ((closes || back.closes) ≡ false → unread ≡ [])
      → Feeds held more items left → TakesBehind theory state.moment closes items between back world
      → after ≡ holding number (held_where (closes || back.closes) left) (record state { world = world })
      → TakesPiece theory (holding number (held_where closes held) (record state { world = between })) number second back after
  piece_behind state after number second more unread between world true back held left items is_second is_all feeds none is_after =
      record {
        held = spent_for_good;
        holds = update_here state.connections.held number (Some spent_for_good);
        items = [];
        left = spent_for_good;
        feeds =
            record {
              part = second;
              unread = [];
              is_piece = sym (append-nil second);
              is_all = λ stays. refl;
              left = spent_for_good;
              feeds = (refl, refl);
              is_after = closed_stays back.closes;
            };
        world = world;
        takes = none;
        is_after = is_after ∙ sym (held_last (record state { world = world }) number spent_for_good spent_for_good);
      }
  piece_behind state after number second more unread between world false back held left items is_second is_all feeds takes is_after =
      record {
        held = held;
        holds = update_here state.connections.held number (Some held);
        items = items;
        left = held_where back.closes left;
        feeds = record { part = more; unread = unread; is_piece = is_second; is_all = is_all; left = left; feeds = feeds; is_after = refl };
        world = world;
        takes = takes;
        is_after = is_after ∙ sym (held_last (record state { world = world }) number held (held_where back.closes left));
      }

  -- the two parts of a piece, one after the other
  record TakesParts (before : State Context Words) (number : ℕ) (first second : List ℕ) (effect : Effect Context) (after : State Context Words) : Type 0 where
    pub between : State Context Words
    pub front : Effect Context
    pub back : Effect Context
    pub begins : TakesPiece theory before number first front between
    pub goes_on : TakesPiece theory between number second back after
    pub is_joined : effect ≡ joined front back

  module _ (state after : State Context Words) (number : ℕ) (first second : List ℕ) (effect : Effect Context)
      (piece : TakesPiece theory state number (first ++ second) effect after) where
    -- the first part ends within the bytes that are read
    cut_within : (more : List ℕ) → piece.feeds.part ≡ first ++ more → second ≡ more ++ piece.feeds.unread → TakesParts state number first second effect after
    cut_within more is_part is_second =
        let fed = piece.feeds in
        let parts = feeds_in_parts piece.held fed.left first more piece.items
        (subst (λ text. Feeds piece.held text piece.items fed.left) is_part fed.feeds) in
        let taken = takes_in_parts theory state.moment parts.0 parts.1 state.world piece.world effect
        (subst (λ items. Takes theory state.moment items state.world effect piece.world) parts.5 piece.takes) in
        let closing : effect.closes ≡ (taken.front.closes || taken.back.closes) = ap (λ (r : Effect Context). r.closes) taken.is_joined in
        record {
          between = holding number (held_where taken.front.closes parts.2) (record state { world = taken.between });
          front = taken.front;
          back = taken.back;
          begins =
              record {
                held = piece.held;
                holds = piece.holds;
                items = parts.0;
                left = held_where taken.front.closes parts.2;
                feeds =
                    record {
                      part = first;
                      unread = [];
                      is_piece = sym (append-nil first);
                      is_all = λ stays. refl;
                      left = parts.2;
                      feeds = parts.3;
                      is_after = refl;
                    };
                world = taken.between;
                takes = taken.begins;
                is_after = refl;
              };
          goes_on =
              piece_behind state after number second more fed.unread taken.between piece.world taken.front.closes taken.back parts.2 fed.left parts.1
              is_second (λ stays. fed.is_all (closing ∙ stays)) parts.4 taken.goes_on
              (piece.is_after
              ∙ (λ i. holding number ((fed.is_after ∙ ap (λ t. held_where t fed.left) closing) i) (record state { world = piece.world })));
          is_joined = taken.is_joined;
        }

    -- the first part closes the connection
    cut_behind : effect.closes ≡ true → (more : List ℕ) → first ≡ piece.feeds.part ++ more → TakesParts state number first second effect after
    cut_behind closes more is_first =
        let fed = piece.feeds in
        record {
          between = holding number spent_for_good (record state { world = piece.world });
          front = effect;
          back = nothing;
          begins =
              record {
                held = piece.held;
                holds = piece.holds;
                items = piece.items;
                left = spent_for_good;
                feeds =
                    record {
                      part = fed.part;
                      unread = more;
                      is_piece = is_first;
                      is_all = λ stays. absurd (not_both closes stays);
                      left = fed.left;
                      feeds = fed.feeds;
                      is_after = ap (λ t. held_where t fed.left) (sym closes);
                    };
                world = piece.world;
                takes = piece.takes;
                is_after = refl;
              };
          goes_on =
              piece_behind state after number second second [] piece.world piece.world true nothing spent_for_good spent_for_good [] (sym (append-nil second))
              (λ stays. refl) (refl, refl) (refl, refl)
              (piece.is_after
              ∙ (λ i. holding number ((fed.is_after ∙ ap (λ t. held_where t fed.left) closes) i) (record state { world = piece.world })));
          is_joined = sym (joined-nothing effect);
        }

    piece_cut : TakesParts state number first second effect after
    piece_cut = by_closing effect.closes refl
      where
        by_cut : effect.closes ≡ true
            → ((more : List ℕ) × (piece.feeds.part ≡ first ++ more) × (second ≡ more ++ piece.feeds.unread)) ⊎ ((more : List ℕ) × (first ≡ piece.feeds.part ++ more))
            → TakesParts state number first second effect after
        by_cut closes (inl within) = cut_within within.0 within.1 within.2
        by_cut closes (inr behind) = cut_behind closes behind.0 behind.1

        by_closing : (t : Bool) → effect.closes ≡ t → TakesParts state number first second effect after
        by_closing true closes = by_cut closes (cut_twice first second piece.feeds.part piece.feeds.unread piece.feeds.is_piece)
        by_closing false stays =
            let none = piece.feeds.is_all stays in
            cut_within second
            (sym (piece.feeds.is_piece ∙ ap (λ more. piece.feeds.part ++ more) none ∙ append-nil piece.feeds.part))
            (sym (ap (λ more. second ++ more) none ∙ append-nil second))

  -- a closed connection has no effect
  closed_brings : (state after : State Context Words) (number : ℕ) (bytes : List ℕ) (effect : Effect Context)
      → (piece : TakesPiece theory state number bytes effect after) → piece.held ≡ spent_for_good
      → (effect ≡ nothing) × (after ≡ holding number spent_for_good state)
  closed_brings state after number bytes effect piece closed =
      let fed = piece.feeds in
      let none : (piece.items ≡ []) × (fed.left ≡ spent_for_good) = subst (λ h. Feeds h fed.part piece.items fed.left) closed fed.feeds in
      let takes : (effect ≡ nothing) × (piece.world ≡ state.world) = subst (λ items. Takes theory state.moment items state.world effect piece.world) none.0 piece.takes in
      let is_left : piece.left ≡ spent_for_good = fed.is_after ∙ ap (held_where effect.closes) none.1 ∙ sym (closed_stays effect.closes) in
      (takes.0, piece.is_after ∙ (λ i. holding number (is_left i) (record state { world = takes.1 i })))

  piece_whole : (state between after : State Context Words) (number : ℕ) (first second : List ℕ) (front back : Effect Context)
      → TakesPiece theory state number first front between → TakesPiece theory between number second back after
      → TakesPiece theory state number (first ++ second) (joined front back) after
  piece_whole state between after number first second front back one goes_on = by_closing front.closes refl
    where
      reached : State Context Words
      reached = holding number one.left (record state { world = one.world })

      two : TakesPiece theory reached number second back after
      two = subst (λ s. TakesPiece theory s number second back after) one.is_after goes_on

      same : two.held ≡ one.left
      same = same_held two.held one.left (sym two.holds ∙ update_here state.connections.held number (Some one.left))

      by_closing : (t : Bool) → front.closes ≡ t → TakesPiece theory state number (first ++ second) (joined front back) after
      by_closing true closes =
          let closed = closed_brings reached after number second back two (same ∙ one.feeds.is_after ∙ ap (λ t. held_where t one.feeds.left) closes) in
          let closing : (front.closes || back.closes) ≡ true = ap (λ t. t || back.closes) closes in
          record {
            held = one.held;
            holds = one.holds;
            items = one.items;
            left = spent_for_good;
            feeds =
                record {
                  part = one.feeds.part;
                  unread = one.feeds.unread ++ second;
                  is_piece = ap (λ text. text ++ second) one.feeds.is_piece ∙ append_assoc one.feeds.part one.feeds.unread second;
                  is_all = λ stays. absurd (not_both closing stays);
                  left = one.feeds.left;
                  feeds = one.feeds.feeds;
                  is_after = ap (λ t. held_where t one.feeds.left) (sym closing);
                };
            world = one.world;
            takes =
                subst (λ r. Takes theory state.moment one.items state.world r one.world)
                (sym (ap (joined front) closed.0 ∙ joined-nothing front)) one.takes;
            is_after = closed.1 ∙ held_last (record state { world = one.world }) number one.left spent_for_good;
          }
      by_closing false stays =
          let closing : (front.closes || back.closes) ≡ back.closes = ap (λ t. t || back.closes) stays in
          record {
            held = one.held;
            holds = one.holds;
            items = one.items ++ two.items;
            left = two.left;
            feeds =
                record {
                  part = first ++ two.feeds.part;
                  unread = two.feeds.unread;
                  is_piece = ap (λ text. first ++ text) two.feeds.is_piece ∙ sym (append_assoc first two.feeds.part two.feeds.unread);
                  is_all = λ none. two.feeds.is_all (sym closing ∙ none);
                  left = two.feeds.left;
                  feeds =
                      feeds_whole one.held two.feeds.left first two.feeds.part (one.items ++ two.items) (
                        one.items,
                        two.items,
                        one.left,
                        where_all front.closes one.held one.left first one.items stays one.feeds,
                        subst (λ h. Feeds h two.feeds.part two.items two.feeds.left) same two.feeds.feeds,
                        refl,
                      );
                  is_after = two.feeds.is_after ∙ ap (λ t. held_where t two.feeds.left) (sym closing);
                };
            world = two.world;
            takes =
                takes_whole theory state.moment one.items two.items state.world one.world two.world front back one.takes
                (MatchBool-from_false front.closes _ _ stays two.takes);
            is_after = two.is_after ∙ held_last (record state { world = two.world }) number one.left two.left;
          }

  -- a piece leaves no session that has expired
  piece_settled : EndsExpired theory → (state after : State Context Words) (number : ℕ) (bytes : List ℕ) (effect : Effect Context)
      → (piece : TakesPiece theory state number bytes effect after) → AreSettled theory state.moment state.world.contexts
      → AreSettled theory after.moment after.world.contexts
  piece_settled ends state after number bytes effect piece settled =
      subst (λ (s : State Context Words). AreSettled theory s.moment s.world.contexts) (sym piece.is_after)
      (takes_settled theory state.moment ends piece.items state.world piece.world effect piece.takes settled)

  -- and it does not raise the time again
  piece_raised : (state after : State Context Words) (number : ℕ) (bytes : List ℕ) (effect : Effect Context) (moment : ℕ)
      → (piece : TakesPiece theory state number bytes effect after) → raised state.moment moment ≡ state.moment
      → raised after.moment moment ≡ after.moment
  piece_raised state after number bytes effect moment piece same =
      subst (λ (s : State Context Words). raised s.moment moment ≡ s.moment) (sym piece.is_after) same

module _ {Context Words : Type 0} (theory : Theory Context Words) (ends : EndsExpired theory)
    (before after : State Context Words) (number : ℕ) (first second : List ℕ) (moment : ℕ) (effect : Effect Context) where
  pub piece_in_parts : Accepts theory before (Piece number (first ++ second) moment) effect after
      → AcceptsInParts theory before number first second moment effect after
  piece_in_parts whole =
      let mid = settled_at (raised before.moment moment) whole.contexts before in
      let cut = piece_cut theory mid after number first second whole.brings whole.happens in
      record {
        between = cut.between;
        front = joined (telling whole.told) cut.front;
        back = cut.back;
        begins =
            record {
              runs = whole.runs;
              no_fault = whole.no_fault;
              told = whole.told;
              contexts = whole.contexts;
              expires = whole.expires;
              brings = cut.front;
              happens = cut.begins;
              is_joined = refl;
            };
        goes_on =
            accepts_settled theory ends cut.between after (Piece number second moment) cut.back
            (piece_raised theory mid cut.between number first cut.front moment cut.begins (raised_once before.moment moment))
            (piece_settled theory ends mid cut.between number first cut.front cut.begins
            (expiring_settles theory ends before.world.contexts whole.contexts mid.moment whole.told whole.expires))
            (ap (λ (s : State Context Words). s.stopped) cut.begins.is_after ∙ whole.runs)
            (ap unknown_fault cut.goes_on.holds)
            cut.goes_on;
        is_joined =
            whole.is_joined ∙ ap (joined (telling whole.told)) cut.is_joined
            ∙ sym (joined-assoc (telling whole.told) cut.front cut.back);
      }

  pub parts_whole : AcceptsInParts theory before number first second moment effect after
      → Accepts theory before (Piece number (first ++ second) moment) effect after
  parts_whole parts =
      let begins = parts.begins in
      let mid = settled_at (raised before.moment moment) begins.contexts before in
      record {
        runs = begins.runs;
        no_fault = begins.no_fault;
        told = begins.told;
        contexts = begins.contexts;
        expires = begins.expires;
        brings = joined begins.brings parts.back;
        happens =
            piece_whole theory mid parts.between after number first second begins.brings parts.back begins.happens
            (settled_accepts theory ends parts.between after (Piece number second moment) parts.back
            (piece_raised theory mid parts.between number first begins.brings moment begins.happens (raised_once before.moment moment))
            (piece_settled theory ends mid parts.between number first begins.brings begins.happens
            (expiring_settles theory ends before.world.contexts begins.contexts mid.moment begins.told begins.expires))
            parts.goes_on);
        is_joined =
            parts.is_joined ∙ ap (λ r. joined r parts.back) begins.is_joined ∙ joined-assoc (telling begins.told) begins.brings parts.back;
      }

module _ {Context Words : Type 0} (theory : Theory Context Words) where
  pub pieces_may_be_cut : EndsExpired theory → PiecesMayBeCut theory
  pieces_may_be_cut ends before after number first second moment effect = (
    piece_in_parts theory ends before after number first second moment effect,
    parts_whole theory ends before after number first second moment effect,
  )

  module _ (ends : EndsExpired theory) (number moment : ℕ) where
    pub in_parts : (before after : State Context Words) (first : List ℕ) (parts : List (List ℕ)) (effect : Effect Context)
        → Accepts theory before (Piece number (first ++ text_of_parts parts) moment) effect after
        → (effects : List (Effect Context))
        × Run theory before (pieces_of number moment (first ∷ parts)) (map Ok effects) after × (effect ≡ joined_all effects)
    in_parts before after first [] effect whole = (
      effect ∷ [],
      (after, subst (λ text. Accepts theory before (Piece number text moment) effect after) (append-nil first) whole, refl),
      sym (joined-nothing effect),
    )
    in_parts before after first (part ∷ parts) effect whole =
        let cut = piece_in_parts theory ends before after number first (part ++ text_of_parts parts) moment effect whole in
        let later = in_parts cut.between after part parts cut.back cut.goes_on in
        (cut.front ∷ later.0, (cut.between, cut.begins, later.1), cut.is_joined ∙ ap (joined cut.front) later.2)

    pub of_parts : (before after : State Context Words) (first : List ℕ) (parts : List (List ℕ)) (effects : List (Effect Context))
        → Run theory before (pieces_of number moment (first ∷ parts)) (map Ok effects) after
        → Accepts theory before (Piece number (first ++ text_of_parts parts) moment) (joined_all effects) after
    of_parts before after first [] [] run = absurd run
    of_parts before after first [] (effect ∷ []) run =
        subst (λ r. Accepts theory before (Piece number (first ++ []) moment) r after) (sym (joined-nothing effect))
        (subst (λ text. Accepts theory before (Piece number text moment) effect after) (sym (append-nil first))
        (subst (λ s. Accepts theory before (Piece number first moment) effect s) (sym run.2) run.1))
    of_parts before after first [] (effect ∷ other ∷ effects) run = absurd run.2
    of_parts before after first (part ∷ parts) [] run = absurd run
    of_parts before after first (part ∷ parts) (effect ∷ effects) run =
        parts_whole theory ends before after number first (part ++ text_of_parts parts) moment (joined effect (joined_all effects))
        record {
          between = run.0;
          front = effect;
          back = joined_all effects;
          begins = run.1;
          goes_on = of_parts run.0 after part parts effects run.2;
          is_joined = refl;
        }

  pub pieces_may_come_in_parts : EndsExpired theory → PiecesMayComeInParts theory
  pieces_may_come_in_parts ends before after number first parts moment effect = (
    in_parts ends number moment before after first parts effect,
    λ found. subst (λ r. Accepts theory before (Piece number (first ++ text_of_parts parts) moment) r after) (sym found.2)
        (of_parts ends number moment before after first parts found.0 found.1),
  )
