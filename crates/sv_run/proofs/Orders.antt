-- A piece that completes no item, and an event of another connection.
use Rattle.std.proofs.Common.{◌≡◌, ◌≢◌, ℕ, false, List, [], ◌++◌, Some, refl, sym, ap, ◌∙◌, subst, append-nil}
use Rattle.sv_journal.specs.declared.entry.Entry.{Entry}
use Rattle.sv_run.specs.Contexts.{Theory}
use Rattle.sv_run.specs.Effect.{Effect, nothing, telling, joined}
use Rattle.sv_run.specs.Events.{Accepts, Happening, Happens, Piece, TakesPiece, connection_of, moment_after, unknown_fault}
use Rattle.sv_run.specs.Feeding.{Feeds}
use Rattle.sv_run.specs.Items.{Takes}
use Rattle.sv_run.specs.Lawful.{AreSettled, EditsAlone, EndsExpired}
use Rattle.sv_run.specs.Laws.{AcceptsBoth, AcceptsOtherwise, CompletesNothing, OrdersAreAlike}
use Rattle.sv_run.specs.State.{State, World, holding, settled_at}
use Rattle.sv_run.proofs.Beside.{fault_beside, happens_apart, happens_settled, happens_with, happens_without}
use Rattle.sv_run.proofs.Cuts.{same_held}
use Rattle.sv_run.proofs.Feedings.{feeds_where, where_all, where_nothing}
use Rattle.sv_run.proofs.Stepping.{accepts_now, accepts_settled, now_accepts, settled_accepts}
use Rattle.sv_run.proofs.Taking.{expiring_settles}
use Rattle.sv_wire.specs.Inbox.{Held}

module _ {Context Words : Type 0} (theory : Theory Context Words) where
  -- a piece that completes no item changes only what its connection holds
  record IsQuiet (state : State Context Words) (number : ℕ) (held : Held) (bytes : List ℕ) (effect : Effect Context) (after : State Context Words) : Type 0 where
    pub left : Held
    pub feeds : Feeds held bytes [] left
    pub brings_nothing : effect ≡ nothing
    pub is_after : after ≡ holding number left state

  quiet_takes : (state : State Context Words) (world : World Context Words) (effect : Effect Context) (number : ℕ) (held left : Held) (bytes : List ℕ)
      (after : State Context Words)
      → Feeds held bytes [] left → Takes theory state.moment [] state.world effect world
      → after ≡ holding number left (record state { world = world }) → IsQuiet state number held bytes effect after
  quiet_takes state world effect number held left bytes after feeds takes is_after =
      record {
        left = left;
        feeds = feeds;
        brings_nothing = takes.0;
        is_after = is_after ∙ (λ i. holding number left (record state { world = takes.1 i }));
      }

  quiet : (state after : State Context Words) (number : ℕ) (held left : Held) (bytes : List ℕ) (effect : Effect Context)
      → Feeds held bytes [] left → (piece : TakesPiece theory state number bytes effect after) → held ≡ piece.held
      → IsQuiet state number piece.held bytes effect after
  quiet state after number held left bytes effect feeds piece same =
      let none = where_nothing effect.closes piece.held left piece.left bytes piece.items (subst (λ h. Feeds h bytes [] left) same feeds) piece.feeds in
      let takes = subst (λ items. Takes theory state.moment items state.world effect piece.world) none piece.takes in
      let closes_not : effect.closes ≡ false = ap (λ (r : Effect Context). r.closes) takes.0 in
      quiet_takes state piece.world effect number piece.held piece.left bytes after
      (subst (λ items. Feeds piece.held bytes items piece.left) none
      (where_all effect.closes piece.held piece.left bytes piece.items closes_not piece.feeds))
      takes
      piece.is_after

  module _ (alone_edits : EditsAlone theory.path_of theory.conduct) (ends : EndsExpired theory) (before after : State Context Words) (number : ℕ) (bytes : List ℕ) (moment : ℕ) (other : Happening)
      (journal : List Entry) (one two : Effect Context) (apart : connection_of other ≢ Some number)
      (piece_now : moment_after before.moment (Piece number bytes moment) ≡ before.moment) (other_now : moment_after before.moment other ≡ before.moment)
      (completes : CompletesNothing before number bytes) where
    pub other_first : AcceptsBoth theory before (Piece number bytes moment) other one two journal after
        → AcceptsOtherwise theory before (Piece number bytes moment) other one two journal after
    other_first both =
        let begins = accepts_now theory before both.between (Piece number bytes moment) one piece_now both.begins in
        let mid = settled_at before.moment begins.contexts before in
        let piece = begins.happens in
        let found = quiet mid both.between number completes.held completes.left bytes begins.brings completes.feeds piece
        (same_held completes.held piece.held (sym completes.holds ∙ piece.holds)) in
        let settled = expiring_settles theory ends before.world.contexts begins.contexts before.moment begins.told begins.expires in
        let held_state = holding number found.left mid in
        let goes_on = subst (λ s. Accepts theory s other two after) found.is_after both.goes_on in
        let alone = happens_without theory mid after number found.left other two apart
        (settled_accepts theory ends held_state after other two other_now settled goes_on) in
        let later = happens_settled theory alone_edits ends mid alone.later other two alone.happens settled in
        let own : alone.later.connections.held number ≡ Some piece.held = happens_apart theory mid alone.later number other two apart alone.happens ∙ piece.holds in
        let is_one : one ≡ telling (begins.told ++ []) = begins.is_joined ∙ ap (joined (telling begins.told)) found.brings_nothing in
        record {
          other_front = joined (telling begins.told) two;
          other_back = nothing;
          accepts =
              record {
                between = alone.later;
                begins =
                    now_accepts theory before alone.later other (joined (telling begins.told) two) other_now
                    record {
                      runs = begins.runs;
                      no_fault =
                          sym (fault_beside mid number found.left other apart) ∙ goes_on.no_fault;
                      told = begins.told;
                      contexts = begins.contexts;
                      expires = begins.expires;
                      brings = two;
                      happens = alone.happens;
                      is_joined = refl;
                    };
                goes_on =
                    accepts_settled theory ends alone.later after (Piece number bytes moment) nothing
                    (subst (λ m. moment_after m (Piece number bytes moment) ≡ m) (sym later.0) piece_now)
                    (subst (λ m. AreSettled theory m alone.later.world.contexts) (sym later.0) later.1)
                    (later.2 ∙ begins.runs)
                    (ap unknown_fault own)
                    record {
                      held = piece.held;
                      holds = own;
                      items = [];
                      left = found.left;
                      feeds = feeds_where piece.held found.left bytes [] found.feeds;
                      world = alone.later.world;
                      takes = (refl, refl);
                      is_after = alone.is_after;
                    };
                is_joined =
                    both.is_joined ∙ ap (λ (r : Effect Context). r.journal ++ two.journal) is_one
                    ∙ ap (λ told. told ++ two.journal) (append-nil begins.told)
                    ∙ sym (append-nil (begins.told ++ two.journal));
              };
          first_alike =
              record {
                sends = ap (λ (r : Effect Context). r.sends) is_one;
                closes = ap (λ (r : Effect Context). r.closes) is_one;
                deeds = ap (λ (r : Effect Context). r.deeds) is_one;
                edited = ap (λ (r : Effect Context). r.edited) is_one;
              };
          second_alike = record { sends = refl; closes = refl; deeds = refl; edited = refl };
        }

    pub piece_first : AcceptsBoth theory before other (Piece number bytes moment) one two journal after
        → AcceptsOtherwise theory before other (Piece number bytes moment) one two journal after
    piece_first both =
        let begins = accepts_now theory before both.between other one other_now both.begins in
        let mid = settled_at before.moment begins.contexts before in
        let settled = expiring_settles theory ends before.world.contexts begins.contexts before.moment begins.told begins.expires in
        let later = happens_settled theory alone_edits ends mid both.between other begins.brings begins.happens settled in
        let piece = settled_accepts theory ends both.between after (Piece number bytes moment) two
        (subst (λ m. moment_after m (Piece number bytes moment) ≡ m) (sym later.0) piece_now)
        (subst (λ m. AreSettled theory m both.between.world.contexts) (sym later.0) later.1)
        both.goes_on in
        let own : before.connections.held number ≡ Some piece.held = sym (happens_apart theory mid both.between number other begins.brings apart begins.happens) ∙ piece.holds in
        let found = quiet both.between after number completes.held completes.left bytes two completes.feeds piece
        (same_held completes.held piece.held (sym completes.holds ∙ own)) in
        record {
          other_front = telling begins.told;
          other_back = begins.brings;
          accepts =
              record {
                between = holding number found.left mid;
                begins =
                    now_accepts theory before (holding number found.left mid) (Piece number bytes moment) (telling begins.told) piece_now
                    record {
                      runs = begins.runs;
                      no_fault = ap unknown_fault own;
                      told = begins.told;
                      contexts = begins.contexts;
                      expires = begins.expires;
                      brings = nothing;
                      happens =
                          record {
                            held = piece.held;
                            holds = own;
                            items = [];
                            left = found.left;
                            feeds = feeds_where piece.held found.left bytes [] found.feeds;
                            world = mid.world;
                            takes = (refl, refl);
                            is_after = refl;
                          };
                      is_joined = λ i. telling (sym (append-nil begins.told) i);
                    };
                goes_on =
                    accepts_settled theory ends (holding number found.left mid) after other begins.brings other_now settled
                    begins.runs
                    (fault_beside mid number found.left other apart ∙ begins.no_fault)
                    (subst (λ s. Happens theory (holding number found.left mid) other begins.brings s) (sym found.is_after)
                    (happens_with theory mid both.between number found.left other begins.brings apart begins.happens));
                is_joined =
                    both.is_joined ∙ (λ i. (begins.is_joined i).journal ++ (found.brings_nothing i).journal)
                    ∙ append-nil (begins.told ++ begins.brings.journal);
              };
          first_alike =
              record {
                sends = ap (λ (r : Effect Context). r.sends) begins.is_joined;
                closes = ap (λ (r : Effect Context). r.closes) begins.is_joined;
                deeds = ap (λ (r : Effect Context). r.deeds) begins.is_joined;
                edited = ap (λ (r : Effect Context). r.edited) begins.is_joined;
              };
          second_alike =
              record {
                sends = ap (λ (r : Effect Context). r.sends) found.brings_nothing;
                closes = ap (λ (r : Effect Context). r.closes) found.brings_nothing;
                deeds = ap (λ (r : Effect Context). r.deeds) found.brings_nothing;
                edited = ap (λ (r : Effect Context). r.edited) found.brings_nothing;
              };
        }

  pub orders_are_alike : EditsAlone theory.path_of theory.conduct → EndsExpired theory → OrdersAreAlike theory
  orders_are_alike alone_edits ends before after number bytes moment other journal one two apart piece_now other_now completes = (
    other_first alone_edits ends before after number bytes moment other journal one two apart piece_now other_now completes,
    piece_first alone_edits ends before after number bytes moment other journal one two apart piece_now other_now completes,
  )
