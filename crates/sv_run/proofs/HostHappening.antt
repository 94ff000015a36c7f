-- The results of the arms of an event.
use Rattle.std.proofs.Common.{◌≡◌, ℕ, true, false, List, [], None, Some, Result, Ok, Err, IfOk, IsSome, refl, sym, ap, ◌∙◌, subst, eqb, append-nil}
use Rattle.std.proofs.lemmas.Map.{update_here, update-update}
use Rattle.sv_run.proofs.Adding.{adds_nothing}
use Rattle.sv_run.specs.HostConnections.{FeedsOne}
use Rattle.sv_run.specs.Output.{Adds}
use Rattle.sv_run.specs.declared.output.Output.{Output}
use Rattle.sv_journal.specs.declared.entry.Entry.{Entry}
use Rattle.sv_run.specs.Connections.{Connections, forgotten, opened, with_held}
use Rattle.sv_run.specs.Contexts.{Theory}
use Rattle.sv_run.specs.Effect.{Effect, closing, joined, nothing, telling}
use Rattle.sv_run.specs.Events.{Accepts, Ended, ExpiresAll, Happening, Happens, Lost, Opened, Piece, TakesPiece, Tick, fault_of, moment_after}
use Rattle.sv_run.specs.Feeding.{held_where}
use Rattle.sv_run.specs.Items.{Takes}
use Rattle.sv_run.specs.State.{State, World, settled_at}
use Rattle.sv_wire.specs.Inbox.{Held, spent_for_good}
use Rattle.sv_wire.specs.declared.item.Item.{Item}

-- only the last update of a connection is visible
held_twice : (number : ℕ) (one other : Held) (connections : Connections) → with_held number other (with_held number one connections) ≡ with_held number other connections
held_twice number one other connections =
    λ i. record { held = λ q. update-update eqb connections.held number (Some one) (Some other) q i; known = connections.known }

-- after a piece of a connection was read, the connection is known
pub fed_known : (before after : Connections) (number : ℕ) (piece : List ℕ) (items : List Item) → FeedsOne before number piece items after → IsSome (after.held number)
fed_known before after number piece items feeds =
    subst IsSome (sym (ap (λ (k : Connections). k.held number) feeds.is_after ∙ update_here before.held number (Some feeds.left))) refl

-- the time that is set is the time after the event
pub raised_to : (happening : Happening) (date before moment after : ℕ) → before ≡ date → moment ≡ moment_after before happening → after ≡ moment
    → after ≡ moment_after date happening
raised_to happening date before moment after same raised given = given ∙ raised ∙ ap (λ m. moment_after m happening) same

module _ {C W : Type 0} (theory : Theory C W) (state : State C W) where
  module _ (happening : Happening) (number : ℕ) (connections : Connections) where
    pub opens : happening ≡ Opened number → connections ≡ opened number state.connections
        → Happens theory state happening nothing (record state { connections = connections })
    opens is same =
        subst (λ h. Happens theory state h nothing (record state { connections = connections })) (sym is)
        (refl, λ i. record state { connections = same i })

    pub ends : happening ≡ Ended number → connections ≡ forgotten number state.connections
        → Happens theory state happening closing (record state { connections = connections })
    ends is same =
        subst (λ h. Happens theory state h closing (record state { connections = connections })) (sym is)
        (refl, λ i. record state { connections = same i })

    pub loses : happening ≡ Lost number → connections ≡ forgotten number state.connections
        → Happens theory state happening nothing (record state { connections = connections })
    loses is same =
        subst (λ h. Happens theory state h nothing (record state { connections = connections })) (sym is)
        (refl, λ i. record state { connections = same i })

  pub ticks : (happening : Happening) (moment : ℕ) → happening ≡ Tick moment → Happens theory state happening nothing state
  ticks happening moment is = subst (λ h. Happens theory state h nothing state) (sym is) (refl, refl)

  pub comes_in : (happening : Happening) (number : ℕ) (bytes : List ℕ) (moment : ℕ) (effect : Effect C) (after : State C W)
      → happening ≡ Piece number bytes moment → TakesPiece theory state number bytes effect after → Happens theory state happening effect after
  comes_in happening number bytes moment effect after is takes = subst (λ h. Happens theory state h effect after) (sym is) takes

  module _ (number : ℕ) (piece : List ℕ) (items : List Item) (fed connections : Connections) (world : World C W) (effect : Effect C)
      (feeds : FeedsOne state.connections number piece items fed) (takes : Takes theory state.moment items state.world effect world) where
    -- a piece after which the connection stays open
    pub takes_open : connections ≡ fed → effect.closes ≡ false → TakesPiece theory state number piece effect (record state { connections = connections; world = world })
    takes_open same stays =
        record {
          held = feeds.held;
          holds = feeds.holds;
          items = items;
          left = feeds.left;
          feeds =
              record {
                part = piece;
                unread = [];
                is_piece = sym (append-nil piece);
                is_all = λ none. refl;
                left = feeds.left;
                feeds = feeds.feeds;
                is_after = ap (λ t. held_where t feeds.left) (sym stays);
              };
          world = world;
          takes = takes;
          is_after = λ i. record state { connections = (same ∙ feeds.is_after) i; world = world };
        }

    -- a piece after which the connection closes
    pub takes_closing : connections ≡ with_held number spent_for_good fed → effect.closes ≡ true
        → TakesPiece theory state number piece effect (record state { connections = connections; world = world })
    takes_closing ended closes =
        record {
          held = feeds.held;
          holds = feeds.holds;
          items = items;
          left = spent_for_good;
          feeds =
              record {
                part = piece;
                unread = [];
                is_piece = sym (append-nil piece);
                is_all = λ none. refl;
                left = feeds.left;
                feeds = feeds.feeds;
                is_after = ap (λ t. held_where t feeds.left) (sym closes);
              };
          world = world;
          takes = takes;
          is_after = λ i. record state {
            connections = (ended ∙ ap (with_held number spent_for_good) feeds.is_after ∙ held_twice number feeds.left spent_for_good state.connections) i;
            world = world;
          };
        }

  pub opens_so : {T E : Type 0} (result : Result T E) (happening : Happening) (number : ℕ) (connections : Connections) (start : Output)
      → happening ≡ Opened number → IfOk result (λ _. connections ≡ opened number state.connections)
      → IfOk result (λ _. (effect : Effect C) × Happens theory state happening effect (record state { connections = connections }) × Adds start effect start)
  opens_so (Err wanted) happening number connections start is opened_so = tt
  opens_so (Ok done) happening number connections start is opened_so =
      (nothing, opens happening number connections is opened_so, adds_nothing C start)

  pub accepts_at : (happening : Happening) (after : State C W) (moment : ℕ) (told : List Entry) (contexts : List C) (brings : Effect C)
      → moment ≡ moment_after state.moment happening → state.stopped ≡ false → fault_of state.connections happening ≡ None
      → ExpiresAll theory.conduct state.world.contexts moment told contexts → Happens theory (settled_at moment contexts state) happening brings after
      → Accepts theory state happening (joined (telling told) brings) after
  accepts_at happening after moment told contexts brings same runs no_fault expires happens =
      record {
        runs = runs;
        no_fault = no_fault;
        told = told;
        contexts = contexts;
        expires = subst (λ m. ExpiresAll theory.conduct state.world.contexts m told contexts) same expires;
        brings = brings;
        happens = subst (λ m. Happens theory (settled_at m contexts state) happening brings after) same happens;
        is_joined = refl;
      }
