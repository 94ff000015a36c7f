-- An event and a connection that is not its own.
use Rattle.std.proofs.Common.{◌≡◌, ◌≢◌, ℕ, ◌+◌, ◌-◌, Bool, true, false, cond, List, Option, None, Some, Result, refl, sym, ap, ◌∙◌, subst, eqb, eqb-true}
use Rattle.std.specs.Map.{update}
use Rattle.std.proofs.lemmas.Map.{update_apart}
use Rattle.sv_run.specs.Connections.{forgotten, opened}
use Rattle.sv_policy.specs.declared.edit.Edit.{Edit}
use Rattle.sv_policy.specs.declared.edit_fault.EditFault.{EditFault}
use Rattle.sv_run.specs.Contexts.{Theory}
use Rattle.sv_run.specs.Editing.{EditsIn, place_with}
use Rattle.sv_run.specs.Effect.{Effect}
use Rattle.sv_run.specs.Events.{Edited, Ended, Happening, Happens, Lost, Opened, Piece, Tick, connection_of, fault_of, opening_fault, unknown_fault}
use Rattle.sv_run.specs.Lawful.{AreSettled, EditsAlone, EndsExpired}
use Rattle.sv_run.specs.State.{State, holding, with_contexts}
use Rattle.sv_run.proofs.Taking.{settled_there, settled_with, takes_settled}
use Rattle.sv_session.specs.Expiry as expiry
use Rattle.sv_session.specs.Store.{Store}
use Rattle.sv_wire.specs.Inbox.{Held, nothing_held}

-- updates of two different connections commute
crossed : (held : ℕ → Option Held) (number other : ℕ) (one two : Option Held) → other ≢ number
    → update eqb (update eqb held number one) other two ≡ update eqb (update eqb held other two) number one
crossed held number other one two apart = λ i q. at q (eqb other q) refl (eqb number q) refl i
  where
    at : (q : ℕ) (s : Bool) → eqb other q ≡ s → (t : Bool) → eqb number q ≡ t
        → cond (eqb other q) two (cond (eqb number q) one (held q)) ≡ cond (eqb number q) one (cond (eqb other q) two (held q))
    at q true here true there = absurd (apart (eqb-true other q here ∙ sym (eqb-true number q there)))
    at q true here false there = rw (here, there) refl
    at q false here t there = rw here refl

module _ {Context Words : Type 0} where
  -- only its own connection can refuse an event
  pub fault_beside : (state : State Context Words) (number : ℕ) (held : Held) (happening : Happening) → connection_of happening ≢ Some number
      → fault_of (holding number held state).connections happening ≡ fault_of state.connections happening
  fault_beside state number held (Opened other) apart =
      ap (λ found. opening_fault found state.connections.known) (update_apart state.connections.held number (Some held) other (λ same. apart (ap Some same)))
  fault_beside state number held (Piece other bytes moment) apart =
      ap unknown_fault (update_apart state.connections.held number (Some held) other (λ same. apart (ap Some same)))
  fault_beside state number held (Ended other) apart =
      ap unknown_fault (update_apart state.connections.held number (Some held) other (λ same. apart (ap Some same)))
  fault_beside state number held (Lost other) apart =
      ap unknown_fault (update_apart state.connections.held number (Some held) other (λ same. apart (ap Some same)))
  fault_beside state number held (Tick moment) apart = refl
  fault_beside state number held (Edited path edit) apart = refl

module _ {Context Words : Type 0} (theory : Theory Context Words) where
  -- an edit leaves no session that has expired
  edited_settled : EditsAlone theory.path_of theory.conduct → (moment : ℕ) (found : Option ℕ) (before after : List Context) (edit : Edit) (answer : Result ℕ EditFault)
      → EditsIn theory found before edit answer after → AreSettled theory moment before → AreSettled theory moment after
  edited_settled alone moment None before after edit answer edits settled = subst (λ cs. AreSettled theory moment cs) (sym edits.1) settled
  edited_settled alone moment (Some place) before after edit answer edits settled =
      subst (λ cs. AreSettled theory moment cs) (sym edits.is_after)
      (settled_with theory moment before place edits.edited
      (subst (λ (store : Store). expiry.HasNoneExpired moment store) (sym (alone.sessions edits.context edits.edited edit answer edits.edits))
      (settled_there theory moment before place edits.context edits.there settled))
      settled)

  -- an event keeps the time, and leaves no session that has expired
  pub happens_settled : EditsAlone theory.path_of theory.conduct → EndsExpired theory → (state after : State Context Words) (happening : Happening) (effect : Effect Context)
      → Happens theory state happening effect after → AreSettled theory state.moment state.world.contexts
      → (after.moment ≡ state.moment) × AreSettled theory state.moment after.world.contexts × (after.stopped ≡ state.stopped)
  happens_settled alone ends state after (Opened other) effect happens settled = (
    ap (λ (s : State Context Words). s.moment) happens.1,
    subst (λ (s : State Context Words). AreSettled theory state.moment s.world.contexts) (sym happens.1) settled,
    ap (λ (s : State Context Words). s.stopped) happens.1,
  )
  happens_settled alone ends state after (Piece other bytes moment) effect happens settled = (
    ap (λ (s : State Context Words). s.moment) happens.is_after,
    subst (λ (s : State Context Words). AreSettled theory state.moment s.world.contexts) (sym happens.is_after)
        (takes_settled theory state.moment ends happens.items state.world happens.world effect happens.takes settled),
    ap (λ (s : State Context Words). s.stopped) happens.is_after,
  )
  happens_settled alone ends state after (Ended other) effect happens settled = (
    ap (λ (s : State Context Words). s.moment) happens.1,
    subst (λ (s : State Context Words). AreSettled theory state.moment s.world.contexts) (sym happens.1) settled,
    ap (λ (s : State Context Words). s.stopped) happens.1,
  )
  happens_settled alone ends state after (Lost other) effect happens settled = (
    ap (λ (s : State Context Words). s.moment) happens.1,
    subst (λ (s : State Context Words). AreSettled theory state.moment s.world.contexts) (sym happens.1) settled,
    ap (λ (s : State Context Words). s.stopped) happens.1,
  )
  happens_settled alone ends state after (Tick moment) effect happens settled = (
    ap (λ (s : State Context Words). s.moment) happens.1,
    subst (λ (s : State Context Words). AreSettled theory state.moment s.world.contexts) (sym happens.1) settled,
    ap (λ (s : State Context Words). s.stopped) happens.1,
  )
  happens_settled alone ends state after (Edited path edit) effect happens settled = (
    ap (λ (s : State Context Words). s.moment) happens.is_after,
    subst (λ (s : State Context Words). AreSettled theory state.moment s.world.contexts) (sym happens.is_after)
        (edited_settled alone state.moment (place_with theory state.world.contexts path) state.world.contexts happens.contexts edit happens.answer happens.edits settled),
    ap (λ (s : State Context Words). s.stopped) happens.is_after,
  )

  -- an event still happens if a connection that is not its own holds something else
  pub record HappensBeside (state : State Context Words) (number : ℕ) (held : Held) (happening : Happening) (effect : Effect Context)
      (after : State Context Words) : Type 0 where
    pub later : State Context Words
    pub happens : Happens theory state happening effect later
    pub is_after : after ≡ holding number held later

  pub happens_without : (state after : State Context Words) (number : ℕ) (held : Held) (happening : Happening) (effect : Effect Context)
      → connection_of happening ≢ Some number → Happens theory (holding number held state) happening effect after
      → HappensBeside state number held happening effect after
  happens_without state after number held (Opened other) effect apart happens =
      record {
        later = record state { connections = opened other state.connections };
        happens = (happens.0, refl);
        is_after = happens.1 ∙ (λ i. record state {
          connections = record { held = crossed state.connections.held number other (Some held) (Some nothing_held) (λ same. apart (ap Some same)) i; known = state.connections.known + 1 };
        });
      }
  happens_without state after number held (Piece other bytes moment) effect apart happens =
      record {
        later = holding other happens.left (record state { world = happens.world });
        happens =
            record {
              held = happens.held;
              holds = sym (update_apart state.connections.held number (Some held) other (λ same. apart (ap Some same))) ∙ happens.holds;
              items = happens.items;
              left = happens.left;
              feeds = happens.feeds;
              world = happens.world;
              takes = happens.takes;
              is_after = refl;
            };
        is_after = happens.is_after ∙ (λ i. record state {
          world = happens.world;
          connections = record { held = crossed state.connections.held number other (Some held) (Some happens.left) (λ same. apart (ap Some same)) i; known = state.connections.known };
        });
      }
  happens_without state after number held (Ended other) effect apart happens =
      record {
        later = record state { connections = forgotten other state.connections };
        happens = (happens.0, refl);
        is_after = happens.1 ∙ (λ i. record state {
          connections = record { held = crossed state.connections.held number other (Some held) None (λ same. apart (ap Some same)) i; known = state.connections.known - 1 };
        });
      }
  happens_without state after number held (Lost other) effect apart happens =
      record {
        later = record state { connections = forgotten other state.connections };
        happens = (happens.0, refl);
        is_after = happens.1 ∙ (λ i. record state {
          connections = record { held = crossed state.connections.held number other (Some held) None (λ same. apart (ap Some same)) i; known = state.connections.known - 1 };
        });
      }
  happens_without state after number held (Tick moment) effect apart happens =
      record { later = state; happens = (happens.0, refl); is_after = happens.1 }
  happens_without state after number held (Edited path edit) effect apart happens =
      record {
        later = with_contexts happens.contexts state;
        happens =
            record { answer = happens.answer; contexts = happens.contexts; edits = happens.edits; brings = happens.brings; is_after = refl };
        is_after = happens.is_after;
      }

  pub happens_with : (state after : State Context Words) (number : ℕ) (held : Held) (happening : Happening) (effect : Effect Context)
      → connection_of happening ≢ Some number → Happens theory state happening effect after
      → Happens theory (holding number held state) happening effect (holding number held after)
  happens_with state after number held (Opened other) effect apart happens = (
    happens.0,
    ap (λ (s : State Context Words). holding number held s) happens.1 ∙ (λ i. record state {
      connections = record { held = sym (crossed state.connections.held number other (Some held) (Some nothing_held) (λ same. apart (ap Some same))) i; known = state.connections.known + 1 };
    }),
  )
  happens_with state after number held (Piece other bytes moment) effect apart happens =
      record {
        held = happens.held;
        holds = update_apart state.connections.held number (Some held) other (λ same. apart (ap Some same)) ∙ happens.holds;
        items = happens.items;
        left = happens.left;
        feeds = happens.feeds;
        world = happens.world;
        takes = happens.takes;
        is_after = ap (λ (s : State Context Words). holding number held s) happens.is_after ∙ (λ i. record state {
          world = happens.world;
          connections = record { held = sym (crossed state.connections.held number other (Some held) (Some happens.left) (λ same. apart (ap Some same))) i; known = state.connections.known };
        });
      }
  happens_with state after number held (Ended other) effect apart happens = (
    happens.0,
    ap (λ (s : State Context Words). holding number held s) happens.1 ∙ (λ i. record state {
      connections = record { held = sym (crossed state.connections.held number other (Some held) None (λ same. apart (ap Some same))) i; known = state.connections.known - 1 };
    }),
  )
  happens_with state after number held (Lost other) effect apart happens = (
    happens.0,
    ap (λ (s : State Context Words). holding number held s) happens.1 ∙ (λ i. record state {
      connections = record { held = sym (crossed state.connections.held number other (Some held) None (λ same. apart (ap Some same))) i; known = state.connections.known - 1 };
    }),
  )
  happens_with state after number held (Tick moment) effect apart happens =
      (happens.0, ap (λ (s : State Context Words). holding number held s) happens.1)
  happens_with state after number held (Edited path edit) effect apart happens =
      record {
        answer = happens.answer;
        contexts = happens.contexts;
        edits = happens.edits;
        brings = happens.brings;
        is_after = ap (λ (s : State Context Words). holding number held s) happens.is_after;
      }

  -- an event does not change what another connection holds
  pub happens_apart : (state after : State Context Words) (number : ℕ) (happening : Happening) (effect : Effect Context)
      → connection_of happening ≢ Some number → Happens theory state happening effect after
      → after.connections.held number ≡ state.connections.held number
  happens_apart state after number (Opened other) effect apart happens =
      ap (λ (s : State Context Words). s.connections.held number) happens.1
      ∙ update_apart state.connections.held other (Some nothing_held) number (λ same. apart (ap Some (sym same)))
  happens_apart state after number (Piece other bytes moment) effect apart happens =
      ap (λ (s : State Context Words). s.connections.held number) happens.is_after
      ∙ update_apart state.connections.held other (Some happens.left) number (λ same. apart (ap Some (sym same)))
  happens_apart state after number (Ended other) effect apart happens =
      ap (λ (s : State Context Words). s.connections.held number) happens.1
      ∙ update_apart state.connections.held other None number (λ same. apart (ap Some (sym same)))
  happens_apart state after number (Lost other) effect apart happens =
      ap (λ (s : State Context Words). s.connections.held number) happens.1
      ∙ update_apart state.connections.held other None number (λ same. apart (ap Some (sym same)))
  happens_apart state after number (Tick moment) effect apart happens =
      ap (λ (s : State Context Words). s.connections.held number) happens.1
  happens_apart state after number (Edited path edit) effect apart happens =
      ap (λ (s : State Context Words). s.connections.held number) happens.is_after
