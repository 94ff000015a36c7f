-- Answering a request moves the sessions only as components may.
use Rattle.std.proofs.Common.{◌≡◌, inl, inr, ℕ, suc, Bool, true, false, List, [], ◌∷◌, Some, refl, sym, ap, ◌∙◌, subst, if◌then◌else◌}
use Rattle.sv_component.specs.Runs.{Record}
use Rattle.sv_exchange.specs.Changing.{Change, Reaches, SetHeader, answer, left_by}
use Rattle.sv_exchange.specs.Dispatches.{Leaves}
use Rattle.sv_exchange.specs.Laws.{ChangesAreCalls, ChangesMoveTheSessions}
use Rattle.sv_session.specs.declared.event.Event.{Event}
use Rattle.sv_mapping.specs.declared.kind.Kind.{Kind}
use Rattle.sv_mapping.specs.declared.kind.Kind.TheVariants as kinds
use Rattle.sv_session.specs.Calls.{caller_of}
use Rattle.sv_session.specs.Laws.{HoldersAreFound, MovesGiveNoCaller, MovesJoin, MovesLeaveOrder}
use Rattle.sv_session.specs.Runs.{MovedByComponents}
use Rattle.sv_session.specs.Store.{IsOrderly}
use Rattle.sv_tree.specs.Asking.{without_events}
use Rattle.sv_tree.specs.Does.{gives, makes}
use Rattle.sv_tree.specs.Files.{emptied}
use Rattle.sv_tree.specs.Laws.{AnswersMoveSessions}
use Rattle.sv_tree.specs.Moving.{IsMoved, MovesSessions}
use Rattle.sv_tree.specs.Site.{Site, begun}
use Rattle.sv_tree.specs.State.{Exchange, State}
use Rattle.sv_tree.specs.Telling.{hears}
use Rattle.sv_tree.specs.Tree.{Tree}
use Rattle.sv_tree.specs.declared.limits.TheConstants.{MAX_NESTING}
use Rattle.sv_tree.proofs.Bounding.{AnyField, ErrorSteps, error_keeps, served_keeps}
use Rattle.sv_tree.proofs.Changing.{called_unchanged, made_unchanged, unchanged}
use Rattle.sv_tree.proofs.Keeping.{FilterSteps, Keeps, Opens, Steps, away_same, called, tree_keeps, within_keeps}
use Rattle.sv_uri.specs.declared.path.Canon.{Canon}

-- The time and the sessions are unchanged.
abbrev Stays : Exchange → Exchange → Type 0
Stays x y = (y.moment ≡ x.moment) × (y.store ≡ x.store)

stays_moved : (x y : Exchange) → Stays x y → IsMoved x y
stays_moved x y same = record { moment = same.0; sessions = ([], tt, same.1) }

same_moved : (x y : State) → y ≡ x → IsMoved x.exchange y.exchange
same_moved x y same = stays_moved x.exchange y.exchange (ap (λ s. s.exchange.moment) same, ap (λ s. s.exchange.store) same)

emptied_stays : (committed : Bool) (x : Exchange) → Stays x (if committed then x else record x { buffer = [] })
emptied_stays true x = (refl, refl)
emptied_stays false x = (refl, refl)

begun_stays : (site : Site) (kind : Kind) (canon : Canon) (x : Exchange) → Stays x (begun site kind canon x)
begun_stays site kinds.Request canon x = (refl, refl)
begun_stays site kinds.Forward canon x = (refl, refl)
begun_stays site kinds.Include canon x = (refl, refl)
begun_stays site kinds.Error canon x = (refl, refl)

left_stays : (y z : Exchange) → Leaves y z → Stays y z
left_stays y z left = (sym (ap (λ e. e.moment) left.1), sym (ap (λ e. e.store) left.1))

pub gives_moves : MovesSessions {A = Unit {0}} (gives tt)
gives_moves x y r result h = same_moved x y h.1

pub hears_moves : (listeners : ℕ) (event : Event) → MovesSessions (hears listeners event)
hears_moves listeners event x y r result h = same_moved x y h.1

module _ (joins : MovesJoin) where
  pub moved_joins : (x y z : Exchange) → IsMoved x y → IsMoved y z → IsMoved x z
  moved_joins x y z one two =
      record {
        moment = two.moment ∙ one.moment;
        sessions = joins x.moment x.store y.store z.store one.sessions (subst (λ now. MovedByComponents now y.store z.store) one.moment two.sessions);
      }

module _ (calls : ChangesAreCalls) (moves : ChangesMoveTheSessions) (joins : MovesJoin) where
  made_moved : (change : Change) (x : Exchange) → IsMoved x (left_by (answer change x) change x)
  made_moved change x =
      let y = left_by (answer change x) change x in
      record { moment = (made_unchanged change x).0.moment; sessions = moves x y ((calls x y).1 (change ∷ [], refl)) }

  pub makes_moves : (change : Change) → MovesSessions (makes change)
  makes_moves change x y r result h = elim h.1 [
    | inl made ↦ subst (λ (s : State). IsMoved x.exchange s.exchange) (sym made.0) (made_moved change x.exchange)
    | inr not ↦ same_moved x y not.0
  ]

  -- A counted call of a component.
  called_moved : (x e : Exchange) → Reaches (record x { calls = suc x.calls }) e → IsMoved x (without_events e)
  called_moved x e changes = record { moment = (called_unchanged x e changes).0.moment; sessions = moves (record x { calls = suc x.calls }) e changes }

  after_moved : (x e : Exchange) → Reaches x e → IsMoved x (without_events e)
  after_moved x e changes = record { moment = (unchanged x e changes).0.moment; sessions = moves x e changes }

  module _ (site : Site) where
    abbrev Moves : ℕ → State → List Record → State → Bool → Type 0
    Moves room x r y b = IsMoved x.exchange y.exchange

    opens : (kind : Kind) → Opens site Moves kind
    opens kind room canon = record {
      stays = λ x. stays_moved x.exchange x.exchange (refl, refl);
      ends = λ x y z r h left.
          let begins = begun site kind canon x.exchange in
          moved_joins joins x.exchange begins z (stays_moved x.exchange begins (begun_stays site kind canon x.exchange))
          (moved_joins joins begins y.exchange z h (stays_moved y.exchange z (left_stays y.exchange z left)));
      breaks = λ x y r h.
          let begins = begun site kind canon x.exchange in
          moved_joins joins x.exchange begins y.exchange (stays_moved x.exchange begins (begun_stays site kind canon x.exchange)) h;
    }

    law : Steps site Moves
    law = record {
      stays = λ room x b. stays_moved x.exchange x.exchange (refl, refl);
      joins = λ room x y z r s b one two. moved_joins joins x.exchange y.exchange z.exchange one two;
      keeps = λ room x kept own. record { moment = refl; sessions = ([], tt, refl) };
      makes = λ room x change own. made_moved change x.exchange;
      empties = λ room x. stays_moved x.exchange (emptied x.exchange) (emptied_stays x.exchange.committed x.exchange);
      breaks = λ room x place turn step e left serving changes. called_moved x.exchange e changes;
      serves = λ room x place turn step e left serving changes.
          subst (IsMoved x.exchange) (sym (away_same place step (called e x))) (called_moved x.exchange e changes);
      destroys = λ room x place b serving. stays_moved x.exchange x.exchange (refl, refl);
      forwards = opens kinds.Forward;
      includes = opens kinds.Include;
    }

    filters : FilterSteps site Moves
    filters = record {
      before = λ room place x gate e b left changes. called_moved x.exchange e changes;
      after = λ room place x done e b changes. after_moved x.exchange e changes;
    }

    trees : (room : ℕ) (kind : Kind) (canon : Canon) → Keeps site Moves room (Tree site room kind canon)
    trees room kind canon = tree_keeps site Moves law (within_keeps site Moves law filters) room kind (opens kind) canon

    errors : ErrorSteps site Moves MAX_NESTING AnyField
    errors = record {
      resets = λ x. record { moment = refl; sessions = ([], tt, refl) };
      breaks = λ x. record { moment = refl; sessions = ([], tt, refl) };
      none = tt;
      sets = λ x field own. made_moved (SetHeader field.name field.value) x.exchange;
      owns = λ x y r b kept. kept tt;
    }

    pub answers_move : AnswersMoveSessions site
    answers_move = (
      trees,
      λ kind canon. served_keeps site Moves law MAX_NESTING AnyField errors (trees MAX_NESTING kinds.Error) kind canon (trees MAX_NESTING kind canon),
      error_keeps site Moves law MAX_NESTING AnyField errors (trees MAX_NESTING kinds.Error),
    )

pub moved_find_none : HoldersAreFound → MovesLeaveOrder → MovesGiveNoCaller → (x y : Exchange) → IsMoved x y → IsOrderly x.store
    → IsOrderly y.store × ((number caller : ℕ) → caller_of number y.store ≡ Some caller → caller_of number x.store ≡ Some caller)
moved_find_none found order callers x y moved orderly =
    let behind = order x.moment x.store y.store moved.sessions orderly in (
      behind,
      λ number caller h. (found x.store orderly number caller).0
          (callers x.moment x.store y.store moved.sessions number caller ((found y.store behind number caller).1 h)),
    )
