-- Items that are handled one after another.
use Rattle.std.proofs.Common.{◌≡◌, ℕ, true, false, List, [], ◌∷◌, None, Result, Ok, Err, IfOk, refl, sym, subst}
use Rattle.sv_wire.proofs.BoolLemmas.{MatchBool-from_true, MatchBool-from_false}
use Rattle.sv_run.proofs.Effects.{joined-assoc, joined-nothing}
use Rattle.sv_run.specs.Output.{Growth, then_brings}
use Rattle.sv_journal.specs.declared.entry.Entry.TheVariants.{Refused}
use Rattle.sv_journal.specs.declared.refusal_cause.RefusalCause.TheVariants as causes
use Rattle.sv_run.specs.Contexts.{Theory}
use Rattle.sv_run.specs.Effect.{Effect, answered, joined, nothing, sending}
use Rattle.sv_run.specs.Items.{IsTextAt, Takes, TakesItem, continue_text}
use Rattle.sv_run.specs.Messages.{plain_response}
use Rattle.sv_run.specs.State.{World}
use Rattle.sv_wire.specs.WireFault.{fault_status}
use Rattle.sv_wire.specs.declared.item.Item.{Item}
use Rattle.sv_wire.specs.declared.item.Item.TheVariants.{Continue, Refuse}
use Rattle.sv_wire.specs.declared.wire_fault.WireFault.{WireFault}

module _ {C W : Type 0} (theory : Theory C W) (moment : ℕ) (all : List Item) where
  -- handling the remaining items completes the handling of all items
  abbrev pub TakesOn : World C W → Effect C → World C W → List Item → Type 0
  TakesOn start front reached rest =
      (later : Effect C) (after : World C W) → Takes theory moment rest reached later after → Takes theory moment all start (joined front later) after

  -- an item that keeps the connection open is handled after the others
  pub goes_on : (start reached next : World C W) (front more : Effect C) (item : Item) (rest : List Item)
      → more.closes ≡ false → TakesOn start front reached (item ∷ rest)
      → TakesItem theory moment item reached more next → TakesOn start (joined front more) next rest
  goes_on start reached next front more item rest stays completes takes later after handled =
      subst (λ r. Takes theory moment all start r after) (sym (joined-assoc front more later))
      (completes (joined more later) after (next, more, later, takes, MatchBool-from_false more.closes _ _ stays handled, refl))

  -- after an item that closes the connection, none is handled
  pub stops : (start reached next : World C W) (front more : Effect C) (item : Item) (rest : List Item)
      → more.closes ≡ true → TakesOn start front reached (item ∷ rest)
      → TakesItem theory moment item reached more next → Takes theory moment all start (joined front more) next
  stops start reached next front more item rest closes completes takes =
      subst (λ r. Takes theory moment all start (joined front r) next) (joined-nothing more)
      (completes (joined more nothing) next (next, more, nothing, takes, MatchBool-from_true more.closes _ _ closes (refl, refl), refl))

  pub ends : (start reached : World C W) (front : Effect C) → TakesOn start front reached [] → Takes theory moment all start front reached
  ends start reached front completes = subst (λ r. Takes theory moment all start r reached) (joined-nothing front) (completes nothing reached (refl, refl))

module _ {C W : Type 0} (theory : Theory C W) (moment : ℕ) where
  -- the item is handled, and its effect is added to the reaction
  abbrev pub TakesAndBrings : World C W → World C W → Growth → Growth → Item → Type 0
  TakesAndBrings before after start end item = (effect : Effect C) × TakesItem theory moment item before effect after × (end ≡ then_brings start effect)

  pub takes_as : {T E : Type 0} (result : Result T E) (before after : World C W) (start end : Growth) (item same : Item) → item ≡ same
      → IfOk result (λ _. TakesAndBrings before after start end same) → IfOk result (λ _. TakesAndBrings before after start end item)
  takes_as result before after start end item same is takes =
      subst (λ at. IfOk result (λ _. TakesAndBrings before after start end at)) (sym is) takes

  pub takes_continue : {T E : Type 0} (result : Result T E) (world : World C W) (start end : Growth)
      → IfOk result (λ _. end ≡ then_brings start (sending {Context = C} continue_text))
      → IfOk result (λ _. TakesAndBrings world world start end Continue)
  takes_continue (Err fault) world start end brings = tt
  takes_continue (Ok done) world start end brings = (sending continue_text, (refl, refl), brings)

  pub takes_refusal : {T E : Type 0} (result : Result T E) (world : World C W) (start end : Growth) (fault : WireFault)
      → IfOk result (λ _. (text : List ℕ) × IsTextAt moment (plain_response (fault_status fault)) false false text
      × (end ≡ then_brings start (answered {Context = C} None (plain_response (fault_status fault)) (Refused (causes.Wire fault)) text true)))
      → IfOk result (λ _. TakesAndBrings world world start end (Refuse fault))
  takes_refusal (Err wanted) world start end fault brings = tt
  takes_refusal (Ok done) world start end fault brings =
      (answered None (plain_response (fault_status fault)) (Refused (causes.Wire fault)) brings.0 true, (brings.0, brings.1, refl, refl), brings.2)
