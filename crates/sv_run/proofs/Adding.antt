-- The output so far, with later effects.
use Rattle.std.proofs.Common.{◌≡◌, Bool, true, false, ◌||◌, List, [], ◌++◌, None, refl, sym, ap, ◌∙◌, append_assoc, append-nil}
use Rattle.sv_run.specs.Accesses.{logged}
use Rattle.sv_run.specs.Output.{Adds, Growth, growth_of, reaction_in, then_brings}
use Rattle.sv_run.specs.declared.access.Access.{Access}
use Rattle.sv_run.specs.declared.output.Output.{Output}
use Rattle.sv_journal.specs.Journal.{JournalState, new_journal}
use Rattle.sv_journal.specs.declared.entry.Entry.{Entry}
use Rattle.sv_run.proofs.Effects.{first-assoc, first-at_none, or-assoc, or-at_false}
use Rattle.sv_run.specs.Effect.{Effect, closing, joined, nothing, noting, shown, telling}

pub or-true : (a : Bool) → true ≡ (a || true)
or-true true = refl
or-true false = refl

-- an effect without accesses adds none
pub logs_none : (logs : Bool) (accesses : List Access) → accesses ≡ (accesses ++ logged logs [])
logs_none true accesses = sym (append-nil accesses)
logs_none false accesses = sym (append-nil accesses)

logs_both : (logs : Bool) (accesses first second : List Access)
    → ((accesses ++ logged logs first) ++ logged logs second) ≡ (accesses ++ logged logs (first ++ second))
logs_both true accesses first second = append_assoc accesses first second
logs_both false accesses first second = append-nil (accesses ++ [])

module _ {Context : Type 0} where
  brings_both : (growth : Growth) (first second : Effect Context)
      → then_brings (then_brings growth first) second ≡ then_brings growth (joined first second)
  brings_both growth first second =
      λ i. record {
        sends = append_assoc growth.sends first.sends second.sends i;
        closes = or-assoc growth.closes first.closes second.closes i;
        journal = record growth.journal { entries = append_assoc growth.journal.entries first.journal second.journal i };
        edited = first-assoc growth.edited first.edited second.edited i;
        logs = growth.logs;
        accesses = logs_both growth.logs growth.accesses first.accesses second.accesses i;
      }

  pub adds_on : (start reached next : Output) (front more : Effect Context)
      → Adds start front reached → Adds reached more next → Adds start (joined front more) next
  adds_on start reached next front more first later =
      later ∙ ap (λ r. then_brings r more) first ∙ brings_both (growth_of start) front more

  -- if the output did not close the connection before, it closes exactly if the effect does
  pub adds_closes : (start reached : Output) (effect : Effect Context) → Adds start effect reached → start.closes ≡ false → reached.closes ≡ effect.closes
  adds_closes start reached effect adds stays = ap (λ (r : Growth). r.closes) adds ∙ ap (λ t. t || effect.closes) stays

module _ (Context : Type 0) where
  pub adds_nothing : (output : Output) → Adds output (nothing {Context = Context}) output
  adds_nothing output =
      λ i. record {
        sends = sym (append-nil output.sends) i;
        closes = sym (or-at_false output.closes) i;
        journal = record output.journal { entries = sym (append-nil output.journal.entries) i };
        edited = sym (first-at_none output.edited) i;
        logs = output.logs;
        accesses = logs_none output.logs output.accesses.items i;
      }

  pub adds_closing : (output : Output) → Adds output (closing {Context = Context}) (record output { closes = true })
  adds_closing output =
      λ i. record {
        sends = sym (append-nil output.sends) i;
        closes = or-true output.closes i;
        journal = record output.journal { entries = sym (append-nil output.journal.entries) i };
        edited = sym (first-at_none output.edited) i;
        logs = output.logs;
        accesses = logs_none output.logs output.accesses.items i;
      }

-- an event adds the entries of expiry, and then its own effect
pub brings_all : {Context : Type 0} (output : Output) (journal : JournalState) (told : List Entry) (effect : Effect Context) (end : Growth) (logs : Bool)
    → growth_of output ≡ record { sends = []; closes = false; journal = new_journal; edited = None; logs = logs; accesses = [] } → journal ≡ noting told output.journal
    → end ≡ then_brings (record (growth_of output) { journal = journal }) effect
    → (reaction_in end ≡ shown (joined (telling told) effect)) × (end.accesses ≡ logged logs effect.accesses)
brings_all {Context} output journal told effect end logs is_new notes brings =
    let all : end ≡ then_brings (record { sends = []; closes = false; journal = noting told new_journal; edited = None; logs = logs; accesses = [] }) effect =
    brings ∙ ap (λ r. then_brings r effect)
    (λ i. record {
      sends = ap (λ (r : Growth). r.sends) is_new i;
      closes = ap (λ (r : Growth). r.closes) is_new i;
      journal = (notes ∙ ap (λ (r : Growth). noting told r.journal) is_new) i;
      edited = ap (λ (r : Growth). r.edited) is_new i;
      logs = ap (λ (r : Growth). r.logs) is_new i;
      accesses = ap (λ (r : Growth). r.accesses) is_new i;
    })
    in (ap reaction_in all, ap (λ (r : Growth). r.accesses) all)
