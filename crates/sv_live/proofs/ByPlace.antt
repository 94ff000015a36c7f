-- One call of a component of a started context.
use Rattle.std.proofs.Common.{◌≡◌, ℕ, ◌<◌, Bool, true, false, List, length, set, Result, Err, is_ok, refl, sym, ap, subst}
use Rattle.std.specs.Prelude.{cond}
use Rattle.sv_component.specs.Call.{Destroyed}
use Rattle.sv_component.specs.Runs.{Moves, OfServlet, Record}
use Rattle.sv_component.proofs.Running.{grows_by}
use Rattle.sv_journal.specs.Journal.{JournalState}
use Rattle.sv_live.specs.Calling.{CallsOnce, Retires}
use Rattle.sv_live.specs.Standing.{LiveState}
use Rattle.sv_live.specs.World.{HasSameCounts, world}
use Rattle.sv_live.specs.declared.live.Parts.{Parts}
use Rattle.sv_component.specs.declared.standing.Standing.TheVariants.{Gone}
use Rattle.sv_component.specs.Steps.{ComponentSteps}

-- A component of a started context exists after its fields are unpacked.
pub servlet_there : {S F L : Type 0} (before opened : LiveState S F L) (place : ℕ) → opened ≡ before → place < length before.parts.servlets.items → place < length opened.parts.servlets.items
servlet_there {S} {F} {L} before opened place is there = subst (λ (live : LiveState S F L). place < length live.parts.servlets.items) (sym is) there

pub filter_there : {S F L : Type 0} (before opened : LiveState S F L) (place : ℕ) → opened ≡ before → place < length before.parts.filters.items → place < length opened.parts.filters.items
filter_there {S} {F} {L} before opened place is there = subst (λ (live : LiveState S F L). place < length live.parts.filters.items) (sym is) there

-- Running out of memory is not a success.
pub ok_unless : {A E : Type 0} (whole : Bool) (no_memory : E) (done result : Result A E) → result ≡ cond whole done (Err no_memory) → is_ok result ≡ cond whole (is_ok done) false
ok_unless true no_memory done result is = ap is_ok is
ok_unless false no_memory done result is = ap is_ok is

module _ {S F L : Type 0} (moving : ComponentSteps S F L) where
  pub calls_once : (before opened : LiveState S F L) (text : List ℕ) (noted : JournalState) (call : Record) (parts_after : Parts S F L) (noted_after : JournalState)
      → opened ≡ before → text ≡ opened.context → Moves moving (world text opened.parts noted) call (world text parts_after noted_after) → HasSameCounts opened.parts parts_after
      → CallsOnce moving before noted call (record opened { parts = parts_after }) noted_after
  calls_once before opened text noted call parts_after noted_after is named moves same =
      subst (λ live. CallsOnce moving live noted call (record opened { parts = parts_after }) noted_after) is
      (record {
        made = grows_by moving _ call _ (subst (λ context. Moves moving (world context opened.parts noted) call (world context parts_after noted_after)) named moves);
        stands = record { context = refl; initialised = refl; standings = refl; counts = same };
      })

  pub retires : (before opened : LiveState S F L) (text : List ℕ) (noted : JournalState) (place : ℕ) (parts_after : Parts S F L) (noted_after : JournalState)
      → opened ≡ before → text ≡ opened.context → Moves moving (world text opened.parts noted) (OfServlet place Destroyed) (world text parts_after noted_after) → HasSameCounts opened.parts parts_after
      → Retires moving before noted place (record opened { parts = parts_after; standings = set opened.standings place Gone }) noted_after
  retires before opened text noted place parts_after noted_after is named moves same =
      subst (λ live. Retires moving live noted place (record opened { parts = parts_after; standings = set opened.standings place Gone }) noted_after) is
      (record {
        made = grows_by moving _ (OfServlet place Destroyed) _ (subst (λ context. Moves moving (world context opened.parts noted) (OfServlet place Destroyed) (world context parts_after noted_after)) named moves);
        stands = record { context = refl; initialised = refl; standings = refl; counts = same };
      })
