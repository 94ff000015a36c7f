-- The event loop, for our contexts.
use Rattle.std.proofs.Common.{ℕ}
use Rattle.sv_component.specs.Steps.{ComponentSteps}
use Rattle.sv_connection.specs.LoopRuns.{AnEventLoopIsARun}
use Rattle.sv_connection.specs.Polling.{Polling}
use Rattle.sv_connection.specs.Ways.{Ways}
use Rattle.sv_context.specs.State.{ContextState}
use Rattle.sv_context.specs.Theory.{theory}
use Rattle.sv_headline.specs.Loop.{WhatAnEventLoopDoesIsLawful}
use Rattle.sv_headline.specs.Until.{EveryRunIsLawfulUntilRefused}
use Rattle.sv_run.specs.Laws.{RequestsEnterExactlyWhereAllowed}
use Rattle.sv_run.specs.Reacting.{Reacting}
use Rattle.sv_run.specs.State.{State}
use Rattle.sv_wire.specs.declared.inbox.Awaited.{Awaited}

pub is_lawful : {S F L W R N C P : Type 0} (moving : ComponentSteps S F L) (draws : W → ℕ × ℕ → W → Type 0) (ways : Ways P) (steps : Reacting R)
    (tells : C → ℕ → C → Type 0) (polls : Polling N P) (awaits : R → ℕ → Awaited)
    → EveryRunIsLawfulUntilRefused moving draws
    → RequestsEnterExactlyWhereAllowed (theory moving draws)
    → ((seen : R → State (ContextState S F L) W) → AnEventLoopIsARun ways steps tells polls (theory moving draws) seen awaits)
    → WhatAnEventLoopDoesIsLawful moving draws ways steps tells polls awaits
is_lawful moving draws ways steps tells polls awaits every enters runs state_of like limits handler handler_after poller poller_after clock clock_after result serves =
    let run = runs state_of like limits handler handler_after poller poller_after clock clock_after result serves in
    let holds = enters (state_of handler) (state_of handler_after) run.happenings run.answered run.runs in
    record {
      served = run;
      outcomes = holds.0;
      entered = holds.1;
      lawful = λ goes_on. every (state_of handler) (state_of handler_after) run.happenings run.answered goes_on run.runs;
    }
