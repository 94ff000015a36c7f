-- Connections that are accepted and served one after another.
use Rattle.std.specs.Prelude.{◌≡◌, ◌⊎◌, ℕ, zero, suc, ◌+◌, ◌<◌, Result, Ok, Err}
use Rattle.sv_connection.specs.Connection.{Connects}
use Rattle.sv_connection.specs.declared.over.Over.{Over}
use Rattle.sv_run.specs.Reacting.{Reacting}
use Rattle.sv_run.specs.declared.step_fault.StepFault.{StepFault}
use Rattle.sv_streams.specs.Calls.{Making}
use Rattle.sv_connection.specs.declared.acceptor.AcceptFailed.{AcceptFailed}
use Rattle.sv_run.specs.RunFault.{of_step}
use Rattle.sv_run.specs.declared.run_fault.RunFault.{RunFault}
use Rattle.sv_run.specs.declared.run_fault.RunFault.TheVariants.{Connection}

module _ {R A P C : Type 0} (steps : Reacting R) (accepts : A → Result P AcceptFailed → A → Type 0) (parts : A → P → A → Type 0) (makes : Making P)
    (tells : C → ℕ → C → Type 0) where
  -- A connection was accepted, served under its number with this result, and its stream closed.
  pub record Courses (number : ℕ) (before : R) (acceptor : A) (clock : C) (answer : Result Over StepFault) (after : R) (acceptor_after : A) (clock_after : C) : Type 0 where
    pub peer : P
    pub acceptor_between : A
    pub is_accepted : accepts acceptor (Ok peer) acceptor_between
    pub peer_after : P
    pub parted : parts acceptor_between peer_after acceptor_after
    pub connects : Connects steps makes tells number before peer clock answer after peer_after clock_after

  -- No connection was accepted.
  pub record IsNotAccepted (before : R) (acceptor : A) (clock : C) (fault : RunFault) (after : R) (acceptor_after : A) (clock_after : C) : Type 0 where
    pub failed : AcceptFailed
    pub is_failed : accepts acceptor (Err failed) acceptor_after
    pub is_fault : fault ≡ Connection
    pub same : after ≡ before
    pub same_clock : clock_after ≡ clock

  -- The connection of this number is accepted and ends, or it is not accepted, or one of its events is refused.
  abbrev pub ServesNext : ℕ → R → A → C → Result (Unit {0}) RunFault → R → A → C → Type 0
  ServesNext number before acceptor clock (Ok done) after acceptor_after clock_after =
      (over : Over) × Courses number before acceptor clock (Ok over) after acceptor_after clock_after
  ServesNext number before acceptor clock (Err fault) after acceptor_after clock_after =
      IsNotAccepted before acceptor clock fault after acceptor_after clock_after
      ⊎ ((refusal : StepFault) × (fault ≡ of_step refusal) × Courses number before acceptor clock (Err refusal) after acceptor_after clock_after)

  module _ (before : R) (acceptor : A) (clock : C) where
    -- This many connections were served one after another, numbered from 1.
    abbrev pub AreServed : ℕ → R → A → C → Type 0
    AreServed zero after acceptor_after clock_after = (after ≡ before) × (acceptor_after ≡ acceptor) × (clock_after ≡ clock)
    AreServed (suc served) after acceptor_after clock_after =
        (between : R) × (acceptor_between : A) × (clock_between : C) × AreServed served between acceptor_between clock_between
        × ServesNext (served + 1) between acceptor_between clock_between (Ok tt) after acceptor_after clock_after

    -- All connections are served, or some are and the next one fails.
    abbrev pub ServesUpTo : ℕ → Result (Unit {0}) RunFault → R → A → C → Type 0
    ServesUpTo count (Ok done) after acceptor_after clock_after = AreServed count after acceptor_after clock_after
    ServesUpTo count (Err fault) after acceptor_after clock_after =
        (served : ℕ) × (served < count) × (between : R) × (acceptor_between : A) × (clock_between : C)
        × AreServed served between acceptor_between clock_between
        × ServesNext (served + 1) between acceptor_between clock_between (Err fault) after acceptor_after clock_after

  abbrev pub Serves : ℕ → R → A → C → Result (Unit {0}) RunFault → R → A → C → Type 0
  Serves count before acceptor clock result after acceptor_after clock_after = ServesUpTo before acceptor clock count result after acceptor_after clock_after
