-- Access over TLS (Jakarta Servlet 6.0, section 13.8).
use Rattle.std.specs.Prelude.{◌≡◌, ◌≢◌, ℕ, List, map, Option}
use Rattle.sv_realm.specs.declared.caller.Caller.{Caller}
use Rattle.sv_constraints.specs.Decision.{why_of}
use Rattle.sv_constraints.specs.Verdict.{verdict}
use Rattle.sv_constraints.specs.declared.cause.Cause.TheVariants.{Transport}
use Rattle.sv_constraints.specs.declared.constraint.Constraint.{Constraint}
use Rattle.sv_constraints.specs.declared.constraint.Rules.{Rules}
use Rattle.sv_constraints.specs.declared.constraint.Transport.TheVariants.{Absent}

-- A constraint without its transport requirement.
abbrev pub secured : Constraint → Constraint
secured constraint = record constraint { transport = Absent }

abbrev pub secure : List Constraint → List Constraint
secure constraints = map secured constraints

-- Dropping the transport requirements changes only verdicts about the transport, and no verdict is about it afterwards.
abbrev pub OnlyTransportChanges : Type 0
OnlyTransportChanges = (constraints : List Constraint) (rules : Rules) (method path : List ℕ) (caller : Option Caller) →
    ((why_of (verdict constraints rules method path caller)).cause ≢ Transport → verdict (secure constraints) rules method path caller ≡ verdict constraints rules method path caller)
    × ((why_of (verdict (secure constraints) rules method path caller)).cause ≢ Transport)
