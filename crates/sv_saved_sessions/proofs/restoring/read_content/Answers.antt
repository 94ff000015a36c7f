use Rattle.std.proofs.Common.{arith}
use Rattle.sv_saved_sessions.proofs.Parts.{found, never_foreign, read_again}
use Rattle.sv_saved_sessions.proofs.restoring.read_content.Goals as goal

pub returns-clause-found : goal.returns-clause-found
returns-clause-found c = found c.args.bytes.now c.parts.result (λ i. omega (arith, c.type_inv.bytes i)) c.parts.ensures

pub returns-clause-only : goal.returns-clause-only
returns-clause-only c = λ moment context can written. read_again c.args.bytes.now c.parts.result moment context c.parts.ensures can written

pub returns-clause-fault : goal.returns-clause-fault
returns-clause-fault c = never_foreign c.args.bytes.now c.parts.result c.parts.ensures
