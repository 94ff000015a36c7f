use Rattle.std.proofs.Common.{sym, arith, subst}
use Rattle.sv_wire.specs.declared.read_items.Next.TheVariants.{Found, AwaitsHead, AwaitsBody}
use Rattle.sv_wire.specs.Next.{ComesNext}
use Rattle.sv_wire.proofs.ReadingLemmas.{read_to_head, read_to_body, read_more}
use Rattle.sv_wire.proofs.read_items.read_items.Goals as goal

pub returns-in-AwaitsHead-clause-reads : goal.returns-in-AwaitsHead-clause-reads
returns-in-AwaitsHead-clause-reads c =
    let next : ComesNext c.loop-start.body c.args.stream.now c.loop-start.at (AwaitsHead c.in-AwaitsHead.start) =
    subst (λ n. ComesNext c.loop-start.body c.args.stream.now c.loop-start.at n) c.in-AwaitsHead.is c.in_ok-start.ensures in
    read_to_head c.args.stream.now c.loop-start.items.items c.loop-start.body c.loop-start.at c.loop-start.invariant.0 c.in-AwaitsHead.start next

pub returns-in-AwaitsBody-clause-reads : goal.returns-in-AwaitsBody-clause-reads
returns-in-AwaitsBody-clause-reads c =
    let next : ComesNext c.loop-start.body c.args.stream.now c.loop-start.at (AwaitsBody c.in-AwaitsBody.pending) =
    subst (λ n. ComesNext c.loop-start.body c.args.stream.now c.loop-start.at n) c.in-AwaitsBody.is c.in_ok-start.ensures in
    read_to_body c.args.stream.now c.loop-start.items.items c.loop-start.body c.loop-start.at c.loop-start.invariant.0 c.in-AwaitsBody.pending next

pub loop-start-preserved : goal.loop-start-preserved
loop-start-preserved c =
    let next : ComesNext c.loop-start.body c.args.stream.now c.loop-start.at (Found c.in-Found.item c.in-Found.next c.in-Found.end) =
    subst (λ n. ComesNext c.loop-start.body c.args.stream.now c.loop-start.at n) c.in-Found.is c.in_ok-start.ensures in
    rw c.in_ok-push-in-Found.ensures.items (
      read_more c.args.stream.now c.loop-start.items.items c.loop-start.body c.loop-start.at c.loop-start.invariant.0
          c.in-Found.item c.in-Found.next c.in-Found.end next (sym c.if-is_last.ensures),
      λ k below. absurd (omega arith),
    )
