use Rattle.std.proofs.Common.{subst}
use Rattle.sv_wire.specs.Next.{IsHeadAt}
use Rattle.sv_wire.proofs.PendingLemmas.{head_refused, head_expecting}
use Rattle.sv_wire.proofs.read_items.next_behind.Goals as goal

pub next_behind_accepted-requires-clause-head : goal.next_behind_accepted-requires-clause-head
next_behind_accepted-requires-clause-head c =
    subst (IsHeadAt c.args.stream.now c.args.start c.args.end) c.in-Accepted.is c.requires.head

pub returns-in-Refused : goal.returns-in-Refused
returns-in-Refused c =
    head_refused c.args.stream.now c.args.start c.args.end c.args.judgement c.requires.order c.requires.within c.requires.head
    c.in-Refused.fault c.in-Refused.is

pub returns-in_ok-pending-in-Expecting : goal.returns-in_ok-pending-in-Expecting
returns-in_ok-pending-in-Expecting c =
    head_expecting c.args.stream.now c.args.start c.args.end c.args.judgement c.requires.order c.requires.within c.requires.head
    c.in-Expecting.owed c.in_ok-pending-in-Expecting.pending c.in-Expecting.is c.in_ok-pending-in-Expecting.ensures
