use Rattle.std.proofs.Common.{List, ℕ, OnOk, subst}
use Rattle.sv_wire.specs.Inbox.{Held}
use Rattle.sv_run.specs.HostConnections.{FeedsOne}
use Rattle.sv_run.specs.Connections.{connections_of}
use Rattle.sv_run.proofs.HostFeedings.{feeds_one}
use Rattle.sv_run.proofs.connections.Connections.feed.Goals as goal

pub returns : goal.returns
returns c =
    subst (λ (entries : List (ℕ × Held)). OnOk c.feed-fed.result (FeedsOne (connections_of entries) c.args.number c.args.piece.now c.feed-fed.new.items.items (connections_of (c.get_mut.follows.lender c.feed-fed.new.self).entries)))
    c.self.view_is
    (feeds_one c.self.inside.inboxes.entries c.args.number c.args.piece.now c.feed-fed.result c.feed-fed.new.items.items c.in-Some.inbox.now c.feed-fed.new.self
    (c.get_mut.follows.lender c.feed-fed.new.self).entries (c.get_mut.follows.holds c.feed-fed.new.self).0
    c.in-Some.ensures.value c.feed-fed.ensures.reads c.feed-fed.ensures.spent)
