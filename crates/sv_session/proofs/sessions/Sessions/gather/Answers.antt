use Rattle.std.proofs.Common.{◌∙◌, ap}
use Rattle.sv_session.specs.Slots.{living}
use Rattle.sv_session.proofs.KeptLemmas.{kept_gathered, living_filtered}
use Rattle.sv_session.proofs.StoreLemmas.{store_seen, with_store}
use Rattle.sv_session.proofs.sessions.Sessions.gather.Goals as goal

pub invariant_of-self-2 : goal.invariant_of-self-2
invariant_of-self-2 c =
    kept_gathered c.self.inside.serial c.self.inside.count c.self.inside.slots.items c.close_gaps.new.slots.items c.self.inside.ids c.self.inside.queue c.close_gaps.new.queue c.self.invariant
    c.in_ok-close_gaps.ensures.slots c.in_ok-close_gaps.ensures.queue

pub returns : goal.returns
returns c =
    with_store c.self.view_is
    (ap (λ all. record { limit = c.self.inside.limit; interval = c.self.inside.interval; serial = c.self.inside.serial; sessions = living all }) c.in_ok-close_gaps.ensures.slots
    ∙ (ap (λ all. record { limit = c.self.inside.limit; interval = c.self.inside.interval; serial = c.self.inside.serial; sessions = all }) (living_filtered c.self.inside.slots.items) ∙ store_seen c.self.view_is))
