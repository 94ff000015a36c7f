use Rattle.sv_context.proofs.laws.an_expiry_leaves_none_expired.Goals as goal

pub returns : goal.returns
returns g c = λ moment before after noted noted_after expires.
    let laws = c.expiry_ends_exactly_the_expired_sessions.ensures in
    (laws.none moment after.store).0 (laws.again moment before.store after.store expires.ended expires.ends)
