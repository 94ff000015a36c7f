use Rattle.std.proofs.Common.{Some}
use Rattle.sv_session.proofs.ExpiryOrderLemmas.{last_place, pushed}
use Rattle.sv_session.proofs.expiry_queue.Queue.push.Goals as goal

pub put-requires : goal.put-requires
put-requires c = rw (c.in-Ok.ensures.wider, c.len-place.ensures) (last_place c.args.self.now (Some c.args.due)).0

pub returns-clause-added : goal.returns-clause-added
returns-clause-added c =
    pushed c.args.self.now c.widen.new.self c.put.new.self c.len-place.result c.args.due c.len-place.ensures c.in-Ok.ensures.wider c.put.ensures
