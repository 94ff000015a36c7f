use Rattle.std.specs.Str.{bytes_eq}
use Rattle.sv_policy.proofs.Grouping.{seen_pushed}
use Rattle.sv_policy.specs.Groups.{items_in}
use Rattle.sv_audit.proofs.method_index.enter_at.Goals as goal

pub returns : goal.returns
returns c = λ q. seen_pushed (items_in c.push_member.new.found q) (items_in c.args.found.now q) (bytes_eq q c.args.name.now) c.args.member (c.in_ok-push_member.ensures q)
