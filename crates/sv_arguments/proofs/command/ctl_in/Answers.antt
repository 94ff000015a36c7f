use Rattle.std.proofs.Common.{map, string_bytes}
use Rattle.std.proofs.lemmas.Bool.{false≢true}
use Rattle.sv_arguments.proofs.Naming.{only_ctl}
use Rattle.sv_arguments.proofs.command.ctl_in.Goals as goal

pub returns-in-None : goal.returns-in-None
returns-in-None c = (
  tt,
  λ any words. absurd (only_ctl (map string_bytes c.args.arguments.now) (λ request is. false≢true (c.in-None.ensures.1 request is)) any words),
)
