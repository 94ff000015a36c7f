use Rattle.std.proofs.Common.{None, cond, ap, ◌∙◌}
use Rattle.std.specs.Str.{bytes_eq}
use Rattle.sv_session.specs.Ids.{number_at}
use Rattle.sv_session.proofs.IndexLemmas.{updated}
use Rattle.sv_session.proofs.index.Index.remove.Goals as goal

pub returns : goal.returns
returns c = λ other.
    updated c.as_bytes.result.now c.args.self.now.numbers c.remove.new.self None c.remove.ensures.updates other
    ∙ ap (λ bs. cond (bytes_eq bs other) None (number_at c.args.self.now other)) c.as_bytes.ensures.value
