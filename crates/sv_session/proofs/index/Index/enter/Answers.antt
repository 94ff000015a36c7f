use Rattle.std.proofs.Common.{Some, cond, ap, ◌∙◌}
use Rattle.std.specs.Str.{bytes_eq}
use Rattle.sv_session.specs.Ids.{number_at}
use Rattle.sv_session.proofs.IndexLemmas.{updated}
use Rattle.sv_session.proofs.index.Index.enter.Goals as goal

pub returns-clause-entered : goal.returns-clause-entered
returns-clause-entered c = λ other.
    updated c.in_ok-key.key.items c.args.self.now.numbers c.insert.new.self (Some c.args.number) c.in-Ok.ensures.updates other
    ∙ ap (λ bs. cond (bytes_eq bs other) (Some c.args.number) (number_at c.args.self.now other)) (c.in_ok-key.ensures.items ∙ c.as_bytes.ensures.value)
