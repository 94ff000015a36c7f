use Rattle.std.proofs.Common.{rules}
use Rattle.sv_message.specs.Phrases.{phrase_of}
use Rattle.sv_dispatch.proofs.Phrases.{no_phrase}
use Rattle.sv_dispatch.proofs.plain_answer.phrase_of.Goals as goal

pub returns-in-Ok : goal.returns-in-Ok
unfolding phrase_of
returns-in-Ok c = search rules

pub returns-in-Err : goal.returns-in-Err
returns-in-Err c = no_phrase c.args.status (λ is. c.in-Err.ensures is)
