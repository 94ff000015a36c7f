use Rattle.std.proofs.Common.{map, string_bytes}
use Rattle.std.proofs.lemmas.Bool.{false≢true}
use Rattle.sv_arguments.proofs.Naming.{named_by_words}
use Rattle.sv_arguments.proofs.command.Command.parse.Goals as goal

pub returns-in-None : goal.returns-in-None
returns-in-None c =
    named_by_words (map string_bytes c.args.arguments.now) (λ about asks. false≢true (c.in-None.ensures.1 about asks)) c.command_in.result c.command_in.ensures
