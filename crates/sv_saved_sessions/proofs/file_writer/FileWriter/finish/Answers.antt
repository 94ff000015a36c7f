use Rattle.sv_saved_sessions.proofs.UpToLemmas.{finished}
use Rattle.sv_saved_sessions.proofs.file_writer.FileWriter.finish.Goals as goal

pub returns : goal.returns
returns g c = λ key moment context start up.
    finished g.O.Stream.makes key moment context start c.args.self c.args.sink.now c.finish.new.sink c.finish.result up (λ k m holds. c.finish.ensures k m holds)
