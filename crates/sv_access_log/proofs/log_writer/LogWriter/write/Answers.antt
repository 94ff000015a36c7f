use Rattle.std.proofs.Common.{inl}
use Rattle.sv_access_log.proofs.log_writer.LogWriter.write.Goals as goal

pub returns-in-Ok : goal.returns-in-Ok
returns-in-Ok g c = inl (c.in-Ok.scene, c.in-Ok.ensures, c.write_scene.ensures)
