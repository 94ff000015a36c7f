use Rattle.sv_saved_sessions.proofs.FileLaws.{file_names_context}
use Rattle.sv_saved_sessions.proofs.laws.a_written_context_is_read.Goals as goal

pub returns : goal.returns
returns c = file_names_context
