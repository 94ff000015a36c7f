use Rattle.sv_mapping.proofs.Texts.{extension_found, extension_none}
use Rattle.sv_files.proofs.content_type.extension_of.Goals as goal

pub returns-in_err-extension : goal.returns-in_err-extension
returns-in_err-extension c = rw c.from_residual.ensures (extension_none c.args.path.now c.last_segment.result.now c.last_segment.ensures c.in_err-extension.ensures.cases)

pub returns : goal.returns
returns c = extension_found c.args.path.now c.last_segment.result.now _ c.in_ok-extension.extension.now c.last_segment.ensures c.in_ok-extension.ensures.cases
