use Rattle.sv_listening.proofs.LineEnds as lemmas
use Rattle.sv_listening.proofs.bounds.pieces_are_parts.Goals as goal

pub returns : goal.returns
returns c = lemmas.pieces_are_parts
