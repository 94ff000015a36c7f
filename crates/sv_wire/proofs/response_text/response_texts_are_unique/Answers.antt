use Rattle.std.proofs.Common.{◌∙◌, sym}
use Rattle.httpdate.proofs.Theorems.{unix_secs_injective}
use Rattle.sv_wire.specs.ResponseText.{response_head}
use Rattle.sv_wire.proofs.response_text.response_texts_are_unique.Goals as goal

pub returns : goal.returns
unfolding response_head
returns c response head_only keep moment first second is_first is_second =
    rw (unix_secs_injective first second (is_first ∙ sym is_second))
