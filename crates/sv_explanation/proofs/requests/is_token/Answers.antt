use Rattle.std.proofs.Common.{◌≡◌}
use Rattle.sv_policy.proofs.Methods.{is_token_text}
use Rattle.sv_explanation.proofs.requests.is_token.Goals as goal

pub returns : goal.returns
returns c =
    let bytes : c.as_bytes.result.now ≡ c.args.text.now = c.as_bytes.ensures.value in
    rw bytes at (is_token_text c.is_token.result c.as_bytes.result.now c.is_token.ensures)
