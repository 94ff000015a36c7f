use Rattle.std.proofs.Common.{ap, sym, ◌∙◌}
use Rattle.std.specs.Str.{bytes_eq}
use Rattle.sv_saved_sessions.proofs.Signing.{other_code, too_short}
use Rattle.sv_saved_sessions.proofs.reading.signed_content.Goals as goal

pub returns-then-bytes-lt-CODE_BYTES : goal.returns-then-bytes-lt-CODE_BYTES
returns-then-bytes-lt-CODE_BYTES c = too_short c.args.key.now c.args.bytes.now c.if-bytes-lt-CODE_BYTES.true

pub returns-else-same_bytes : goal.returns-else-same_bytes
returns-else-same_bytes c =
    other_code c.args.key.now c.args.bytes.now c.split_at.result.0.now c.split_at.result.1.now c.split_at.ensures.front c.split_at.ensures.back
    (sym (c.if-same_bytes.ensures ∙ ap (λ code. bytes_eq code c.split_at.result.1.now) c.hmac_sha256_of.ensures))
