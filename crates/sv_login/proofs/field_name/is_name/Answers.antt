use Rattle.std.proofs.Common.{rules, arith}
use Rattle.form_urlencoded.specs.Form.{decode}
use Rattle.sv_login.proofs.NameLemmas.{lossy_name, too_short}
use Rattle.sv_login.proofs.field_name.is_name.Goals as goal

pub returns-then-encoded-name : goal.returns-then-encoded-name
returns-then-encoded-name c =
    let same = lossy_name (decode c.args.encoded.now) c.args.name.now c.requires in search rules

pub returns-else-encoded-name : goal.returns-else-encoded-name
returns-else-encoded-name c =
    let same = lossy_name (decode c.args.encoded.now) c.args.name.now c.requires in
    let short = too_short c.args.encoded.now c.args.name.now (omega arith) in search rules
