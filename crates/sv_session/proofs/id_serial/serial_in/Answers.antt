use Rattle.std.proofs.Common.{◌∙◌, ap, drop, length, take}
use Rattle.sv_session.proofs.IdLemmas.{id_len}
use Rattle.sv_session.proofs.SerialLemmas.{first_part, joined, last_part, refused, second_part}
use Rattle.sv_session.proofs.id_serial.serial_in.Goals as goal

pub returns-then-id-ne-ID_BYTES : goal.returns-then-id-ne-ID_BYTES
returns-then-id-ne-ID_BYTES c = λ words serial same. c.if-id-ne-ID_BYTES.true (ap length same ∙ id_len words serial)

pub returns-in_err-_first : goal.returns-in_err-_first
returns-in_err-_first c =
    refused _ c.args.id.now c.from_residual.result c.from_residual.ensures
    (λ words serial same. c.in_err-_first.ensures words.0 (ap (take 16) same ∙ first_part words serial))

pub returns-in_err-_second : goal.returns-in_err-_second
returns-in_err-_second c =
    refused _ c.args.id.now c.from_residual-in_err-_second.result c.from_residual-in_err-_second.ensures
    (λ words serial same. c.in_err-_second.ensures words.1 (ap (λ text. take 16 (drop 16 text)) same ∙ second_part words serial))

pub returns-in_err-serial : goal.returns-in_err-serial
returns-in_err-serial c =
    refused _ c.args.id.now c.from_residual-in_err-serial.result c.from_residual-in_err-serial.ensures
    (λ words serial same. c.in_err-serial.ensures serial (last_part c.args.id.now words serial same))

pub returns : goal.returns
returns c = (
  c.in_ok-serial.ensures.0,
  (c.in_ok-_first._first, c.in_ok-_second._second),
  joined c.args.id.now c.in_ok-_first._first c.in_ok-_second._second c.in_ok-serial.serial c.in_ok-_first.ensures.1 c.in_ok-_second.ensures.1 c.in_ok-serial.ensures.1,
)
