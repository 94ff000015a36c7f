use Rattle.std.proofs.Common.{◌≡◌, codes}
use Rattle.std.specs.Option.{option_or}
use Rattle.form_urlencoded.specs.Parse.{raw_pairs_left}
use Rattle.sv_message.specs.Parameters.{first_named, parameters_of, texts_of}
use Rattle.sv_login.proofs.credentials.Credentials.of_form.Given as goal

-- The value found before, or otherwise the first in the remaining fields, is the first in all fields.
abbrev pub invariant-loop-key : goal.invariant-loop-key
invariant-loop-key l = record {
  name_kept : option_or l.name (first_named (codes "j_username") (texts_of (raw_pairs_left l.key-iterator))) ≡ first_named (codes "j_username") (parameters_of l.form);
  password_kept : option_or l.password (first_named (codes "j_password") (texts_of (raw_pairs_left l.key-iterator))) ≡ first_named (codes "j_password") (parameters_of l.form);
}
