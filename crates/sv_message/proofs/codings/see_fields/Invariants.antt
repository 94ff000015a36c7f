use Rattle.std.proofs.Common.{◌≡◌, take, codes}
use Rattle.std.specs.List.{fold}
use Rattle.sv_message.specs.declared.codings.Seen.TheVariants.{Nothing}
use Rattle.sv_message.specs.Seen.{seen_with}
use Rattle.sv_message.specs.Fields.{parts_by_name}
use Rattle.sv_message.proofs.codings.see_fields.Given as goal

abbrev pub invariant-loop-field : goal.invariant-loop-field
invariant-loop-field l = l.seen ≡ fold seen_with Nothing (parts_by_name (codes "transfer-encoding") (take l.field-index l.fields))
