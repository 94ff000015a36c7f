use Rattle.std.proofs.Common.{◌≡◌, take, codes}
use Rattle.std.specs.List.{fold}
use Rattle.sv_message.specs.declared.length.Lengths.TheVariants.{Nothing}
use Rattle.sv_message.specs.Lengths.{length_with}
use Rattle.sv_message.specs.Fields.{parts_by_name}
use Rattle.sv_message.proofs.length.see_fields.Given as goal

abbrev pub invariant-loop-field : goal.invariant-loop-field
invariant-loop-field l = l.seen ≡ fold length_with Nothing (parts_by_name (codes "content-length") (take l.field-index l.fields))
