use Rattle.std.proofs.Common.{sym, ap, ◌∙◌}
use Rattle.std.specs.Option.{option_copied}
use Rattle.sv_script.proofs.NameLemmas.{no_name}
use Rattle.sv_script.proofs.names.name_of.Goals as goal

pub returns-in_default : goal.returns-in_default
returns-in_default c = no_name c.args.kind c.args.text.now (sym c.text_of.ensures ∙ ap option_copied c.in_default.is)
