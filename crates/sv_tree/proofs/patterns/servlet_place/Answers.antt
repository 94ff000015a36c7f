use Rattle.std.proofs.Common.{sym, ◌∙◌}
use Rattle.std.specs.Str.{bytes_eq}
use Rattle.sv_descriptor.specs.declared.servlet.ServletEntry.{ServletEntry}
use Rattle.sv_tree.proofs.Beside.{place-none, place-some}
use Rattle.sv_tree.proofs.patterns.servlet_place.Goals as goal

pub returns-in-Some : goal.returns-in-Some
returns-in-Some c = place-some (λ (servlet : ServletEntry). bytes_eq servlet.servlet_name c.args.name.now) c.args.servlets.now c.in-Some.place (sym c.declared_place.ensures ∙ c.in-Some.is)

pub returns-in-None : goal.returns-in-None
returns-in-None c = place-none (λ (servlet : ServletEntry). bytes_eq servlet.servlet_name c.args.name.now) c.args.servlets.now (sym c.declared_place.ensures ∙ c.in-None.is)
