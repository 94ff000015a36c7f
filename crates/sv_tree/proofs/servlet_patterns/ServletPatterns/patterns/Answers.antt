use Rattle.std.proofs.Common.{ap, sym, ◌∙◌}
use Rattle.sv_tree.proofs.Beside.{texts-beside, texts_of}
use Rattle.sv_tree.proofs.servlet_patterns.ServletPatterns.patterns.Goals as goal

pub returns : goal.returns
returns c = c.as_slice.ensures.value ∙ (sym (texts-beside c.self.inside.patterns.items c.self.inside.servlets.items c.self.invariant.1) ∙ ap texts_of c.self.view_is)
