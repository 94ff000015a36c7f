use Rattle.std.proofs.Common.{ℕ, List, reverse, ap, ◌∙◌}
use Rattle.httparse.specs.Grammar.{skip_ows, trim_ows}
use Rattle.sv_message.proofs.members.trim_blanks.Goals as goal

pub returns : goal.returns
unfolding trim_ows
returns c = c.trim_end.ensures ∙ ap (λ (bytes : List ℕ). reverse (skip_ows (reverse bytes))) c.trim_start.ensures
