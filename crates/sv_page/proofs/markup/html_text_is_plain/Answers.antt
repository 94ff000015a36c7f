use Rattle.sv_page.proofs.MarkupLemmas.{text_is_plain}
use Rattle.sv_page.proofs.markup.html_text_is_plain.Goals as goal

pub returns : goal.returns
returns c = text_is_plain
