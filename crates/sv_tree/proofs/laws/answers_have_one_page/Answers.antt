use Rattle.sv_tree.proofs.Answering.{answers_have_one_page}
use Rattle.sv_tree.proofs.laws.answers_have_one_page.Goals as goal

pub returns : goal.returns
returns c = answers_have_one_page
