use Rattle.sv_run.proofs.Feedings as lemmas
use Rattle.sv_run.proofs.laws.feedings_may_be_cut.Goals as goal

pub returns : goal.returns
returns c before after first second items = (lemmas.feeds_in_parts before after first second items, lemmas.feeds_whole before after first second items)
