use Rattle.sv_arguments.proofs.WordCounts.{take_their_words, takes_manuals}
use Rattle.sv_arguments.proofs.usage.commands_take_their_words.Goals as goal

pub returns-clause-words : goal.returns-clause-words
returns-clause-words c = take_their_words

pub returns-clause-manuals : goal.returns-clause-manuals
returns-clause-manuals c = takes_manuals
