use Rattle.std.proofs.Common.{◌≡◌, map, take, Some}
use Rattle.sv_report.specs.AnswerWords.{servlet_text}
use Rattle.sv_report.proofs.answer_words.servlet_texts.Given as goal

abbrev pub invariant-loop-name : goal.invariant-loop-name
invariant-loop-name l = l.texts.items ≡ map (λ name. servlet_text (Some name)) (take l.name-index l.names)
