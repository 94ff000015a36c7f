-- The arguments of the command `policy`.
use Rattle.std.specs.Prelude.{ℕ, List, ◌∷◌}
use Rattle.sv_program.specs.Arguments.{optional_words}
use Rattle.sv_arguments.specs.declared.question.Question.{Question}

abbrev pub question_words : Question → List (List ℕ)
question_words question = question.config.now ∷ question.method.now ∷ question.target.now ∷ optional_words question.user
