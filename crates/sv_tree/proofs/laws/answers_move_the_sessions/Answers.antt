use Rattle.sv_tree.proofs.Moving.{answers_move, gives_moves, hears_moves, makes_moves, moved_joins}
use Rattle.sv_tree.proofs.laws.answers_move_the_sessions.Goals as goal

pub returns-clause-answers : goal.returns-clause-answers
returns-clause-answers c =
    answers_move c.changes_are_calls.ensures c.changes_move_the_sessions.ensures c.components_keep_the_sessions.ensures.joins

pub returns-clause-steps : goal.returns-clause-steps
returns-clause-steps c = (
  gives_moves,
  makes_moves c.changes_are_calls.ensures c.changes_move_the_sessions.ensures c.components_keep_the_sessions.ensures.joins,
  hears_moves,
)

pub returns-clause-join : goal.returns-clause-join
returns-clause-join c = moved_joins c.components_keep_the_sessions.ensures.joins
