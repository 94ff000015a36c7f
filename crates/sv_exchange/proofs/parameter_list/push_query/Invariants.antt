use Rattle.std.proofs.Common.{◌≡◌, ◌++◌}
use Rattle.form_urlencoded.specs.Parse.{raw_pairs_left}
use Rattle.sv_message.specs.Parameters.{parameters_of, texts_of}
use Rattle.sv_exchange.proofs.parameter_list.push_query.Given as goal

abbrev pub invariant-loop-key : goal.invariant-loop-key
invariant-loop-key l =
    (goal.iterator-loop-key).can_next l.key-iterator × (goal.iterator-loop-key).is_finite l.key-iterator
    × (l.parameters.items ++ texts_of (raw_pairs_left l.key-iterator) ≡ l.initial.parameters.items ++ parameters_of l.query)
