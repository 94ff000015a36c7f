use Rattle.std.proofs.Common.{◌≡◌, map}
use Rattle.form_urlencoded.specs.Parse.{raw_pairs_left}
use Rattle.sv_message.specs.Parameters.{first_named, parameters_of, text_of}
use Rattle.sv_message.proofs.parameters.first_of_query.Given as goal

abbrev pub invariant-loop-key : goal.invariant-loop-key
invariant-loop-key l =
    (goal.iterator-loop-key).can_next l.key-iterator × (goal.iterator-loop-key).is_finite l.key-iterator
    × (first_named l.name (map (λ (name, value). (text_of name, text_of value)) (raw_pairs_left l.key-iterator)) ≡ first_named l.name (parameters_of l.query))
