use Rattle.std.proofs.Common.{◌≡◌, map, take}
use Rattle.sv_arguments.proofs.unknown_names.command_names.Given as goal
use Rattle.sv_arguments.specs.Topics.{topic_name}

abbrev pub invariant-loop-topic : goal.invariant-loop-topic
invariant-loop-topic l = map (λ name. name.now) l.names.items ≡ map topic_name (take l.topic-index l.topic-items)
