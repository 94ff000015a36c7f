use Rattle.std.proofs.Common.{◌≡◌, drop, map}
use Rattle.std.specs.List.{find}
use Rattle.std.specs.Str.{bytes_eq}
use Rattle.sv_arguments.proofs.Called.{named}
use Rattle.sv_arguments.proofs.topic.Topic.named.Given as goal
use Rattle.sv_arguments.specs.Topics.{topic_name}

abbrev pub invariant-loop-topic : goal.invariant-loop-topic
invariant-loop-topic l = find (bytes_eq l.word) (map topic_name (drop l.topic-index l.topic-items)) ≡ named l.word
