-- The commands by their names.
use Rattle.std.proofs.Common.{◌≡◌, ℕ, List, Option, Some, None, map, inl, inr, subst}
use Rattle.std.specs.List.{find}
use Rattle.std.specs.Prelude.{codes}
use Rattle.std.specs.Str.{bytes_eq}
use Rattle.sv_arguments.specs.Topics.{IsCalled, IsHelpOption, topic_name, topics}
use Rattle.sv_arguments.specs.Values.{Finds}
use Rattle.sv_arguments.specs.declared.topic.Topic.{Topic}
use Rattle.sv_arguments.specs.declared.topic.Topic.TheVariants.{First, Policy, Uncovered, Audit, Check, Replay, Serve, Run, Ctl, SelfTest, Help, Version}

abbrev pub named : List ℕ → Option (List ℕ)
named word = find (bytes_eq word) (map topic_name topics)

-- every command is found by its name
found : (topic : Topic) → named (topic_name topic) ≡ None → ⊥
found First none = cc
found Policy none = cc
found Uncovered none = cc
found Audit none = cc
found Check none = cc
found Replay none = cc
found Serve none = cc
found Run none = cc
found Ctl none = cc
found SelfTest none = cc
found Help none = cc
found Version none = cc

pub not_named : (word : List ℕ) → named word ≡ None → (topic : Topic) → word ≡ topic_name topic → ⊥
not_named word none topic same = let Is : List ℕ → Type 0 = λ name. named name ≡ None in found topic (subst Is same none)

-- a command is called by its name
pub by_name : (word : List ℕ) (topic : Topic) → word ≡ topic_name topic → IsCalled word topic
by_name word Help same = inl same
by_name word Version same = inl same
by_name word other same = same

module _ (word : List ℕ) (no_help : IsHelpOption word → ⊥) (no_version : word ≡ codes "--version" → ⊥) where
  -- any other word calls only the command with that name
  only_name : (topic : Topic) → IsCalled word topic → word ≡ topic_name topic
  only_name Help (inl same) = same
  only_name Help (inr option) = absurd (no_help option)
  only_name Version (inl same) = same
  only_name Version (inr option) = absurd (no_version option)
  only_name other same = same

  pub calls_named : (found : Option Topic) → Finds (λ topic. word ≡ topic_name topic) found → Finds (IsCalled word) found
  calls_named None finds = (tt, λ any called. finds.1 any (only_name any called))
  calls_named (Some topic) finds = (by_name word topic finds.0, λ any called. finds.1 any (only_name any called))
