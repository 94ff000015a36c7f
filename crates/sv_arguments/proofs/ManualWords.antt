-- Arguments that name a manual.
use Rattle.std.proofs.Common.{◌≡◌, ℕ, Bool, true, false, ◌||◌, List, ◌∷◌, Option, Some, None, IfSome, codes, inl, inr, refl, sym, ap, subst, ◌∙◌}
use Rattle.std.proofs.lemmas.Bool.{false≢true}
use Rattle.std.specs.Str.{bytes_eq}
use Rattle.sv_arguments.proofs.Decoding.{same_heads}
use Rattle.sv_arguments.specs.Command.{AreWordsOf, IsManualAfter}
use Rattle.sv_arguments.specs.Topics.{IsCalled}
use Rattle.sv_arguments.specs.Values.{Finds}
use Rattle.sv_arguments.specs.declared.command.Command.{Command}
use Rattle.sv_arguments.specs.declared.command.Command.TheVariants.{First, Policy, Uncovered, Audit, Check, Replay, Serve, Run, Ctl, SelfTest, Help, Manual, Version}
use Rattle.sv_arguments.specs.declared.topic.Topic.{Topic}
use Rattle.sv_arguments.specs.declared.topic.Topic.TheVariants as topic

abbrev is_help : List ℕ → Bool
is_help word = bytes_eq word (codes "help") || (bytes_eq word (codes "--help") || bytes_eq word (codes "-h"))

called_help : (word : List ℕ) → IsCalled word topic.Help → is_help word ≡ true
called_help word (inl same) = ap is_help same
called_help word (inr (inl same)) = ap is_help same
called_help word (inr (inr same)) = ap is_help same

module _ (word : List ℕ) (rest : List (List ℕ)) (calls : IsCalled word topic.Help) where
  other_name : (name : List ℕ) (others : List (List ℕ)) → word ∷ rest ≡ name ∷ others → is_help name ≡ false → ⊥
  other_name name others is other =
      false≢true (sym other ∙ ap is_help (sym (same_heads word name rest others is).0) ∙ called_help word calls)

  -- a command that `help` begins is a manual
  only_manual : (command : Command) → AreWordsOf (word ∷ rest) command → IsManualAfter (word ∷ rest) command
  only_manual (First deny) is = other_name (codes "first") _ is refl
  only_manual (Policy question) is = other_name (codes "policy") _ is refl
  only_manual (Uncovered config) is = other_name (codes "uncovered") _ is refl
  only_manual (Audit options) (others, is, asked) = other_name (codes "audit") others is refl
  only_manual (Check config) is = other_name (codes "check") _ is refl
  only_manual (Replay config) is = other_name (codes "replay") _ is refl
  only_manual (Serve service) is = other_name (codes "serve") _ is refl
  only_manual (Run options) (others, is, asked) = other_name (codes "run") others is refl
  only_manual (Ctl request) (others, is, asked) = other_name (codes "ctl") others is refl
  only_manual (SelfTest config) is = other_name (codes "selftest") _ is refl
  only_manual (Help about) is = is
  only_manual (Manual manual) is = is
  only_manual Version (name, is, inl same) = other_name name _ is (ap is_help same)
  only_manual Version (name, is, inr same) = other_name name _ is (ap is_help same)

is_named : (words : List (List ℕ)) (found : Option Command) → IfSome found (IsManualAfter words) → IfSome found (AreWordsOf words)
is_named words None is = is
is_named words (Some (First deny)) is = absurd is
is_named words (Some (Policy question)) is = absurd is
is_named words (Some (Uncovered config)) is = absurd is
is_named words (Some (Audit options)) is = absurd is
is_named words (Some (Check config)) is = absurd is
is_named words (Some (Replay config)) is = absurd is
is_named words (Some (Serve service)) is = absurd is
is_named words (Some (Run options)) is = absurd is
is_named words (Some (Ctl request)) is = absurd is
is_named words (Some (SelfTest config)) is = absurd is
is_named words (Some (Help about)) is = absurd is
is_named words (Some (Manual manual)) is = is
is_named words (Some Version) is = absurd is

-- what is found after `help` is the command that the arguments name
pub help_words : (text other : List ℕ) (rest words : List (List ℕ)) (found : Option Command) (kind : Topic)
    → words ≡ text ∷ rest → words ≡ other ∷ rest → IsCalled text kind → kind ≡ topic.Help
    → Finds (IsManualAfter (other ∷ rest)) found → Finds (AreWordsOf words) found
help_words text other rest words found kind same again calls is finds =
    let heads : text ≡ other = (same_heads text other rest rest (sym same ∙ again)).0 in
    let called : IsCalled other topic.Help = subst (λ word. IsCalled word topic.Help) heads (subst (IsCalled text) is calls) in (
      is_named words found (subst (λ each. IfSome found (IsManualAfter each)) (sym again) finds.0),
      λ any named. finds.1 any (only_manual other rest called any (subst (λ each. AreWordsOf each any) again named)),
    )
