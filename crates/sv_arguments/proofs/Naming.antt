-- Arguments that name a command.
use Rattle.std.proofs.Common.{◌≡◌, ℕ, Bool, true, false, List, ◌∷◌, Option, Some, None, codes, inl, inr, refl, sym, ap, subst, drop, ◌∙◌}
use Rattle.std.proofs.lemmas.Bool.{false≢true}
use Rattle.std.specs.Str.{bytes_eq}
use Rattle.sv_arguments.proofs.Decoding.{same_heads}
use Rattle.sv_arguments.specs.Command.{AreWordsOf, AskForHelp, IsNamed}
use Rattle.sv_arguments.specs.declared.command.Command.{Command}
use Rattle.sv_arguments.specs.declared.command.Command.TheVariants.{First, Policy, Uncovered, Audit, Check, Replay, Serve, Run, Ctl, SelfTest, Help, Manual, Version}
use Rattle.sv_arguments.specs.declared.topic.Topic.{Topic}
use Rattle.sv_arguments.specs.declared.topic.Topic.TheVariants as topic
use Rattle.sv_arguments.specs.AuditOptions.{IsAudit}
use Rattle.sv_control_words.specs.ControlRequest.{IsControl}
use Rattle.sv_arguments.specs.RunOptions.{IsAsked}
use Rattle.sv_arguments.specs.Topics.{IsCalled, topic_name}
use Rattle.sv_arguments.specs.Values.{Finds}
use Rattle.sv_arguments.specs.declared.audit_options.AuditOptions.{AuditOptions}
use Rattle.sv_control_words.specs.declared.control_request.ControlRequest.{ControlRequest}
use Rattle.sv_arguments.specs.declared.run_options.RunOptions.{RunOptions}

module _ (words : List (List ℕ)) where
  -- arguments that begin with another name are not those of a command with this name
  other_name : (own : List ℕ) → bytes_eq own own ≡ true → (name : List ℕ) (others : List (List ℕ))
      → own ∷ words ≡ name ∷ others → bytes_eq name own ≡ false → ⊥
  other_name own itself name others same other =
      let Same : List ℕ → Bool = λ word. bytes_eq word own in
      false≢true (sym other ∙ (ap Same (sym (same_heads own name words others same).0) ∙ itself))

  -- no other command has these arguments
  pub only_run : ((any : RunOptions) → IsAsked words any → ⊥) → (command : Command) → AreWordsOf (codes "run" ∷ words) command → ⊥
  only_run none (First deny) is = cc
  only_run none (Policy question) is = cc
  only_run none (Uncovered config) is = cc
  only_run none (Audit options) (rest, same, asked) = cc
  only_run none (Check config) is = cc
  only_run none (Replay config) is = cc
  only_run none (Serve service) is = cc
  only_run none (Run options) (rest, same, asked) =
      none options (subst (λ w. IsAsked w options) (sym (ap (drop 1) same)) asked)
  only_run none (Ctl request) (rest, same, asked) = other_name (codes "run") refl (codes "ctl") rest same refl
  only_run none (SelfTest config) is = cc
  only_run none (Help about) is = is
  only_run none (Manual manual) is = cc
  only_run none Version (word, same, inl is) = cc
  only_run none Version (word, same, inr is) = cc

  pub only_audit : ((any : AuditOptions) → IsAudit words any → ⊥) → (command : Command) → AreWordsOf (codes "audit" ∷ words) command → ⊥
  only_audit none (First deny) is = other_name (codes "audit") refl (codes "first") _ is refl
  only_audit none (Policy question) is = other_name (codes "audit") refl (codes "policy") _ is refl
  only_audit none (Uncovered config) is = other_name (codes "audit") refl (codes "uncovered") _ is refl
  only_audit none (Audit options) (rest, same, asked) =
      none options (subst (λ w. IsAudit w options) (sym (ap (drop 1) same)) asked)
  only_audit none (Check config) is = other_name (codes "audit") refl (codes "check") _ is refl
  only_audit none (Replay config) is = other_name (codes "audit") refl (codes "replay") _ is refl
  only_audit none (Serve service) is = other_name (codes "audit") refl (codes "serve") _ is refl
  only_audit none (Run options) (rest, same, asked) = other_name (codes "audit") refl (codes "run") rest same refl
  only_audit none (Ctl request) (rest, same, asked) = other_name (codes "audit") refl (codes "ctl") rest same refl
  only_audit none (SelfTest config) is = other_name (codes "audit") refl (codes "selftest") _ is refl
  only_audit none (Help about) is = is
  only_audit none (Manual manual) is = other_name (codes "audit") refl (codes "help") _ is refl
  only_audit none Version (word, same, inl is) = other_name (codes "audit") refl word _ same (ap (λ (name : List ℕ). bytes_eq name (codes "audit")) is)
  only_audit none Version (word, same, inr is) = other_name (codes "audit") refl word _ same (ap (λ (name : List ℕ). bytes_eq name (codes "audit")) is)

  pub only_ctl : ((any : ControlRequest) → IsControl words any → ⊥) → (command : Command) → AreWordsOf (codes "ctl" ∷ words) command → ⊥
  only_ctl none (First deny) is = cc
  only_ctl none (Policy question) is = cc
  only_ctl none (Uncovered config) is = cc
  only_ctl none (Audit options) (rest, same, asked) = cc
  only_ctl none (Check config) is = cc
  only_ctl none (Replay config) is = cc
  only_ctl none (Serve service) is = cc
  only_ctl none (Run options) (rest, same, asked) = other_name (codes "ctl") refl (codes "run") rest same refl
  only_ctl none (Ctl request) (rest, same, asked) =
      none request (subst (λ w. IsControl w request) (sym (ap (drop 1) same)) asked)
  only_ctl none (SelfTest config) is = cc
  only_ctl none (Help about) is = is
  only_ctl none (Manual manual) is = cc
  only_ctl none Version (word, same, inl is) = cc
  only_ctl none Version (word, same, inr is) = cc

module _ (word : List ℕ) (rest words : List (List ℕ)) (same : words ≡ word ∷ rest) (none : (topic : Topic) → IsCalled word topic → ⊥) where
  begins : (name : List ℕ) (others : List (List ℕ)) → words ≡ name ∷ others → word ≡ name
  begins name others is = (same_heads word name rest others (sym same ∙ is)).0

  -- the words of a command begin with one that calls it
  pub not_called : (command : Command) → AreWordsOf words command → ⊥
  not_called (First deny) is = none topic.First (begins (topic_name topic.First) _ is)
  not_called (Policy question) is = none topic.Policy (begins (topic_name topic.Policy) _ is)
  not_called (Uncovered config) is = none topic.Uncovered (begins (topic_name topic.Uncovered) _ is)
  not_called (Audit options) is = none topic.Audit (begins (topic_name topic.Audit) is.0 is.1)
  not_called (Check config) is = none topic.Check (begins (topic_name topic.Check) _ is)
  not_called (Replay config) is = none topic.Replay (begins (topic_name topic.Replay) _ is)
  not_called (Serve service) is = none topic.Serve (begins (topic_name topic.Serve) _ is)
  not_called (Run options) is = none topic.Run (begins (topic_name topic.Run) is.0 is.1)
  not_called (Ctl request) is = none topic.Ctl (begins (topic_name topic.Ctl) is.0 is.1)
  not_called (SelfTest config) is = none topic.SelfTest (begins (topic_name topic.SelfTest) _ is)
  not_called (Help about) is = is
  not_called (Manual manual) is = none topic.Help (inl (begins (codes "help") _ is))
  not_called Version (only, is, calls) =
      let Calls : List ℕ → Type 0 = λ name. IsCalled name topic.Version in none topic.Version (subst Calls (sym (begins only _ is)) calls)

module _ (words : List (List ℕ)) (no_help : (about : Option Topic) → AskForHelp words about → ⊥) where
  no_other : (command : Command) → IsNamed words command → AreWordsOf words command
  no_other (Help about) named = no_help about named
  no_other other named = named.0

  is_named : (command : Command) → AreWordsOf words command → IsNamed words command
  is_named (Help about) is = absurd is
  is_named other is = (is, no_help)

  -- arguments that ask for no help name the command whose words they are
  pub named_by_words : (found : Option Command) → Finds (AreWordsOf words) found → Finds (IsNamed words) found
  named_by_words None finds = (tt, λ any named. finds.1 any (no_other any named))
  named_by_words (Some command) finds = (is_named command finds.0, λ any named. refl)
