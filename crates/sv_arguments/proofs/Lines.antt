-- The second line about the arguments of commands that have options.
use Rattle.std.proofs.Common.{◌≡◌, ℕ, List, ◌∷◌, Some, Result, Ok, Err, codes, ap, subst, sym, ◌∙◌}
use Rattle.std.specs.Prelude.{IfOk}
use Rattle.sv_arguments.specs.Command.{NameNothing}
use Rattle.sv_arguments.specs.AuditOptions.{IsAudit}
use Rattle.sv_arguments.specs.RunOptions.{IsAsked}
use Rattle.sv_arguments.specs.Topics.{IsCalled}
use Rattle.sv_arguments.specs.Usage.{IsOptionLine, IsUsageLine}
use Rattle.sv_arguments.specs.Values.{Finds}
use Rattle.sv_arguments.specs.declared.command.Command.TheVariants.{Audit, Help, Run}
use Rattle.sv_arguments.specs.declared.audit_options.AuditOptions.{AuditOptions}
use Rattle.sv_arguments.specs.declared.option_set.OptionSet.TheVariants as set
use Rattle.sv_arguments.specs.declared.run_options.RunOptions.{RunOptions}
use Rattle.sv_arguments.specs.declared.topic.Topic.TheVariants as topic

pub all_ok : {A E : Type 0} (Says : A → Type 0) (result : Result A E) → ((a : A) → Says a) → IfOk result Says
all_ok Says (Ok a) says = says a
all_ok Says (Err fault) says = tt

pub more_ok : {A E : Type 0} (Says More : A → Type 0) (result : Result A E) → ((a : A) → Says a → More a) → IfOk result Says → IfOk result More
more_ok Says More (Ok a) more says = more a says
more_ok Says More (Err fault) more says = tt

-- arguments that name nothing are no valid arguments of `run`
none_asked : (words arguments : List (List ℕ)) → words ≡ codes "run" ∷ arguments → NameNothing words → (options : RunOptions) → IsAsked arguments options → ⊥
none_asked words arguments same nothing options asked = nothing (Run options) ((arguments, same, asked), λ about asks. nothing (Help about) asks)

pub run_line : (words arguments : List (List ℕ)) (word line : List ℕ) → words ≡ word ∷ arguments → Finds (IsCalled word) (Some topic.Run)
    → (((options : RunOptions) → IsAsked arguments options → ⊥) → IsOptionLine set.Run arguments line) → NameNothing words → IsUsageLine words line
run_line words arguments word line same calls says nothing =
    let Is : List (List ℕ) → Type 0 = λ all. IsUsageLine all line in
    let named : words ≡ codes "run" ∷ arguments = same ∙ ap (λ (name : List ℕ). name ∷ arguments) calls.0 in
    subst Is (sym same) (Some topic.Run, calls, says (none_asked words arguments named nothing))

-- arguments that name nothing are no valid arguments of `audit`
none_audit : (words arguments : List (List ℕ)) → words ≡ codes "audit" ∷ arguments → NameNothing words → (options : AuditOptions) → IsAudit arguments options → ⊥
none_audit words arguments same nothing options asked = nothing (Audit options) ((arguments, same, asked), λ about asks. nothing (Help about) asks)

pub audit_line : (words arguments : List (List ℕ)) (word line : List ℕ) → words ≡ word ∷ arguments → Finds (IsCalled word) (Some topic.Audit)
    → (((options : AuditOptions) → IsAudit arguments options → ⊥) → IsOptionLine set.Audit arguments line) → NameNothing words → IsUsageLine words line
audit_line words arguments word line same calls says nothing =
    let Is : List (List ℕ) → Type 0 = λ all. IsUsageLine all line in
    let named : words ≡ codes "audit" ∷ arguments = same ∙ ap (λ (name : List ℕ). name ∷ arguments) calls.0 in
    subst Is (sym same) (Some topic.Audit, calls, says (none_audit words arguments named nothing))
