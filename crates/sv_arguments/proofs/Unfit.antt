-- The form of a report that another server excludes.
use Rattle.std.proofs.Common.{◌≡◌, ℕ, ◌≤◌, true, false, List, [], ◌∷◌, Option, Some, None, IfSome, length, refl, sym, ap, subst, arith, ◌∙◌}
use denote.Ref.{Bor}
use Rattle.std.proofs.lemmas.Bool.{false≢true}
use Rattle.sv_arguments.proofs.Decoding.{same_heads, some_word}
use Rattle.sv_arguments.proofs.One.{formats_one}
use Rattle.sv_arguments.proofs.Walking.{unset}
use Rattle.sv_arguments.specs.AuditWords.{IsFormat, IsUnfit}
use Rattle.sv_arguments.specs.Given.{IsFirst}
use Rattle.sv_arguments.specs.Options.{HasUnfit}
use Rattle.sv_arguments.specs.Settings.{Setting, is_given, values}
use Rattle.sv_arguments.specs.Values.{Finds}
use Rattle.sv_arguments.specs.declared.key.Key.TheVariants.{Diff, Format}
use Rattle.sv_audit_command.specs.declared.access_options.Format as report
use Rattle.sv_audit_command.specs.declared.access_options.Format.TheVariants.{Text, Json, Html, Keys}

is_format : (form : report.Format) (word : List ℕ) → IsUnfit word form → IsFormat word form
is_format Text word unfit = absurd unfit
is_format Json word unfit = absurd unfit
is_format Html word unfit = unfit
is_format Keys word unfit = unfit

pub one_value : (words : List (List ℕ)) (name : Bor (List ℕ)) → length words ≤ 1 → IsFirst words (Some name) → words ≡ name.now ∷ []
one_value [] name once is = absurd is
one_value (word ∷ []) name once is = ap (λ (first : List ℕ). first ∷ []) (sym is)
one_value (word ∷ second ∷ words) name once is = absurd (omega arith)

module _ (settings : List Setting) where
  -- only one form is excluded
  pub one_unfit : (a b : report.Format) → HasUnfit settings a → HasUnfit settings b → a ≡ b
  one_unfit a b (word, is, unfit, given) (other, same, bad, more) =
      let Is : List ℕ → Type 0 = λ text. IsFormat text a in
      let heads = same_heads word other [] [] (sym is ∙ same) in
      formats_one other a b (subst Is heads.0 (is_format a word unfit)) (is_format b other bad)

  pub none_without_server : is_given settings Diff ≡ false → Finds (HasUnfit settings) None
  none_without_server none = (tt, λ form (word, is, unfit, given). absurd (false≢true (sym none ∙ given)))

  pub none_without_form : IsFirst (values Format settings) None → Finds (HasUnfit settings) None
  none_without_form first =
      (tt, λ form (word, is, unfit, given). absurd (some_word word [] (sym (unset (values Format settings) None first refl) ∙ is)))

  module _ (name : Bor (List ℕ)) (one : values Format settings ≡ name.now ∷ []) (given : is_given settings Diff ≡ true) where
    has_unfit : (found : Option report.Format) → IfSome found (IsUnfit name.now) → IfSome found (HasUnfit settings)
    has_unfit None unfit = tt
    has_unfit (Some form) unfit = (name.now, one, unfit, given)

    own_unfit : (form : report.Format) → HasUnfit settings form → IsUnfit name.now form
    own_unfit form (word, is, unfit, more) =
        let Is : List ℕ → Type 0 = λ text. IsUnfit text form in
        subst Is (same_heads word name.now [] [] (sym is ∙ one)).0 unfit

    pub finds_unfit : (found : Option report.Format) → Finds (IsUnfit name.now) found → Finds (HasUnfit settings) found
    finds_unfit found finds = (has_unfit found finds.0, λ form has. finds.1 form (own_unfit form has))
