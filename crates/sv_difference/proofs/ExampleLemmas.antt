-- A request for the example of a reported difference has another outcome before than after.
use Rattle.std.proofs.lemmas.List.Elements.{All-map}
use Rattle.std.proofs.Common.{◌≡◌, ℕ, true, false, List, [], ◌∷◌, ◌++◌, refl, ap, ap₂, ◌∙◌, inl, Option, None, Some}
use Rattle.std.specs.Prelude.{All}
use Rattle.sv_mapping.specs.Segments.{is_rooted}
use Rattle.sv_mapping.specs.Within.{path_within}
use Rattle.sv_mapping.proofs.Tried.{In}
use Rattle.sv_constraints.specs.Covering.{covers_method}
use Rattle.sv_audit.proofs.ExampleLemmas.{own}
use Rattle.sv_audit.proofs.Members.{all_from, in_along}
use Rattle.sv_audit.specs.Configurations.{best_of}
use Rattle.sv_difference.proofs.DifferenceLemmas.{row_rooted, some_method}
use Rattle.sv_difference.proofs.ServerLemmas.{example_at, right_at}
use Rattle.sv_difference.specs.DifferenceLaws.{DifferencesAreRight, IsOf, IsRight}
use Rattle.sv_difference.specs.DifferenceText.{example_of}
use Rattle.sv_difference.specs.ExampleLaws.{IsChanged, ReportedExamplesAreChanged, SameOutcomesHaveNoDifferences}
use Rattle.sv_difference.specs.ServerDifference.{compared_paths, context_at, difference_at, differences_between, server_difference}
use Rattle.sv_difference.specs.ServerLaws.{HaveSameOutcomes, HaveUrlPatterns, IsServed, LoginTest, configuration_of}
use Rattle.sv_difference.specs.declared.contexts.ComparedContext.{ComparedContext}
use Rattle.sv_difference.specs.declared.contexts.ContextDifference.{ContextDifference}
use Rattle.sv_difference.specs.declared.difference.Difference.{Difference}

module _ (right : DifferencesAreRight) (befores afters : List ComparedContext) (befores_url : HaveUrlPatterns befores) (afters_url : HaveUrlPatterns afters) (its_path : List ℕ) (difference : Difference) where
  abbrev whole : List ℕ
  whole = its_path ++ difference.path

  module _ (before after : ComparedContext) (at : context_at befores its_path ≡ Some before) (there : context_at afters its_path ≡ Some after) (found : In difference (difference_at befores afters its_path).differences) where
    is_of : (method : List ℕ) → IsRight (configuration_of before) (configuration_of after) difference → covers_method difference.methods method ≡ true
        → IsOf (configuration_of before) (configuration_of after) difference method (path_within its_path whole)
    is_of method is covers =
        let on = example_at right befores afters its_path before after befores_url afters_url at there difference found in
        record {
          rooted = ap is_rooted on.within ∙ row_rooted difference.path is.rooted;
          before = ap (best_of (configuration_of before)) on.within ∙ is.before;
          after = ap (best_of (configuration_of after)) on.within ∙ is.after;
          covered = covers;
        }

    is_served : (logs_in : LoginTest) (method : List ℕ) → IsRight (configuration_of before) (configuration_of after) difference → covers_method difference.methods method ≡ true → logs_in method whole ≡ false
        → IsServed befores afters its_path (configuration_of before) (configuration_of after) difference logs_in method whole
    is_served logs_in method is covers passes =
        let on = example_at right befores afters its_path before after befores_url afters_url at there difference found in
        record {
          chosen_before = on.before;
          chosen_after = on.after;
          shown = on.unhidden;
          decided = passes;
          is_of = is_of method is covers;
        }

    changed_in : IsChanged befores afters its_path difference
    changed_in =
        let known = right_at right befores afters its_path before after befores_url afters_url at there difference found in
        let on = example_at right befores afters its_path before after befores_url afters_url at there difference found in
        let one = some_method difference.methods known.0.some in
        record {
          canon = record { path = whole; query = None };
          given = own whole on.read_back;
          chosen_before = on.before;
          chosen_after = on.after;
          shown = on.unhidden;
          visitor = known.1.0;
          some = one.0;
          covered = one.1;
          changed = λ logs_in method covers passes. known.1.1 logs_in method whole (is_served logs_in method known.0 covers passes);
        }

  changed_at : In difference (difference_at befores afters its_path).differences → IsChanged befores afters its_path difference
  changed_at found = go (context_at befores its_path) (context_at afters its_path) refl refl
    where
      go : (a b : Option ComparedContext) → context_at befores its_path ≡ a → context_at afters its_path ≡ b → IsChanged befores afters its_path difference
      go None b at there = absurd (in_along (difference_at befores afters its_path).differences [] difference (ap₂ (λ a b. differences_between befores afters its_path a b) at there) found)
      go (Some before) None at there =
          absurd (in_along (difference_at befores afters its_path).differences [] difference (ap₂ (λ a b. differences_between befores afters its_path a b) at there) found)
      go (Some before) (Some after) at there = changed_in before after at there found

  same_at : HaveSameOutcomes befores afters → In difference (difference_at befores afters its_path).differences → ⊥
  same_at same found =
      let is = changed_at found in
      is.changed (λ method path. false) is.some is.covered refl (same (λ method path. false) (example_of its_path difference) is.canon is.some is.visitor is.given)

-- What holds of each difference at each context path holds of those of the report.
of_report : (P : List ℕ → Difference → Type 0) (befores afters : List ComparedContext) → ((its_path : List ℕ) (difference : Difference) → In difference (difference_at befores afters its_path).differences → P its_path difference)
    → All (λ (context : ContextDifference). All (P context.path) context.differences) (server_difference befores afters).contexts
of_report P befores afters each =
    All-map (λ (context : ContextDifference). All (P context.path) context.differences) (difference_at befores afters) (compared_paths befores afters)
    (all_from (λ path. All (P path) (difference_at befores afters path).differences) (compared_paths befores afters) (λ path there. all_from (P path) (difference_at befores afters path).differences (each path)))

pub examples_changed : DifferencesAreRight → ReportedExamplesAreChanged
examples_changed right befores afters befores_url afters_url =
    of_report (λ path difference. IsChanged befores afters path difference) befores afters (changed_at right befores afters befores_url afters_url)

none_of : {X : Type 0} (xs : List X) → ((x : X) → In x xs → ⊥) → xs ≡ []
none_of [] never = refl
none_of (x ∷ xs) never = absurd (never x (inl refl))

pub none_at : DifferencesAreRight → (befores afters : List ComparedContext) → HaveUrlPatterns befores → HaveUrlPatterns afters → HaveSameOutcomes befores afters → (path : List ℕ) → (difference_at befores afters path).differences ≡ []
none_at right befores afters befores_url afters_url same path =
    none_of (difference_at befores afters path).differences (λ difference. same_at right befores afters befores_url afters_url path difference same)

pub none_if_same : DifferencesAreRight → SameOutcomesHaveNoDifferences
none_if_same right befores afters befores_url afters_url same =
    All-map (λ (context : ContextDifference). context.differences ≡ []) (difference_at befores afters) (compared_paths befores afters)
    (all_from (λ path. (difference_at befores afters path).differences ≡ []) (compared_paths befores afters) (λ path there. none_at right befores afters befores_url afters_url same path))
