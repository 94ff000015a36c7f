-- The pair of a pattern by the constraints on it.
use Rattle.std.proofs.lemmas.Bool.{or_parts}
use Rattle.std.proofs.Common.{◌≡◌, ℕ, Bool, true, false, sym, not, ◌||◌, cond, List, [], ◌∷◌, ◌++◌, append-nil, map, refl, ap, ap₂, ◌∙◌, Option, None, Some, is_some}
use Rattle.std.specs.Prelude.{Err, Ok, OnOk, Result, filter, fold}
use Rattle.std.specs.Option.{option_to_list}
use Rattle.std.specs.List.{list_any}
use Rattle.sv_constraints.specs.Covering.{covers}
use Rattle.sv_constraints.specs.Verdict.{is_open, least_number, least_where, permits_plain, precludes}
use Rattle.sv_constraints.specs.declared.constraint.Constraint.{Constraint}
use Rattle.sv_policy.proofs.Listed.{covers_listed, filter_within}
use Rattle.sv_policy.specs.Covering.{covers_unnamed, named_methods}
use Rattle.sv_policy.specs.Patterns.{lists_pattern}
use Rattle.sv_audit.proofs.FocusLemmas.{any_of_focused, covering_focused, named_focused, others_focused, passing_focused}
use Rattle.sv_audit.proofs.Made.{named_of_all, unnamed_listed}
use Rattle.sv_audit.specs.Focus.{focused}
use Rattle.sv_policy.proofs.Steps.{filter_same}
use Rattle.sv_policy.specs.Uncovered.{differ, rising}
use Rattle.sv_constraints.specs.declared.constraint.Methods.{Methods}
use Rattle.sv_constraints.specs.declared.constraint.Methods.TheVariants.{Except, Only}
use Rattle.sv_findings.specs.Opened.{is_opened, is_restricted, lesser_pair, opened_by, opened_for, opened_methods, opened_on, opened_pair, pair_of}
use Rattle.sv_findings.specs.declared.finding.Finding.{Finding}
use Rattle.sv_findings.specs.declared.finding.Finding.TheVariants as finding

fold_agree : (f g : List ℕ → Option (ℕ × ℕ)) → ((m : List ℕ) → f m ≡ g m) → (names : List (List ℕ)) (found : Option (ℕ × ℕ)) → fold (λ least m. lesser_pair least (f m)) found names ≡ fold (λ least m. lesser_pair least (g m)) found names
fold_agree f g same [] found = refl
fold_agree f g same (name ∷ names) found =
    ap (λ pair. fold (λ least m. lesser_pair least (f m)) (lesser_pair found pair) names) (same name) ∙ fold_agree f g same names (lesser_pair found (g name))

-- ---- Constraints that have the same pairs and name the same methods.
module _ (members constraints : List Constraint) (pattern : List ℕ) (named_same : (method : List ℕ) → opened_for members pattern (Some method) ≡ opened_for constraints pattern (Some method))
    (others_same : opened_for members pattern None ≡ opened_for constraints pattern None) (named_are : named_methods members pattern ≡ named_methods constraints pattern) where
  abbrev names : List (List ℕ)
  names = rising (named_methods constraints pattern)

  same_names : rising (named_methods members pattern) ≡ names
  same_names = ap rising named_are

  same_pair : opened_pair members pattern ≡ opened_pair constraints pattern
  unfolding opened_pair
  same_pair =
      ap₂ lesser_pair
      (ap (fold (λ least method. lesser_pair least (opened_for members pattern (Some method))) None) same_names
      ∙ fold_agree (λ method. opened_for members pattern (Some method)) (λ method. opened_for constraints pattern (Some method)) named_same names None)
      others_same

  others_some : is_some (opened_for members pattern None) ≡ is_some (opened_for constraints pattern None)
  others_some = ap is_some others_same

  methods_with : (test other : List ℕ → Bool) → ((m : List ℕ) → test m ≡ other m) → filter test (rising (named_methods members pattern)) ≡ filter other names
  methods_with test other same = ap (filter test) same_names ∙ filter_same test other same names

  same_methods : opened_methods members pattern ≡ opened_methods constraints pattern
  unfolding opened_methods
  same_methods =
      ap (λ others. cond others (Except (filter (λ m. not (is_opened members pattern m)) (rising (named_methods members pattern)))) (Only (filter (is_opened members pattern) (rising (named_methods members pattern))))) others_some
      ∙ ap₂ (λ exceptions ones. cond (is_some (opened_for constraints pattern None)) (Except exceptions) (Only ones))
      (methods_with (λ m. not (is_opened members pattern m)) (λ m. not (is_opened constraints pattern m)) (λ m. ap (λ pair. not (is_some pair)) (named_same m)))
      (methods_with (is_opened members pattern) (is_opened constraints pattern) (λ m. ap is_some (named_same m)))

  same_on : opened_on members pattern ≡ opened_on constraints pattern
  same_on = ap₂ (λ methods pairs. map (λ (pair : ℕ × ℕ). finding.Opened pattern methods pair.0 pair.1) (option_to_list pairs)) same_methods same_pair

module _ (constraints : List Constraint) (pattern : List ℕ) where
  pub opened_of_all : (members : List Constraint) → members ≡ filter (λ c. lists_pattern c pattern) constraints → opened_on members pattern ≡ opened_on constraints pattern
  opened_of_all members are =
      ap (λ ms. opened_on ms pattern) are
      ∙ same_on (filter (λ c. lists_pattern c pattern) constraints) constraints pattern
      (λ method. ap opened_by (filter_within (λ c. covers c pattern method) (λ c. lists_pattern c pattern) (covers_listed pattern method) constraints))
      (ap opened_by (filter_within (λ c. covers_unnamed c pattern) (λ c. lists_pattern c pattern) (unnamed_listed pattern) constraints)) (named_of_all pattern constraints)

  by_focused : (members : List Constraint) → opened_by (map (focused pattern) members) ≡ opened_by members
  by_focused members =
      rw (passing_focused pattern precludes members, any_of_focused pattern permits_plain members, passing_focused pattern is_open members, passing_focused pattern is_restricted members)

  pub opened_focused : opened_on (map (focused pattern) constraints) pattern ≡ opened_on constraints pattern
  opened_focused =
      same_on (map (focused pattern) constraints) constraints pattern
      (λ method. ap opened_by (covering_focused pattern method constraints) ∙ by_focused (filter (λ c. covers c pattern method) constraints))
      (ap opened_by (others_focused pattern constraints) ∙ by_focused (filter (λ c. covers_unnamed c pattern) constraints)) (named_focused pattern constraints)

-- ---- Without a constraint that lets everyone in, or without one that restricts, nothing is opened.
none_at : (test : Constraint → Bool) (b : Bool) (c : Constraint) (members : List Constraint) → test c ≡ false → filter test members ≡ [] → filter test (cond b (c ∷ members) members) ≡ []
none_at test true c members is below = ap (λ b. cond b (c ∷ filter test members) (filter test members)) is ∙ below
none_at test false c members is below = below

none_kept : (test keep : Constraint → Bool) (members : List Constraint) → list_any test members ≡ false → filter test (filter keep members) ≡ []
none_kept test keep [] none = refl
none_kept test keep (c ∷ members) none =
    none_at test (keep c) c (filter keep members) ((or_parts (test c) (list_any test members) none).0) (none_kept test keep members ((or_parts (test c) (list_any test members) none).1))

no_pair : (barred : Bool) (other : Option ℕ) → cond barred None (pair_of None other) ≡ None
no_pair true other = refl
no_pair false other = refl

no_other : (barred : Bool) (number : Option ℕ) → cond barred None (pair_of number None) ≡ None
no_other true number = refl
no_other false None = refl
no_other false (Some number) = refl

fold_none : (names : List (List ℕ)) → fold (λ least (m : List ℕ). lesser_pair least None) None names ≡ None
fold_none [] = refl
fold_none (name ∷ names) = fold_none names

module _ (members : List Constraint) (pattern : List ℕ) (by_none : (keep : Constraint → Bool) → opened_by (filter keep members) ≡ None) where
  no_pair_on : opened_pair members pattern ≡ None
  unfolding opened_pair
  no_pair_on =
      ap₂ lesser_pair
      (fold_agree (λ method. opened_for members pattern (Some method)) (λ method. None) (λ method. by_none (λ c. covers c pattern method)) (rising (named_methods members pattern)) None ∙ fold_none (rising (named_methods members pattern)))
      (by_none (λ c. covers_unnamed c pattern))

  none_opened : opened_on members pattern ≡ []
  none_opened = ap (λ pairs. map (λ (pair : ℕ × ℕ). finding.Opened pattern (opened_methods members pattern) pair.0 pair.1) (option_to_list pairs)) no_pair_on

  none_pushed : (findings : List Finding) → findings ≡ findings ++ opened_on members pattern
  none_pushed findings = sym (append-nil findings) ∙ ap (λ more. findings ++ more) (sym none_opened)

module _ (members : List Constraint) where
  abbrev is_barred : (Constraint → Bool) → Bool
  is_barred keep = is_some (least_where precludes (filter keep members)) || not (list_any permits_plain (filter keep members))

  without_open : list_any is_open members ≡ false → (keep : Constraint → Bool) → opened_by (filter keep members) ≡ None
  without_open none keep =
      ap (λ open_ones. cond (is_barred keep) None (pair_of (least_number open_ones) (least_where is_restricted (filter keep members)))) (none_kept is_open keep members none)
      ∙ no_pair (is_barred keep) (least_where is_restricted (filter keep members))

  without_restricted : list_any is_restricted members ≡ false → (keep : Constraint → Bool) → opened_by (filter keep members) ≡ None
  without_restricted none keep =
      ap (λ restricted. cond (is_barred keep) None (pair_of (least_where is_open (filter keep members)) (least_number restricted))) (none_kept is_restricted keep members none)
      ∙ no_other (is_barred keep) (least_where is_open (filter keep members))

  pub nothing_pushed : (pattern : List ℕ) → list_any is_open members ≡ false → (findings : List Finding) → findings ≡ findings ++ opened_on members pattern
  nothing_pushed pattern none = none_pushed members pattern (without_open none)

  pub nothing_unrestricted : (pattern : List ℕ) → list_any is_restricted members ≡ false → (findings : List Finding) → findings ≡ findings ++ opened_on members pattern
  nothing_unrestricted pattern none = none_pushed members pattern (without_restricted none)

-- ---- The opened methods from the methods that differ from those that are not named.
differ_true : (a : Bool) → differ a true ≡ not a
differ_true true = refl
differ_true false = refl

differ_false : (a : Bool) → differ a false ≡ a
differ_false true = refl
differ_false false = refl

module _ (members : List Constraint) (pattern : List ℕ) (names : List (List ℕ)) where
  abbrev chosen : Bool → Methods
  chosen others = cond others (Except (filter (λ m. not (is_opened members pattern m)) (rising (named_methods members pattern)))) (Only (filter (is_opened members pattern) (rising (named_methods members pattern))))

  abbrev AreExceptions : Bool → Type 0
  AreExceptions others = names ≡ filter (λ m. differ (is_opened members pattern m) others) (rising (named_methods members pattern))

  pub all_except : (others : Bool) → others ≡ is_some (opened_for members pattern None) → others ≡ true → AreExceptions others → Except names ≡ opened_methods members pattern
  unfolding opened_methods
  all_except others is has are =
      ap Except (are ∙ ap (λ b. filter (λ m. differ (is_opened members pattern m) b) (rising (named_methods members pattern))) has ∙ filter_same (λ m. differ (is_opened members pattern m) true) (λ m. not (is_opened members pattern m)) (λ m. differ_true (is_opened members pattern m)) (rising (named_methods members pattern)))
      ∙ ap chosen (sym has ∙ is)

  pub only_these : (others : Bool) → others ≡ is_some (opened_for members pattern None) → others ≡ false → AreExceptions others → Only names ≡ opened_methods members pattern
  unfolding opened_methods
  only_these others is has are =
      ap Only (are ∙ ap (λ b. filter (λ m. differ (is_opened members pattern m) b) (rising (named_methods members pattern))) has ∙ filter_same (λ m. differ (is_opened members pattern m) false) (is_opened members pattern) (λ m. differ_false (is_opened members pattern m)) (rising (named_methods members pattern)))
      ∙ ap chosen (sym has ∙ is)

-- What holds unless memory ran out, and what follows from it.
pub on_ok_map : {A E P Q : Type 0} (result : Result A E) → (P → Q) → OnOk result P → OnOk result Q
on_ok_map (Ok x) f is = f is
on_ok_map (Err e) f is = is
