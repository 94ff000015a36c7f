-- Pairs of constraints of which one opens what the other restricts.
use Rattle.std.proofs.lemmas.Bool.{not-true, cases_Bool, false≢true, or_from}
use Rattle.std.proofs.lemmas.List.Elements.{All-contains_itself, All-head, All-cons, All-tail}
use Rattle.std.proofs.lemmas.List.Folds.{list_any_at}
use Rattle.std.proofs.lemmas.List.{length-replicate}
use Rattle.std.proofs.lemmas.Slice.Eq.{bytes_eq-Decides}
use Rattle.std.proofs.Common.{arith, ◌≡◌, ℕ, ◌+◌, ◌<◌, Bool, true, false, not, ◌||◌, ◌&&◌, ◌==◌, List, [], ◌∷◌, length, map, min, replicate, refl, ap, ap₂, sym, ◌∙◌, cond, Option, None, Some, is_some, inl, inr, ◌⊎◌}
use Rattle.std.specs.Prelude.{All, Contains, filter, fold}
use Rattle.std.specs.List.{list_any}
use Rattle.std.specs.Str.{bytes_eq}
use Rattle.sv_realm.specs.declared.caller.Caller.{Caller}
use Rattle.sv_constraints.proofs.Least.{some_where}
use Rattle.sv_constraints.specs.Covering.{covering, covers, covers_method, lists}
use Rattle.sv_constraints.specs.Verdict.{because, is_open, least_number, least_where, permits_plain, precludes, verdict_at}
use Rattle.sv_constraints.specs.declared.cause.Cause.{Cause}
use Rattle.sv_constraints.specs.declared.cause.Cause.TheVariants as cause
use Rattle.sv_constraints.specs.declared.constraint.Constraint.{Constraint}
use Rattle.sv_constraints.specs.declared.constraint.Rules.{Rules}
use Rattle.sv_constraints.specs.declared.owned_decision.OwnedDecision.TheVariants.{Open, Denied, Login}
use Rattle.sv_constraints.specs.declared.owned_decision.OwnedWhy.{OwnedWhy}
use Rattle.sv_policy.proofs.Best.{any_in, or_right}
use Rattle.sv_constraints.specs.declared.constraint.Methods.TheVariants.{Except, Only}
use Rattle.sv_policy.proofs.Named.{unnamed_members}
use Rattle.sv_policy.proofs.Rising.{rising_lists}
use Rattle.sv_policy.proofs.Steps.{passing_lists}
use Rattle.sv_policy.specs.Covering.{named_methods}
use Rattle.sv_policy.specs.Uncovered.{rising}
use Rattle.sv_findings.specs.FindingLaws.{AreBothOn, IsRestricted}
use Rattle.sv_findings.specs.Opened.{is_below, is_opened, is_restricted, lesser_pair, opened_by, opened_for, opened_methods, opened_pair, pair_of}
use Rattle.sv_audit.specs.Reading.{Kind, NeedsLogin, Passes, kind_and_cause}

-- ---- Pairs.
lesser_is : (one other : Option (ℕ × ℕ)) (pair : ℕ × ℕ) → lesser_pair one other ≡ Some pair → (one ≡ Some pair) ⊎ (other ≡ Some pair)
lesser_is None other pair is = inr is
lesser_is (Some a) None pair is = inl is
lesser_is (Some a) (Some b) pair is = at (is_below b a) is
  where
    at : (below : Bool) → Some (cond below b a) ≡ Some pair → (Some a ≡ Some pair) ⊎ (Some b ≡ Some pair)
    at true h = inr h
    at false h = inl h

lesser_some : (one other : Option (ℕ × ℕ)) → is_some (lesser_pair one other) ≡ (is_some one || is_some other)
lesser_some None other = refl
lesser_some (Some a) None = refl
lesser_some (Some a) (Some b) = refl

module _ (of : List ℕ → Option (ℕ × ℕ)) where
  abbrev least_from : Option (ℕ × ℕ) → List (List ℕ) → Option (ℕ × ℕ)
  least_from found methods = fold (λ least method. lesser_pair least (of method)) found methods

  fold_is : (methods : List (List ℕ)) (found : Option (ℕ × ℕ)) (pair : ℕ × ℕ) → least_from found methods ≡ Some pair → (found ≡ Some pair) ⊎ ((method : List ℕ) × (of method ≡ Some pair))
  fold_is [] found pair is = inl is
  fold_is (m ∷ methods) found pair is =
      elim (fold_is methods (lesser_pair found (of m)) pair is) [
        | inl here ↦ elim (lesser_is found (of m) pair here) [ inl before ↦ inl before | inr one ↦ inr (m, one) ]
        | inr later ↦ inr later
      ]

  or_group : (a b c : Bool) → ((a || b) || c) ≡ (a || (b || c))
  or_group true b c = refl
  or_group false b c = refl

  or_none : (a : Bool) → a ≡ (a || false)
  or_none true = refl
  or_none false = refl

  fold_some : (methods : List (List ℕ)) (found : Option (ℕ × ℕ)) → is_some (least_from found methods) ≡ (is_some found || list_any (λ m. is_some (of m)) methods)
  fold_some [] found = or_none (is_some found)
  fold_some (m ∷ methods) found =
      fold_some methods (lesser_pair found (of m)) ∙ ap (λ b. b || list_any (λ x. is_some (of x)) methods) (lesser_some found (of m))
      ∙ or_group (is_some found) (is_some (of m)) (list_any (λ x. is_some (of x)) methods)

-- ---- Lists.
kept_any_at : {X : Type 0} (test : X → Bool) (b : Bool) (x : X) (xs : List X) → list_any test (cond b (x ∷ xs) xs) ≡ (b && test x || list_any test xs)
kept_any_at test true x xs = refl
kept_any_at test false x xs = refl

pub kept_any : {X : Type 0} (test keep : X → Bool) (xs : List X) → list_any test (filter keep xs) ≡ list_any (λ x. keep x && test x) xs
kept_any test keep [] = refl
kept_any test keep (x ∷ xs) = kept_any_at test (keep x) x (filter keep xs) ∙ ap (λ b. keep x && test x || b) (kept_any test keep xs)

pub contained : {X : Type 0} (test : X → Bool) (xs : List X) (x : X) → Contains xs x → test x ≡ true → list_any test xs ≡ true
contained test xs x there passing = list_any_at test xs there.0 x there.1 (ap test there.2 ∙ passing)

-- ---- A constraint with the least number.
-- What holds of each item that passes holds of all that a filter keeps.
module _ {X : Type 0} (P : X → Type 0) (test : X → Bool) where
  kept_at : (x : X) (xs : List X) (b : Bool) → test x ≡ b → All (λ y. test y ≡ true → P y) (x ∷ xs) → All P (filter test xs) → All P (cond b (x ∷ filter test xs) (filter test xs))
  kept_at x xs true is all rest = All-cons P x (filter test xs) (All-head (λ y. test y ≡ true → P y) x xs all is) rest
  kept_at x xs false is all rest = rest

  pub kept_all : (xs : List X) → All (λ y. test y ≡ true → P y) xs → All P (filter test xs)
  kept_all [] all = λ k d within. absurd (omega (arith, within))
  kept_all (x ∷ xs) all = kept_at x xs (test x) refl all (kept_all xs (All-tail (λ y. test y ≡ true → P y) x xs all))

module _ (P : Constraint → Type 0) where
  abbrev HasNumber : ℕ → Type 0
  HasNumber n = (c : Constraint) × P c × (c.number ≡ n)

  lesser_of : (m n : ℕ) → (min m n ≡ m) ⊎ (min m n ≡ n)
  lesser_of m n = elim (cases_Bool (min m n == m)) [ inl e ↦ inl (grind arith) | inr e ↦ inr (grind arith) ]

  least_of : (xs : List Constraint) (n : ℕ) → HasNumber n → All P xs → HasNumber (fold min n (map (λ (c : Constraint). c.number) xs))
  least_of [] n it all = it
  least_of (x ∷ xs) n it all =
      least_of xs (min n x.number)
      (elim (lesser_of n x.number) [ inl is ↦ (it.0, it.1, it.2 ∙ sym is) | inr is ↦ (x, All-head P x xs all, sym is) ])
      (All-tail P x xs all)

  least_has : (xs : List Constraint) (n : ℕ) → All P xs → least_number xs ≡ Some n → HasNumber n
  least_has [] n all is = cc
  least_has (x ∷ xs) n all is =
      let found : HasNumber (fold min x.number (map (λ (c : Constraint). c.number) xs)) = least_of xs x.number (x, All-head P x xs all, refl) (All-tail P x xs all) in
      let same : fold min x.number (map (λ (c : Constraint). c.number) xs) ≡ n = cc in
      (found.0, found.1, found.2 ∙ same)

-- ---- What opens a method.
module _ (members : List Constraint) where
  abbrev Opens : ℕ → ℕ → Type 0
  Opens number other = (list_any precludes members ≡ false) × (list_any permits_plain members ≡ true) × (least_where is_open members ≡ Some number) × (least_where is_restricted members ≡ Some other)

  pair_is : (one two : Option ℕ) (pair : ℕ × ℕ) → pair_of one two ≡ Some pair → (one ≡ Some pair.0) × (two ≡ Some pair.1)
  pair_is (Some a) (Some b) pair is = let same : (a, b) ≡ pair = cc in (ap (λ (p : ℕ × ℕ). Some p.0) same, ap (λ (p : ℕ × ℕ). Some p.1) same)
  pair_is (Some a) None pair is = cc
  pair_is None two pair is = cc

  opens_at : (pair : ℕ × ℕ) (bars plain : Bool) → is_some (least_where precludes members) ≡ bars → list_any permits_plain members ≡ plain → cond (bars || not plain) None (pair_of (least_where is_open members) (least_where is_restricted members)) ≡ Some pair → Opens pair.0 pair.1
  opens_at pair true plain was is found = cc
  opens_at pair false false was is found = cc
  opens_at pair false true was is found =
      let both : (least_where is_open members ≡ Some pair.0) × (least_where is_restricted members ≡ Some pair.1) = pair_is (least_where is_open members) (least_where is_restricted members) pair found in
      (sym (some_where precludes members) ∙ was, is, both.0, both.1)

  pub opens : (pair : ℕ × ℕ) → opened_by members ≡ Some pair → Opens pair.0 pair.1
  opens pair found = opens_at pair (is_some (least_where precludes members)) (list_any permits_plain members) refl refl found

  pair_some : (one two : Option ℕ) → is_some one ≡ true → is_some two ≡ true → is_some (pair_of one two) ≡ true
  pair_some (Some a) (Some b) h k = refl
  pair_some None two h k = absurd (false≢true h)
  pair_some (Some a) None h k = absurd (false≢true k)

  opened_some : list_any precludes members ≡ false → list_any permits_plain members ≡ true → list_any is_open members ≡ true → list_any is_restricted members ≡ true → is_some (opened_by members) ≡ true
  opened_some bars plain one two =
      ap₂ (λ b p. is_some (cond (b || not p) None (pair_of (least_where is_open members) (least_where is_restricted members)))) (some_where precludes members ∙ bars) plain
      ∙ pair_some (least_where is_open members) (least_where is_restricted members) (some_where is_open members ∙ one) (some_where is_restricted members ∙ two)

  -- ---- The verdict on such a method.
  abbrev causes : Kind → Cause → Kind × Cause
  causes kind reason = (kind, reason)

  some_members : list_any is_open members ≡ true → (length members == 0) ≡ false
  some_members = at members
    where
      at : (xs : List Constraint) → list_any is_open xs ≡ true → (length xs == 0) ≡ false
      at [] some = absurd (false≢true some)
      at (x ∷ xs) some = grind arith

  pub passes : (rules : Rules) (caller : Option Caller) (pattern : List ℕ) (number other : ℕ) → Opens number other → kind_and_cause (verdict_at rules caller (Some pattern) members) ≡ (Passes, cause.Unauthenticated)
  passes rules caller pattern number other it =
      let one : list_any is_open members ≡ true = sym (some_where is_open members) ∙ ap is_some it.2 in
      rw (some_members one, it.0, it.1, one) refl

  -- ---- A method that passes since no authorization constraint is needed.
  abbrev IsFree : Bool → Bool → Bool → Type 0
  IsFree bars plain lets_in = (bars ≡ false) × (plain ≡ true) × (lets_in ≡ true)

  first_true : (empty bars plain lets_in denied : Bool) (one two three four five : OwnedWhy) → one.cause ≡ cause.Uncovered → two.cause ≡ cause.Precluded → three.cause ≡ cause.Transport
      → kind_and_cause (cond empty (cond denied (Denied one) (Open one)) (cond bars (Denied two) (cond (not plain) (Denied three) (cond lets_in (Open four) (Login five))))) ≡ (Passes, cause.Unauthenticated) → IsFree bars plain lets_in
  first_true true bars plain lets_in true one two three four five p q r is = let apart : cause.Uncovered ≡ cause.Unauthenticated = sym p ∙ ap (λ (x : Kind × Cause). x.1) is in cc
  first_true true bars plain lets_in false one two three four five p q r is = let apart : cause.Uncovered ≡ cause.Unauthenticated = sym p ∙ ap (λ (x : Kind × Cause). x.1) is in cc
  first_true false true plain lets_in denied one two three four five p q r is = let apart : cause.Precluded ≡ cause.Unauthenticated = sym q ∙ ap (λ (x : Kind × Cause). x.1) is in cc
  first_true false false false lets_in denied one two three four five p q r is = let apart : cause.Transport ≡ cause.Unauthenticated = sym r ∙ ap (λ (x : Kind × Cause). x.1) is in cc
  first_true false false true false denied one two three four five p q r is = let apart : NeedsLogin ≡ Passes = ap (λ (x : Kind × Cause). x.0) is in cc
  first_true false false true true denied one two three four five p q r is = (refl, refl, refl)

  free_from : (rules : Rules) (pattern : List ℕ) → kind_and_cause (verdict_at rules None (Some pattern) members) ≡ (Passes, cause.Unauthenticated) → IsFree (list_any precludes members) (list_any permits_plain members) (list_any is_open members)
  free_from rules pattern is =
      first_true (length members == 0) (list_any precludes members) (list_any permits_plain members) (list_any is_open members) rules.deny_uncovered (because (Some pattern) None cause.Uncovered) (because (Some pattern) (least_where precludes members) cause.Precluded)
      (because (Some pattern) (least_number members) cause.Transport) (because (Some pattern) (least_where is_open members) cause.Unauthenticated) (because (Some pattern) (least_number members) cause.NeedsCaller) refl refl refl is

-- ---- A method that is not named.
abbrev longest : List (List ℕ) → ℕ
longest [] = 0
longest (name ∷ names) = length name + longest names

too_long : (name text : List ℕ) (same : Bool) → bytes_eq name text ≡ same → length name < length text → same ≡ false
too_long name text true is less = let no : ⊥ = omega (arith, less, ap length ((bytes_eq-Decides name text).0 is)) in absurd no
too_long name text false is less = refl

unlisted : (names : List (List ℕ)) (text : List ℕ) → longest names < length text → lists names text ≡ false
unlisted [] text less = refl
unlisted (name ∷ names) text less =
    or_from (bytes_eq name text) (lists names text) (too_long name text (bytes_eq name text) refl (omega (arith, less))) (unlisted names text (omega (arith, less)))

abbrev pub fresh : List (List ℕ) → List ℕ
fresh names = replicate (longest names + 1) 65

pub is_fresh : (names : List (List ℕ)) → lists names (fresh names) ≡ false
is_fresh names = unlisted names (fresh names) (omega (arith, length-replicate {A = ℕ} (longest names + 1) 65))

-- ---- The pair of a pattern.
module _ (constraints : List Constraint) (pattern : List ℕ) where
  abbrev names : List (List ℕ)
  names = rising (named_methods constraints pattern)

  -- A method that is not among the names is not named.
  not_named : (method : List ℕ) → lists names method ≡ false → lists (named_methods constraints pattern) method ≡ false
  not_named method none = sym (rising_lists (named_methods constraints pattern) method) ∙ none

  -- Two constraints with these numbers are on the pattern, and everyone passes with the method.
  abbrev pub AreOpenFor : List ℕ → ℕ → ℕ → Type 0
  AreOpenFor method number other = AreBothOn constraints pattern method number other
      × ((rules : Rules) (caller : Option Caller) → kind_and_cause (verdict_at rules caller (Some pattern) (covering constraints (Some pattern) method)) ≡ (Passes, cause.Unauthenticated))

  abbrev pub AreOpen : ℕ → ℕ → Type 0
  AreOpen number other = (method : List ℕ) × (is_opened constraints pattern method ≡ true) × AreOpenFor method number other

  abbrev IsOn : (Constraint → Bool) → List ℕ → Constraint → Type 0
  IsOn test method c = Contains constraints c × (covers c pattern method ≡ true) × (test c ≡ true)

  all_on : (test : Constraint → Bool) (method : List ℕ) → All (IsOn test method) (filter test (filter (λ c. covers c pattern method) constraints))
  all_on test method =
      kept_all (IsOn test method) test (filter (λ c. covers c pattern method) constraints)
      (kept_all (λ c. test c ≡ true → IsOn test method c) (λ c. covers c pattern method) constraints
      (λ k d within covered passing. (All-contains_itself constraints k d within, covered, passing)))

  both_on : (method : List ℕ) (pair : ℕ × ℕ) → opened_for constraints pattern (Some method) ≡ Some pair → AreOpenFor method pair.0 pair.1
  both_on method pair is =
      let it : Opens (covering constraints (Some pattern) method) pair.0 pair.1 = opens (covering constraints (Some pattern) method) pair is in
      let one : HasNumber (IsOn is_open method) pair.0 = least_has (IsOn is_open method) (filter is_open (covering constraints (Some pattern) method)) pair.0 (all_on is_open method) it.2 in
      let two : HasNumber (IsOn is_restricted method) pair.1 = least_has (IsOn is_restricted method) (filter is_restricted (covering constraints (Some pattern) method)) pair.1 (all_on is_restricted method) it.3 in (
        record {
          first = one.0;
          second = two.0;
          first_listed = one.1.0;
          second_listed = two.1.0;
          first_number = one.2;
          second_number = two.2;
          opens = one.1.2;
          restricts = not-true (is_open two.0) two.1.2;
          first_covers = one.1.1;
          second_covers = two.1.1;
        },
        λ rules caller. passes (covering constraints (Some pattern) method) rules caller pattern pair.0 pair.1 it,
      )

  -- A method that is not named is opened as all such methods are.
  unnamed_opened : (method : List ℕ) → lists names method ≡ false → opened_for constraints pattern None ≡ opened_for constraints pattern (Some method)
  unnamed_opened method none = ap opened_by (unnamed_members pattern method constraints (not_named method none))

  opened_on_it : (method : List ℕ) (pair : ℕ × ℕ) → opened_for constraints pattern (Some method) ≡ Some pair → AreOpen pair.0 pair.1
  opened_on_it method pair is = (method, ap is_some is, both_on method pair is)

  others_on : (pair : ℕ × ℕ) → opened_for constraints pattern None ≡ Some pair → AreOpen pair.0 pair.1
  others_on pair is = opened_on_it (fresh names) pair (sym (unnamed_opened (fresh names) (is_fresh names)) ∙ is)

  abbrev named_pair : Option (ℕ × ℕ)
  named_pair = least_from (λ method. opened_for constraints pattern (Some method)) None names

  none_is : (pair : ℕ × ℕ) → None ≡ Some pair → ⊥
  none_is pair is = cc

  pub are_open : (pair : ℕ × ℕ) → opened_pair constraints pattern ≡ Some pair → AreOpen pair.0 pair.1
  unfolding opened_pair
  are_open pair is =
      elim (lesser_is named_pair (opened_for constraints pattern None) pair is) [
        | inl named ↦ elim (fold_is (λ method. opened_for constraints pattern (Some method)) names None pair named) [ inl never ↦ absurd (none_is pair never) | inr found ↦ opened_on_it found.0 pair found.1 ]
        | inr others ↦ others_on pair others
      ]

  -- ---- No pair is missed.
  or_first : (a b : Bool) → a ≡ true → (a || b) ≡ true
  or_first a b h = ap (λ x. x || b) h

  found_at : (method : List ℕ) (named : Bool) → lists names method ≡ named → is_some (opened_for constraints pattern (Some method)) ≡ true → (is_some named_pair || is_some (opened_for constraints pattern None)) ≡ true
  found_at method true is some =
      or_first (is_some named_pair) (is_some (opened_for constraints pattern None))
      (fold_some (λ m. opened_for constraints pattern (Some m)) names None ∙ any_in (λ m. is_some (opened_for constraints pattern (Some m))) names method is some)
  found_at method false is some =
      or_right (is_some named_pair) (is_some (opened_for constraints pattern None)) (ap is_some (unnamed_opened method is) ∙ some)

  pub some_pair : (method : List ℕ) → is_some (opened_for constraints pattern (Some method)) ≡ true → is_some (opened_pair constraints pattern) ≡ true
  unfolding opened_pair
  some_pair method some = lesser_some named_pair (opened_for constraints pattern None) ∙ found_at method (lists names method) refl some

  -- A constraint that covers the method and passes a test is among those that cover it.
  covering_passes : (test : Constraint → Bool) (method : List ℕ) (c : Constraint) → Contains constraints c → covers c pattern method ≡ true → test c ≡ true → list_any test (covering constraints (Some pattern) method) ≡ true
  covering_passes test method c there covered passing = kept_any test (λ x. covers x pattern method) constraints ∙ contained (λ x. covers x pattern method && test x) constraints c there (ap₂ (λ a b. a && b) covered passing)

  pub method_found : (rules : Rules) (method : List ℕ) → IsRestricted constraints pattern method
      → kind_and_cause (verdict_at rules None (Some pattern) (covering constraints (Some pattern) method)) ≡ (Passes, cause.Unauthenticated) → is_opened constraints pattern method ≡ true
  method_found rules method it is =
      let members : List Constraint = covering constraints (Some pattern) method in
      let free : IsFree members (list_any precludes members) (list_any permits_plain members) (list_any is_open members) = free_from members rules pattern is in
      opened_some members free.0 free.1 free.2 (covering_passes is_restricted method it.0 it.1 it.3 (ap not it.2))

  -- ---- Exactly the opened methods are among the opened ones.
  not_not : (a : Bool) → not (not a) ≡ a
  not_not true = refl
  not_not false = refl

  listed_at : (method : List ℕ) (test : List ℕ → Bool) (named : Bool) → lists names method ≡ named → lists (filter test names) method ≡ (named && test method)
  listed_at method test named is = passing_lists test names method ∙ ap (λ b. b && test method) is

  held_at : (method : List ℕ) (others named : Bool) → is_some (opened_for constraints pattern None) ≡ others → lists names method ≡ named
      → covers_method (cond others (Except (filter (λ m. not (is_opened constraints pattern m)) names)) (Only (filter (is_opened constraints pattern) names))) method ≡ is_opened constraints pattern method
  held_at method true true is named = ap not (listed_at method (λ m. not (is_opened constraints pattern m)) true named) ∙ not_not (is_opened constraints pattern method)
  held_at method true false is named = ap not (listed_at method (λ m. not (is_opened constraints pattern m)) false named) ∙ sym (ap is_some (sym (unnamed_opened method named)) ∙ is)
  held_at method false true is named = listed_at method (is_opened constraints pattern) true named
  held_at method false false is named = listed_at method (is_opened constraints pattern) false named ∙ sym (ap is_some (sym (unnamed_opened method named)) ∙ is)

  pub opened_exact : (method : List ℕ) → covers_method (opened_methods constraints pattern) method ≡ is_opened constraints pattern method
  unfolding opened_methods
  opened_exact method = held_at method (is_some (opened_for constraints pattern None)) (lists names method) refl refl

  -- An opened method is restricted by one of the constraints that both cover it.
  pub some_open : (found : Option (ℕ × ℕ)) (method : List ℕ) → opened_for constraints pattern (Some method) ≡ found → is_some found ≡ true → (number : ℕ) × (other : ℕ) × AreOpenFor method number other
  some_open None method is some = absurd (false≢true some)
  some_open (Some pair) method is some = (pair.0, pair.1, both_on method pair is)
