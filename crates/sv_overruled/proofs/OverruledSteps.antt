-- What changes nothing at a pattern, by copies of the constraints on it.
use Rattle.std.proofs.lemmas.Bool.{false≢true}
use Rattle.std.proofs.lemmas.List.Folds.{list_any-append, list_any_at}
use Rattle.std.specs.Borrow.{Bor}
use Rattle.std.proofs.Common.{◌≡◌, ◌<◌, ◌≤◌, ◌+◌, ℕ, Bool, true, false, not, ◌||◌, ◌&&◌, ◌==◌, List, [], ◌∷◌, ◌++◌, get_or, length, map, take, refl, ap, ap₂, sym, arith, ◌∙◌, Option, None, Some, Global}
use Rattle.std.specs.Prelude.{Vec, filter, nat_lt}
use Rattle.std.specs.List.{list_all, list_any}
use Rattle.sv_constraints.specs.Covering.{covers, lists}
use Rattle.sv_constraints.specs.Verdict.{is_open, permits_plain, precludes}
use Rattle.sv_constraints.specs.declared.constraint.Constraint.{Constraint}
use Rattle.sv_constraints.specs.declared.constraint.Rules.{Rules}
use Rattle.sv_policy.proofs.Listed.{any_seen, length_seen}
use Rattle.sv_policy.proofs.Grouping.{or_none}
use Rattle.sv_policy.proofs.Steps.{any_same, filter_pass, filter_same, filter_stop, seen_more}
use Rattle.sv_policy.specs.Covering.{covers_unnamed, named_methods}
use Rattle.sv_policy.specs.Merged.{admits_everyone}
use Rattle.sv_policy.specs.Uncovered.{rising}
use Rattle.sv_audit.proofs.Filters.{filter_map, filter_none, map_twice}
use Rattle.sv_audit.proofs.FocusLemmas.{covering_focused, named_focused, others_focused}
use Rattle.sv_audit.specs.Access.{roles_meant}
use Rattle.sv_audit.specs.Focus.{focused}
use Rattle.sv_overruled.specs.Overruled.{all_meant, decide_alike, has_number, matters_among, matters_by, matters_for, matters_on, numbers_of, others, overruled_at, overruled_on}
use Rattle.sv_overruled.specs.declared.overruled.TheConstants.{MAX_COMPARED_AT_PATTERN}

module _ (rules : Rules) (pattern : List ℕ) where
  abbrev copies : List Constraint → List Constraint
  copies members = map (focused pattern) members

  same_meant : (members : List Constraint) → all_meant rules.declared (copies members) ≡ all_meant rules.declared members
  same_meant [] = refl
  same_meant (c ∷ members) = ap (λ rest. roles_meant rules.declared c.auth ++ rest) (same_meant members)

  abbrev decided : Constraint → Bool → Bool → Bool → Bool → Bool → List (List ℕ) → Bool
  decided c empty bars plain opens everyone all =
      not empty && (bars || (not (precludes c) && ((not (permits_plain c) || plain) && (opens || (not (is_open c) && (everyone || (not (admits_everyone c) && list_all (lists all) (roles_meant rules.declared c.auth))))))))

  decided_same : (c : Constraint) (members : List Constraint) → decide_alike rules (focused pattern c) (copies members) ≡ decide_alike rules c members
  decided_same c members =
      ap₂ (λ n b. decided c (n == 0) b (list_any permits_plain (copies members)) (list_any is_open (copies members)) (list_any admits_everyone (copies members)) (all_meant rules.declared (copies members)))
      (length_seen (focused pattern) members) (any_seen precludes (focused pattern) members)
      ∙ ap₂ (λ p o. decided c (length members == 0) (list_any precludes members) p o (list_any admits_everyone (copies members)) (all_meant rules.declared (copies members)))
      (any_seen permits_plain (focused pattern) members) (any_seen is_open (focused pattern) members)
      ∙ ap₂ (λ e all. decided c (length members == 0) (list_any precludes members) (list_any permits_plain members) (list_any is_open members) e all)
      (any_seen admits_everyone (focused pattern) members) (same_meant members)

  module _ (number : ℕ) where
    abbrev own_differs : List Constraint → Constraint → Bool
    own_differs among own = has_number number own && not (decide_alike rules own among)

    among_focused : (members : List Constraint) → matters_among rules number (copies members) ≡ matters_among rules number members
    among_focused members =
        ap (λ among. list_any (own_differs among) (copies members)) (filter_map (focused pattern) (λ c. not (has_number number c)) members)
        ∙ any_seen (own_differs (copies (others number members))) (focused pattern) members
        ∙ any_same (λ c. own_differs (copies (others number members)) (focused pattern c)) (own_differs (others number members)) (λ c. ap (λ b. has_number number c && not b) (decided_same c (others number members))) members

    for_focused : (members : List Constraint) (method : Option (List ℕ)) → matters_for rules number pattern (copies members) method ≡ matters_for rules number pattern members method
    for_focused members None = ap (matters_among rules number) (others_focused pattern members) ∙ among_focused (filter (λ c. covers_unnamed c pattern) members)
    for_focused members (Some method) = ap (matters_among rules number) (covering_focused pattern method members) ∙ among_focused (filter (λ c. covers c pattern method) members)

    pub on_focused : (members : List Constraint) → matters_on rules number pattern (copies members) ≡ matters_on rules number pattern members
    unfolding matters_on
    on_focused members =
        ap (λ named. nat_lt MAX_COMPARED_AT_PATTERN (length (rising named)) || (list_any (λ method. matters_for rules number pattern (copies members) (Some method)) (rising named) || matters_for rules number pattern (copies members) None)) (named_focused pattern members)
        ∙ ap₂ (λ some none. nat_lt MAX_COMPARED_AT_PATTERN (length (rising (named_methods members pattern))) || (some || none))
        (any_same (λ method. matters_for rules number pattern (copies members) (Some method)) (λ method. matters_for rules number pattern members (Some method)) (λ method. for_focused members (Some method)) (rising (named_methods members pattern)))
        (for_focused members None)

pub all_same : (p q : List ℕ → Bool) → ((x : List ℕ) → p x ≡ q x) → (xs : List (List ℕ)) → list_all p xs ≡ list_all q xs
all_same p q same [] = refl
all_same p q same (x ∷ xs) = ap₂ (λ a b. a && b) (same x) (all_same p q same xs)

-- ---- Truth values on the ways of the code.
pub plain_if : (its some result : Bool) → its ≡ true → result ≡ some → result ≡ (not its || some)
plain_if true some result is same = same
plain_if false some result is same = absurd (false≢true is)

pub by_any : (any rest : Bool) → any ≡ true → true ≡ (any || rest)
by_any true rest is = refl
by_any false rest is = absurd (false≢true is)

pub by_none : (any its rest : Bool) → any ≡ false → its ≡ true → false ≡ (any || (not its && rest))
by_none true its rest none is = absurd (false≢true (sym none))
by_none false true rest none is = refl
by_none false false rest none is = absurd (false≢true is)

pub by_rest : (any its rest : Bool) → any ≡ false → its ≡ false → rest ≡ (any || (not its && rest))
by_rest true its rest none is = absurd (false≢true (sym none))
by_rest false true rest none is = absurd (false≢true (sym is))
by_rest false false rest none is = refl

pub alike_barred : (empty any its rest : Bool) → empty ≡ false → any ≡ true → true ≡ (not empty && (any || (not its && rest)))
alike_barred true any its rest some is = absurd (false≢true (sym some))
alike_barred false any its rest some is = by_any any (not its && rest) is

pub not_alike : (empty any its rest : Bool) → any ≡ false → its ≡ true → false ≡ (not empty && (any || (not its && rest)))
not_alike true any its rest none is = refl
not_alike false any its rest none is = by_none any its rest none is

pub not_permitted : (empty any its permits rest : Bool) → any ≡ false → permits ≡ false → false ≡ (not empty && (any || (not its && (permits && rest))))
not_permitted true any its permits rest none is = refl
not_permitted false true its permits rest none is = absurd (false≢true (sym none))
not_permitted false false its true rest none is = absurd (false≢true (sym is))
not_permitted false false true false rest none is = refl
not_permitted false false false false rest none is = refl

pub alike_rest : (empty any its permits rest : Bool) → empty ≡ false → any ≡ false → its ≡ false → permits ≡ true → rest ≡ (not empty && (any || (not its && (permits && rest))))
alike_rest true any its permits rest some none is was = absurd (false≢true (sym some))
alike_rest false true its permits rest some none is was = absurd (false≢true (sym none))
alike_rest false false true permits rest some none is was = absurd (false≢true (sym is))
alike_rest false false false true rest some none is was = refl
alike_rest false false false false rest some none is was = absurd (false≢true was)

pub own_differs_at : (h alike : Bool) → h ≡ true → alike ≡ false → (h && not alike) ≡ true
own_differs_at true alike is was = ap not was
own_differs_at false alike is was = absurd (false≢true is)

-- An item that passes is found in the seen list.
pub some_seen : {A X : Type 0} (now : A → X) (test : X → Bool) (xs : List A) (i : ℕ) (x : A) → i < length xs → test (now (get_or xs i x)) ≡ true → true ≡ list_any test (map now xs)
some_seen now test xs i x within passes = sym (any_seen test now xs ∙ list_any_at (λ a. test (now a)) xs i x within passes)

pub empty_seen : {A X : Type 0} (now : A → X) (xs : List A) → (length (map now xs) == 0) ≡ (length xs == 0)
empty_seen now xs = ap (λ n. n == 0) (length_seen now xs)

pub equal_numbers : (a b : ℕ) → a ≡ b → (a == b) ≡ true
equal_numbers a b is = grind (arith, is)

-- ---- More than the most that are compared.
pub more : (most n : ℕ) → most < n → nat_lt most n ≡ true
more most n is = grind (arith, is)

pub no_more : (most n : ℕ) → n ≤ most → nat_lt most n ≡ false
no_more most n is = grind (arith, is)

-- ---- The numbers of the constraints that change nothing.
abbrev pub these : List (Bor Constraint) → List Constraint
these members = map (λ (member : Bor Constraint). member.now) members

or_true : (a : Bool) → (a || true) ≡ true
or_true true = refl
or_true false = refl

not_at_all : (a b : Bool) → b ≡ true → not (a || b) ≡ false
not_at_all true b is = refl
not_at_all false b is = ap not is

pub numbers_seen : (members : List (Bor Constraint)) → map (λ (member : Bor Constraint). member.now.number) members ≡ numbers_of (these members)
numbers_seen members = sym (map_twice (λ (member : Bor Constraint). member.now) (λ member. member.number) members)

module _ (rules : Rules) (pattern : List ℕ) where
  abbrev is_without : List Constraint → ℕ → Bool
  is_without members number = length (others number members) == 0

  -- There are none among many constraints, and none where many methods are named.
  pub none_of_many : (members : List Constraint) → nat_lt MAX_COMPARED_AT_PATTERN (length members) ≡ true → [] ≡ overruled_at rules pattern members
  none_of_many members many =
      sym (filter_none (λ number. not (matters_by rules number pattern members)) (numbers_of members)
      (λ number. not_at_all (is_without members number) (nat_lt MAX_COMPARED_AT_PATTERN (length members) || matters_on rules number pattern members) (ap (λ b. b || matters_on rules number pattern members) many)))

  pub none_of_many_names : (members : List Constraint) → nat_lt MAX_COMPARED_AT_PATTERN (length (rising (named_methods members pattern))) ≡ true → [] ≡ overruled_on rules pattern members
  unfolding matters_on
  none_of_many_names members many =
      sym (filter_none (λ number. not (is_without members number || matters_on rules number pattern members)) (numbers_of members)
      (λ number. not_at_all (is_without members number) (matters_on rules number pattern members)
      (ap (λ b. b || (list_any (λ method. matters_for rules number pattern members (Some method)) (rising (named_methods members pattern)) || matters_for rules number pattern members None)) many)))

  -- Few constraints are compared as they are at the pattern.
  without_same : (members : List Constraint) (number : ℕ) → is_without (copies rules pattern members) number ≡ is_without members number
  without_same members number =
      ap (λ its. length its == 0) (filter_map (focused pattern) (λ c. not (has_number number c)) members) ∙ ap (λ n. n == 0) (length_seen (focused pattern) (others number members))

  pub on_copies : (members : List Constraint) → nat_lt MAX_COMPARED_AT_PATTERN (length members) ≡ false → overruled_on rules pattern (copies rules pattern members) ≡ overruled_at rules pattern members
  on_copies members few =
      ap (filter (λ number. not (is_without (copies rules pattern members) number || matters_on rules number pattern (copies rules pattern members)))) (map_twice (focused pattern) (λ c. c.number) members)
      ∙ filter_same (λ number. not (is_without (copies rules pattern members) number || matters_on rules number pattern (copies rules pattern members))) (λ number. not (matters_by rules number pattern members))
      (λ number. ap not (ap₂ (λ a b. a || b) (without_same members number)
      (on_focused rules pattern number members ∙ sym (ap (λ b. b || matters_on rules number pattern members) few))))
      (numbers_of members)

  -- What matters for some method matters in one of the coverings.
  in_coverings : (number : ℕ) (members : List Constraint) (names : List (List ℕ)) (many : Bool) → many ≡ false
      → list_any (matters_among rules number) (map (λ name. filter (λ member. covers member pattern name) members) names ++ filter (λ member. covers_unnamed member pattern) members ∷ [])
      ≡ (many || (list_any (λ method. matters_for rules number pattern members (Some method)) names || matters_for rules number pattern members None))
  in_coverings number members names true is = absurd (false≢true (sym is))
  in_coverings number members names false is =
      list_any-append (matters_among rules number) (map (λ name. filter (λ member. covers member pattern name) members) names) (filter (λ member. covers_unnamed member pattern) members ∷ [])
      ∙ ap₂ (λ a b. a || b) (any_seen (matters_among rules number) (λ name. filter (λ member. covers member pattern name) members) names) (or_none (matters_for rules number pattern members None))

  pub by_coverings : (members : List Constraint) (coverings : List (List Constraint)) → nat_lt MAX_COMPARED_AT_PATTERN (length (rising (named_methods members pattern))) ≡ false
      → coverings ≡ map (λ name. filter (λ member. covers member pattern name) members) (rising (named_methods members pattern)) ++ filter (λ member. covers_unnamed member pattern) members ∷ []
      → filter (λ number. not (is_without members number || list_any (matters_among rules number) coverings)) (numbers_of members) ≡ overruled_on rules pattern members
  unfolding matters_on
  by_coverings members coverings few are =
      filter_same (λ number. not (is_without members number || list_any (matters_among rules number) coverings)) (λ number. not (is_without members number || matters_on rules number pattern members))
      (λ number. ap (λ b. not (is_without members number || b))
      (ap (list_any (matters_among rules number)) are ∙ in_coverings number members (rising (named_methods members pattern)) (nat_lt MAX_COMPARED_AT_PATTERN (length (rising (named_methods members pattern)))) few))
      (numbers_of members)

  -- The same over borrowed constraints.
  pub from_coverings : (members : List (Bor Constraint)) (coverings : List (Vec (Bor Constraint) Global)) → nat_lt MAX_COMPARED_AT_PATTERN (length (rising (named_methods (these members) pattern))) ≡ false
      → map (λ covering. these covering.items) coverings ≡ map (λ name. filter (λ member. covers member pattern name) (these members)) (rising (named_methods (these members) pattern)) ++ filter (λ member. covers_unnamed member pattern) (these members) ∷ []
      → filter (λ number. not (is_without (these members) number || list_any (λ covering. matters_among rules number (these covering.items)) coverings)) (map (λ (member : Bor Constraint). member.now.number) members) ≡ overruled_on rules pattern (these members)
  from_coverings members coverings few are =
      ap (filter (λ number. not (is_without (these members) number || list_any (λ covering. matters_among rules number (these covering.items)) coverings))) (numbers_seen members)
      ∙ filter_same (λ number. not (is_without (these members) number || list_any (λ covering. matters_among rules number (these covering.items)) coverings))
      (λ number. not (is_without (these members) number || list_any (matters_among rules number) (map (λ covering. these covering.items) coverings)))
      (λ number. ap (λ b. not (is_without (these members) number || b)) (sym (any_seen (matters_among rules number) (λ covering. these covering.items) coverings)))
      (numbers_of (these members))
      ∙ by_coverings (these members) (map (λ covering. these covering.items) coverings) few are

-- One more number.
module _ (test : ℕ → Bool) (members : List (Bor Constraint)) (i : ℕ) (x : Bor Constraint) (within : i < length members) (at : x ≡ get_or members i x) (numbers after : List ℕ)
    (was : numbers ≡ filter test (map (λ (member : Bor Constraint). member.now.number) (take i members))) where
  abbrev number_of : Bor Constraint → ℕ
  number_of member = member.now.number

  pub one_kept : test x.now.number ≡ true → after ≡ numbers ++ x.now.number ∷ [] → after ≡ filter test (map number_of (take (i + 1) members))
  one_kept passes pushed =
      pushed ∙ ap (λ them. them ++ x.now.number ∷ []) was ∙ sym (filter_pass test (map number_of (take i members)) x.now.number passes) ∙ ap (filter test) (sym (seen_more number_of members i x within at))

  pub one_left : test x.now.number ≡ false → after ≡ numbers → after ≡ filter test (map number_of (take (i + 1) members))
  one_left stops same =
      same ∙ was ∙ sym (filter_stop test (map number_of (take i members)) x.now.number stops) ∙ ap (filter test) (sym (seen_more number_of members i x within at))
