-- Without an overruled constraint each request is decided alike, and no such constraint is missed.
use Rattle.std.proofs.lemmas.Bool.{false≢true, not-true, or_parts}
use Rattle.std.proofs.lemmas.List.Elements.{All-contains_itself, All-head, All-tail}
use Rattle.std.proofs.lemmas.List.Folds.{list_any_at}
use Rattle.std.proofs.lemmas.List.Sums.{AllPass-from_list_all, list_all-from_AllPass}
use Rattle.std.proofs.lemmas.Slice.Eq.{bytes_eq-Decides}
use Rattle.std.proofs.Common.{arith, ◌≡◌, ◌≤◌, ℕ, Bool, true, false, not, ◌||◌, ◌&&◌, ◌==◌, List, [], ◌∷◌, length, refl, ap, ap₂, sym, ◌∙◌, cond, Option, None, Some, is_none}
use Rattle.std.specs.Prelude.{All, Contains, filter, nat_lt, slice_index_or}
use Rattle.std.specs.List.{list_all, list_any}
use Rattle.std.specs.Str.{bytes_eq}
use Rattle.sv_realm.specs.declared.caller.Caller.{Caller}
use Rattle.sv_constraints.specs.Covering.{all_patterns, covering, covers, lists, patterns_in}
use Rattle.sv_constraints.specs.Roles.{admits}
use Rattle.sv_constraints.specs.Verdict.{admits_caller, because, is_open, least_number, least_where, permits_plain, precludes}
use Rattle.sv_constraints.specs.declared.cause.Cause.TheVariants as cause
use Rattle.sv_constraints.specs.declared.constraint.Auth.{Auth}
use Rattle.sv_constraints.specs.declared.constraint.Auth.TheVariants as auth
use Rattle.sv_constraints.specs.declared.constraint.Constraint.{Constraint}
use Rattle.sv_constraints.specs.declared.constraint.Rules.{Rules}
use Rattle.sv_constraints.specs.declared.owned_decision.OwnedDecision.TheVariants.{Open, Denied, Login}
use Rattle.sv_constraints.specs.declared.owned_decision.OwnedWhy.{OwnedWhy}
use Rattle.sv_policy.proofs.Best.{any_in, or_right}
use Rattle.sv_policy.proofs.Listed.{any_seen, covers_listed, filter_within, length_seen, listed_any, listed_by, some_filtered}
use Rattle.sv_policy.proofs.Named.{unnamed_members}
use Rattle.sv_policy.proofs.Rising.{rising_lists}
use Rattle.sv_policy.proofs.Steps.{any_of_joined, any_same, filter_same, passing_lists}
use Rattle.sv_policy.specs.Covering.{named_methods}
use Rattle.sv_policy.specs.Patterns.{lists_pattern}
use Rattle.sv_policy.specs.Uncovered.{is_uncovered, rising}
use Rattle.sv_policy.specs.Merged.{admits_everyone, names_everyone}
use Rattle.sv_audit.proofs.Equal.{and_left, and_right, both}
use Rattle.sv_audit.proofs.Filters.{filter_twice}
use Rattle.sv_audit.proofs.Found.{any_of, in_texts}
use Rattle.sv_audit.proofs.Made.{named_of_all}
use Rattle.sv_audit.proofs.Witness.{found}
use Rattle.sv_audit.specs.Access.{roles_meant}
use Rattle.sv_audit.specs.Reading.{IsDenied, Kind, NeedsLogin, Passes, kind_and_cause}
use Rattle.sv_audit.specs.Secure.{secure, secured}
use Rattle.sv_findings.proofs.OpenedLemmas.{contained, fresh, is_fresh, kept_any}
use Rattle.sv_findings.specs.FindingLaws.{AreAlike, AreFew, ChangesNothing, kind_by}
use Rattle.sv_overruled.specs.Overruled.{admit_its_callers, admit_no_less, all_meant, decide_alike, has_number, matters_among, matters_by, matters_for, matters_on, mean_its_roles, numbers_of, others, permit_no_less}
use Rattle.sv_findings.specs.Overruled.{deciding_patterns, is_overruled, is_overruled_at}
use Rattle.sv_findings.specs.Dead.{decides_nothing, is_dead}
use Rattle.sv_overruled.specs.declared.overruled.TheConstants.{MAX_COMPARED_AT_PATTERN}

-- ---- Truth values.
absorb : (w o : Bool) → (w ≡ true → o ≡ true) → (w || o) ≡ o
absorb true true h = refl
absorb true false h = absurd (false≢true (h refl))
absorb false o h = refl

pub no_from : (b : Bool) → ¬ (b ≡ true) → b ≡ false
no_from true h = absurd (h refl)
no_from false h = refl

-- ---- The kind of a verdict by tests of the constraints.
abbrev kind_from : Bool → Bool → Bool → Bool → Bool → Bool → Bool → Kind
kind_from deny empty bars plain opens unknown admitting =
    cond empty (cond deny IsDenied Passes) (cond bars IsDenied (cond (not plain) IsDenied (cond opens Passes (cond unknown NeedsLogin (cond admitting Passes IsDenied)))))

kind_at : (deny empty bars plain opens unknown admitting : Bool) (one two three four five six seven : OwnedWhy)
    → (kind_and_cause (cond empty (cond deny (Denied one) (Open one)) (cond bars (Denied two) (cond (not plain) (Denied three) (cond opens (Open four) (cond unknown (Login five) (cond admitting (Open six) (Denied seven)))))))).0
    ≡ kind_from deny empty bars plain opens unknown admitting
kind_at true true bars plain opens unknown admitting one two three four five six seven = refl
kind_at false true bars plain opens unknown admitting one two three four five six seven = refl
kind_at deny false true plain opens unknown admitting one two three four five six seven = refl
kind_at deny false false false opens unknown admitting one two three four five six seven = refl
kind_at deny false false true true unknown admitting one two three four five six seven = refl
kind_at deny false false true false true admitting one two three four five six seven = refl
kind_at deny false false true false false true one two three four five six seven = refl
kind_at deny false false true false false false one two three four five six seven = refl

-- The same kind if the constraints with the number add nothing.
same_open : (plain opens unknown wider admitting : Bool) → (wider ≡ true → (opens || admitting) ≡ true)
    → cond (not plain) IsDenied (cond opens Passes (cond unknown NeedsLogin (cond (wider || admitting) Passes IsDenied))) ≡ cond (not plain) IsDenied (cond opens Passes (cond unknown NeedsLogin (cond admitting Passes IsDenied)))
same_open plain true unknown wider admitting adds = refl
same_open plain false unknown wider admitting adds = ap (λ b. cond (not plain) IsDenied (cond unknown NeedsLogin (cond b Passes IsDenied))) (absorb wider admitting adds)

same_from : (deny bars plain opens unknown admitting its_bars its_plain its_open its_admitting : Bool) → (its_bars ≡ true → bars ≡ true) → (its_plain ≡ true → (bars || plain) ≡ true) → (its_open ≡ true → (bars || opens) ≡ true)
    → (its_admitting ≡ true → (bars || (opens || admitting)) ≡ true)
    → kind_from deny false (its_bars || bars) (its_plain || plain) (its_open || opens) unknown (its_admitting || admitting) ≡ kind_from deny false bars plain opens unknown admitting
same_from deny true plain opens unknown admitting its_bars its_plain its_open its_admitting none lesser narrower fewer =
    ap (λ b. kind_from deny false b (its_plain || plain) (its_open || opens) unknown (its_admitting || admitting)) (or_right its_bars true refl)
same_from deny false plain opens unknown admitting its_bars its_plain its_open its_admitting none lesser narrower fewer =
    ap (λ b. kind_from deny false b (its_plain || plain) (its_open || opens) unknown (its_admitting || admitting)) (absorb its_bars false none)
    ∙ ap₂ (λ p o. kind_from deny false false p o unknown (its_admitting || admitting)) (absorb its_plain plain lesser) (absorb its_open opens narrower) ∙ same_open plain opens unknown its_admitting admitting fewer

module _ (rules : Rules) (caller : Option Caller) (pattern : List ℕ) where
  abbrev admits_it : Constraint → Bool
  admits_it = admits_caller rules caller

  kind_is : (members : List Constraint) → kind_by rules caller pattern members
      ≡ kind_from rules.deny_uncovered (length members == 0) (list_any precludes members) (list_any permits_plain members) (list_any is_open members) (is_none caller) (list_any admits_it members)
  kind_is members =
      kind_at rules.deny_uncovered (length members == 0) (list_any precludes members) (list_any permits_plain members) (list_any is_open members) (is_none caller) (list_any admits_it members) (because (Some pattern) None cause.Uncovered)
      (because (Some pattern) (least_where precludes members) cause.Precluded) (because (Some pattern) (least_number members) cause.Transport) (because (Some pattern) (least_where is_open members) cause.Unauthenticated)
      (because (Some pattern) (least_number members) cause.NeedsCaller) (because (Some pattern) (least_where admits_it members) cause.Role) (because (Some pattern) (least_number members) cause.NoRole)

  -- The same for constraints of which there are some.
  kind_some : (members : List Constraint) → (length members == 0) ≡ false → kind_by rules caller pattern members
      ≡ kind_from rules.deny_uncovered false (list_any precludes members) (list_any permits_plain members) (list_any is_open members) (is_none caller) (list_any admits_it members)
  kind_some members some = kind_is members ∙ ap (λ b. kind_from rules.deny_uncovered b (list_any precludes members) (list_any permits_plain members) (list_any is_open members) (is_none caller) (list_any admits_it members)) some

  all_plain : (members : List Constraint) → (length members == 0) ≡ false → list_any permits_plain (secure members) ≡ true
  all_plain [] some = let none : (length {A = Constraint} [] == 0) ≡ true = refl in absurd (false≢true (sym some ∙ none))
  all_plain (c ∷ members) some = refl

  kind_secure : (members : List Constraint) → (length members == 0) ≡ false → kind_by rules caller pattern (secure members)
      ≡ kind_from rules.deny_uncovered false (list_any precludes members) true (list_any is_open members) (is_none caller) (list_any admits_it members)
  kind_secure members some =
      kind_some (secure members) (ap (λ n. n == 0) (length_seen secured members) ∙ some)
      ∙ ap₂ (λ b p. kind_from rules.deny_uncovered false b p (list_any is_open (secure members)) (is_none caller) (list_any admits_it (secure members))) (any_seen precludes secured members) (all_plain members some)
      ∙ ap₂ (λ o a. kind_from rules.deny_uncovered false (list_any precludes members) true o (is_none caller) a) (any_seen is_open secured members) (any_seen admits_it secured members)

-- ---- Constraints with a number, and the others.
module _ (number : ℕ) where
  abbrev its : (Constraint → Bool) → Constraint → Bool
  its test c = has_number number c && test c

  split_step : (h t a b : Bool) → (t || (a || b)) ≡ ((h && t || a) || (not h && t || b))
  split_step true true a b = refl
  split_step true false a b = refl
  split_step false true true b = refl
  split_step false true false b = refl
  split_step false false a b = refl

  split_any : (test : Constraint → Bool) (members : List Constraint) → list_any test members ≡ (list_any (its test) members || list_any test (others number members))
  split_any test members = parted members ∙ ap (λ b. list_any (its test) members || b) (sym (kept_any test (λ c. not (has_number number c)) members))
    where
      parted : (cs : List Constraint) → list_any test cs ≡ (list_any (its test) cs || list_any (λ c. not (has_number number c) && test c) cs)
      parted [] = refl
      parted (c ∷ cs) = ap (λ rest. test c || rest) (parted cs) ∙ split_step (has_number number c) (test c) (list_any (its test) cs) (list_any (λ x. not (has_number number x) && test x) cs)

  others_at : (c : Constraint) (members : List Constraint) (h : Bool) → (h || list_any (has_number number) members) ≡ false → (list_any (has_number number) members ≡ false → others number members ≡ members)
      → cond (not h) (c ∷ others number members) (others number members) ≡ c ∷ members
  others_at c members true none below = absurd (false≢true (sym none))
  others_at c members false none below = ap (λ rest. c ∷ rest) (below none)

  pub all_others : (members : List Constraint) → list_any (has_number number) members ≡ false → others number members ≡ members
  all_others [] none = refl
  all_others (c ∷ members) none = others_at c members (has_number number c) none (all_others members)

  -- What follows from each good constraint that passes follows if one with the number passes, and all with it are good.
  module _ (good test : Constraint → Bool) (r : Bool) (step : (c : Constraint) → good c ≡ true → test c ≡ true → r ≡ true) where
    from_at : (c : Constraint) (h g t none some : Bool) → good c ≡ g → test c ≡ t → ((h && not g) || none) ≡ false → ((h && t) || some) ≡ true → (none ≡ false → some ≡ true → r ≡ true) → r ≡ true
    from_at c true true true none some is was all one rest = step c is was
    from_at c true true false none some is was all one rest = rest all one
    from_at c true false t none some is was all one rest = absurd (false≢true (sym all))
    from_at c false g t none some is was all one rest = rest all one

    from_own : (members : List Constraint) → list_any (its (λ c. not (good c))) members ≡ false → list_any (its test) members ≡ true → r ≡ true
    from_own [] all one = absurd (false≢true one)
    from_own (c ∷ members) all one = from_at c (has_number number c) (good c) (test c) (list_any (its (λ x. not (good x))) members) (list_any (its test) members) refl refl all one (from_own members)

some_one : (test : Constraint → Bool) (members : List Constraint) → list_any test members ≡ true → (length members == 0) ≡ false
some_one test [] some = absurd (false≢true some)
some_one test (c ∷ members) some = grind arith

-- ---- The callers that constraints admit.
module _ (rules : Rules) (who : Caller) where
  abbrev holds : List ℕ → Bool
  holds role = lists who.roles role

  meant_by : Constraint → List (List ℕ)
  meant_by c = roles_meant rules.declared c.auth

  admits_by : (its_auth : Auth) → admits rules.declared (Some who) its_auth ≡ (names_everyone its_auth || list_any holds (roles_meant rules.declared its_auth))
  admits_by auth.Absent = refl
  admits_by (auth.Roles names) = refl

  or_step : (e h a b : Bool) → ((e || h) || (a || b)) ≡ ((e || a) || (h || b))
  or_step true h a b = refl
  or_step false true true b = refl
  or_step false true false b = refl
  or_step false false a b = refl

  or_parted : (test other : Constraint → Bool) (members : List Constraint) → list_any (λ c. test c || other c) members ≡ (list_any test members || list_any other members)
  or_parted test other [] = refl
  or_parted test other (c ∷ members) = ap (λ rest. (test c || other c) || rest) (or_parted test other members) ∙ or_step (test c) (other c) (list_any test members) (list_any other members)

  admits_all : (members : List Constraint) → list_any (admits_caller rules (Some who)) members ≡ (list_any admits_everyone members || list_any holds (all_meant rules.declared members))
  admits_all members =
      any_same (admits_caller rules (Some who)) (λ c. admits_everyone c || list_any holds (roles_meant rules.declared c.auth)) (λ c. admits_by c.auth) members
      ∙ or_parted admits_everyone (λ c. list_any holds (roles_meant rules.declared c.auth)) members
      ∙ ap (λ b. list_any admits_everyone members || b) (sym (any_of_joined holds (λ (c : Constraint). roles_meant rules.declared c.auth) members))

  -- A caller that holds one of the roles holds one of those among which they are.
  held_among : (roles all : List (List ℕ)) → list_all (lists all) roles ≡ true → list_any holds roles ≡ true → list_any holds all ≡ true
  held_among roles all each some =
      found (list_any holds all ≡ true) holds roles some
      (λ k d within held_one. any_in holds all (slice_index_or roles k d) (AllPass-from_list_all (lists all) roles each k d within) held_one)

-- ---- Constraints that decide alike with the others.
module _ (rules : Rules) (these : List Constraint) where
  abbrev bars : Bool
  bars = list_any precludes these

  abbrev plain : Bool
  plain = list_any permits_plain these

  abbrev opens : Bool
  opens = list_any is_open these

  abbrev everyone : Bool
  everyone = list_any admits_everyone these

  abbrev good : Constraint → Bool
  good c = decide_alike rules c these

  bars_at : (empty bar p n a : Bool) → (not empty && (bar || (not p && (n && a)))) ≡ true → p ≡ true → bar ≡ true
  bars_at true bar p n a is was = absurd (false≢true is)
  bars_at false true p n a is was = refl
  bars_at false false true n a is was = absurd (false≢true is)
  bars_at false false false n a is was = absurd (false≢true was)

  plain_at : (empty bar p c n a : Bool) → (not empty && (bar || (not p && ((not c || n) && a)))) ≡ true → c ≡ true → (bar || n) ≡ true
  plain_at true bar p c n a is was = absurd (false≢true is)
  plain_at false true p c n a is was = refl
  plain_at false false true c n a is was = absurd (false≢true is)
  plain_at false false false false n a is was = absurd (false≢true was)
  plain_at false false false true true a is was = refl
  plain_at false false false true false a is was = absurd (false≢true is)

  rest_at : (empty bar p n a : Bool) → (not empty && (bar || (not p && (n && a)))) ≡ true → bar ≡ false → a ≡ true
  rest_at true bar p n a is was = absurd (false≢true is)
  rest_at false true p n a is was = absurd (false≢true (sym was))
  rest_at false false true n a is was = absurd (false≢true is)
  rest_at false false false false a is was = absurd (false≢true is)
  rest_at false false false true a is was = is

  some_at : (empty rest : Bool) → (not empty && rest) ≡ true → empty ≡ false
  some_at true rest is = absurd (false≢true is)
  some_at false rest is = refl

  abbrev rest_of : Constraint → Bool
  rest_of c = admit_no_less rules.declared c these

  its_rest : (c : Constraint) → good c ≡ true → bars ≡ false → rest_of c ≡ true
  its_rest c is none = rest_at (length these == 0) bars (precludes c) (permit_no_less c these) (rest_of c) is none

  open_at : (bar open_ones its_open callers : Bool) → (bar ≡ false → (open_ones || (not its_open && callers)) ≡ true) → its_open ≡ true → (bar || open_ones) ≡ true
  open_at true open_ones its_open callers is was = refl
  open_at false true its_open callers is was = refl
  open_at false false true callers is was = is refl
  open_at false false false callers is was = absurd (false≢true was)

  module _ (caller : Option Caller) where
    abbrev lets_in : Bool
    lets_in = list_any (admits_caller rules caller) these

  caller_at : (who : Caller) (bar open_ones any_caller its_open its_any : Bool) (roles all : List (List ℕ)) → (bar ≡ false → (open_ones || (not its_open && (any_caller || (not its_any && list_all (lists all) roles)))) ≡ true)
      → (its_any || list_any (lists who.roles) roles) ≡ true → (bar || (open_ones || (any_caller || list_any (lists who.roles) all))) ≡ true
  caller_at who true open_ones any_caller its_open its_any roles all is was = refl
  caller_at who false true any_caller its_open its_any roles all is was = refl
  caller_at who false false any_caller true its_any roles all is was = absurd (false≢true (is refl))
  caller_at who false false true false its_any roles all is was = refl
  caller_at who false false false false true roles all is was = absurd (false≢true (is refl))
  caller_at who false false false false false roles all is was = held_among rules who roles all (is refl) was

  callers_kept : (caller : Option Caller) (c : Constraint) → good c ≡ true → admits_caller rules caller c ≡ true → (bars || (opens || lets_in caller)) ≡ true
  callers_kept None c is was = absurd (false≢true was)
  callers_kept (Some who) c is was =
      ap (λ b. bars || (opens || b)) (admits_all rules who these)
      ∙ caller_at who bars opens everyone (is_open c) (admits_everyone c) (roles_meant rules.declared c.auth) (all_meant rules.declared these) (its_rest c is) (sym (admits_by rules who c.auth) ∙ was)

-- ---- Constraints without which nothing changes.
and_true : (a : Bool) → (a && true) ≡ a
and_true true = refl
and_true false = refl

module _ (rules : Rules) (number : ℕ) (pattern : List ℕ) (members : List Constraint) where
  abbrev these : List Constraint
  these = others number members

  abbrev own_pass : (Constraint → Bool) → Bool
  own_pass test = list_any (its number test) members

  module _ (alike : matters_among rules number members ≡ false) where
    own_adds : (test : Constraint → Bool) (r : Bool) → ((c : Constraint) → decide_alike rules c these ≡ true → test c ≡ true → r ≡ true) → own_pass test ≡ true → r ≡ true
    own_adds test r step = from_own number (λ c. decide_alike rules c these) test r step members alike

    pub some_others : list_any (has_number number) members ≡ true → (length these == 0) ≡ false
    some_others own =
        not-true (length these == 0)
        (own_adds (λ c. true) (not (length these == 0)) (λ c is was. and_left (not (length these == 0)) (list_any precludes these || (not (precludes c) && (permit_no_less c these && admit_no_less rules.declared c these))) is)
        (any_same (its number (λ c. true)) (has_number number) (λ c. and_true (has_number number c)) members ∙ own))

    module _ (caller : Option Caller) (some_these : (length these == 0) ≡ false) (some_members : (length members == 0) ≡ false) where
      abbrev passing : Constraint → Bool
      passing = admits_caller rules caller

      abbrev kind_of : Bool → Bool → Bool → Bool → Kind
      kind_of bar carried open_ones let_in = kind_from rules.deny_uncovered false bar carried open_ones (is_none caller) let_in

      joined_kind : (carried its_carried : Bool) → (its_carried ≡ true → (bars rules these || carried) ≡ true)
          → kind_of (list_any precludes members) (its_carried || carried) (list_any is_open members) (list_any passing members) ≡ kind_of (list_any precludes these) carried (list_any is_open these) (list_any passing these)
      joined_kind carried its_carried lesser =
          ap₂ (λ b o. kind_of b (its_carried || carried) o (list_any passing members)) (split_any number precludes members) (split_any number is_open members)
          ∙ ap (λ a. kind_of (own_pass precludes || list_any precludes these) (its_carried || carried) (own_pass is_open || list_any is_open these) a) (split_any number passing members)
          ∙ same_from rules.deny_uncovered (list_any precludes these) carried (list_any is_open these) (is_none caller) (list_any passing these) (own_pass precludes) its_carried (own_pass is_open) (own_pass passing)
          (own_adds precludes (list_any precludes these) (λ c is was. bars_at rules these (length these == 0) (list_any precludes these) (precludes c) (permit_no_less c these) (admit_no_less rules.declared c these) is was))
          lesser
          (own_adds is_open (list_any precludes these || list_any is_open these) (λ c is was. open_at rules these (list_any precludes these) (list_any is_open these) (is_open c) (admit_its_callers rules.declared c these) (its_rest rules these c is) was))
          (own_adds passing (list_any precludes these || (list_any is_open these || list_any passing these)) (callers_kept rules these caller))

      plain_lesser : own_pass permits_plain ≡ true → (list_any precludes these || list_any permits_plain these) ≡ true
      plain_lesser =
          own_adds permits_plain (list_any precludes these || list_any permits_plain these)
          (λ c is was. plain_at rules these (length these == 0) (list_any precludes these) (precludes c) (permits_plain c) (list_any permits_plain these) (admit_no_less rules.declared c these) is was)

      plain_alike : kind_by rules caller pattern members ≡ kind_by rules caller pattern these
      plain_alike =
          kind_some rules caller pattern members some_members
          ∙ ap (λ p. kind_of (list_any precludes members) p (list_any is_open members) (list_any passing members)) (split_any number permits_plain members)
          ∙ joined_kind (list_any permits_plain these) (own_pass permits_plain) plain_lesser ∙ sym (kind_some rules caller pattern these some_these)

      secure_alike : kind_by rules caller pattern (secure members) ≡ kind_by rules caller pattern (secure these)
      secure_alike = kind_secure rules caller pattern members some_members ∙ joined_kind true false (λ no. absurd (false≢true no)) ∙ sym (kind_secure rules caller pattern these some_these)

    alike_at : (own : Bool) → list_any (has_number number) members ≡ own → AreAlike rules number pattern members
    alike_at true is caller = (plain_alike caller (some_others is) (some_one (has_number number) members is), secure_alike caller (some_others is) (some_one (has_number number) members is))
    alike_at false is caller =
        let same : members ≡ these = sym (all_others number members is) in
        (ap (kind_by rules caller pattern) same, ap (λ ms. kind_by rules caller pattern (secure ms)) same)

    pub are_alike : AreAlike rules number pattern members
    are_alike = alike_at (list_any (has_number number) members) refl

-- ---- Constraints that change nothing decide alike with the others.
barred : (deny bar open_ones let_in its_bar its_open its_let_in : Bool) → kind_from deny false bar true open_ones true let_in ≡ kind_from deny false its_bar true its_open true its_let_in → bar ≡ true → its_bar ≡ true
barred deny bar open_ones let_in true its_open its_let_in same is = refl
barred deny false open_ones let_in false its_open its_let_in same is = absurd (false≢true is)
barred deny true open_ones let_in false true its_let_in same is = cc
barred deny true open_ones let_in false false its_let_in same is = cc

plain_needed : (deny bar carried open_ones let_in its_bar its_carried its_open its_let_in : Bool) → kind_from deny false bar carried open_ones true let_in ≡ kind_from deny false its_bar its_carried its_open true its_let_in → (bar ≡ true → its_bar ≡ true)
    → carried ≡ true → (its_bar || its_carried) ≡ true
plain_needed deny bar carried open_ones let_in true its_carried its_open its_let_in same less is = refl
plain_needed deny bar carried open_ones let_in false true its_open its_let_in same less is = refl
plain_needed deny bar false open_ones let_in false false its_open its_let_in same less is = absurd (false≢true is)
plain_needed deny true true open_ones let_in false false its_open its_let_in same less is = absurd (false≢true (less refl))
plain_needed deny false true true let_in false false its_open its_let_in same less is = cc
plain_needed deny false true false let_in false false its_open its_let_in same less is = cc

open_needed : (deny bar open_ones let_in its_bar its_open its_let_in : Bool) → kind_from deny false bar true open_ones true let_in ≡ kind_from deny false its_bar true its_open true its_let_in → (bar ≡ true → its_bar ≡ true)
    → open_ones ≡ true → (its_bar || its_open) ≡ true
open_needed deny bar open_ones let_in true its_open its_let_in same less is = refl
open_needed deny bar open_ones let_in false true its_let_in same less is = refl
open_needed deny bar false let_in false false its_let_in same less is = absurd (false≢true is)
open_needed deny true true let_in false false its_let_in same less is = absurd (false≢true (less refl))
open_needed deny false true let_in false false its_let_in same less is = cc

caller_needed : (deny bar open_ones let_in its_bar its_open its_let_in : Bool) → kind_from deny false bar true open_ones false let_in ≡ kind_from deny false its_bar true its_open false its_let_in → (bar ≡ true → its_bar ≡ true)
    → let_in ≡ true → (its_bar || (its_open || its_let_in)) ≡ true
caller_needed deny bar open_ones let_in true its_open its_let_in same less is = refl
caller_needed deny bar open_ones let_in false true its_let_in same less is = refl
caller_needed deny bar open_ones let_in false false true same less is = refl
caller_needed deny bar open_ones false false false false same less is = absurd (false≢true is)
caller_needed deny true open_ones true false false false same less is = absurd (false≢true (less refl))
caller_needed deny false true true false false false same less is = cc
caller_needed deny false false true false false false same less is = cc

good_from : (empty bar its_bar its_plain carried its_open open_ones its_any any_caller meant : Bool) → empty ≡ false → (its_bar ≡ true → bar ≡ true) → (its_plain ≡ true → (bar || carried) ≡ true) → (its_open ≡ true → (bar || open_ones) ≡ true)
    → (its_any ≡ true → (bar || (open_ones || any_caller)) ≡ true) → (bar ≡ false → open_ones ≡ false → any_caller ≡ false → meant ≡ true)
    → (not empty && (bar || (not its_bar && ((not its_plain || carried) && (open_ones || (not its_open && (any_caller || (not its_any && meant)))))))) ≡ true
good_from true bar its_bar its_plain carried its_open open_ones its_any any_caller meant some one two three four five = absurd (false≢true (sym some))
good_from false true its_bar its_plain carried its_open open_ones its_any any_caller meant some one two three four five = refl
good_from false false true its_plain carried its_open open_ones its_any any_caller meant some one two three four five = absurd (false≢true (one refl))
good_from false false false its_plain carried its_open open_ones its_any any_caller meant some one two three four five =
    both (not its_plain || carried) (open_ones || (not its_open && (any_caller || (not its_any && meant)))) (plainly its_plain two) (openly its_open open_ones its_any any_caller three four five)
  where
    plainly : (its : Bool) → (its ≡ true → (false || carried) ≡ true) → (not its || carried) ≡ true
    plainly true h = h refl
    plainly false h = refl

    openly : (its ones its_every every : Bool) → (its ≡ true → (false || ones) ≡ true) → (its_every ≡ true → (false || (ones || every)) ≡ true) → (false ≡ false → ones ≡ false → every ≡ false → meant ≡ true)
        → (ones || (not its && (every || (not its_every && meant)))) ≡ true
    openly its true its_every every h k m = refl
    openly true false its_every every h k m = absurd (false≢true (h refl))
    openly false false its_every true h k m = refl
    openly false false true false h k m = absurd (false≢true (k refl))
    openly false false false false h k m = m refl refl refl

none_of : {X : Type 0} (test : X → Bool) (xs : List X) → All (λ x. test x ≡ false) xs → list_any test xs ≡ false
none_of test [] all = refl
none_of test (x ∷ xs) all = ap₂ (λ a b. a || b) (All-head (λ y. test y ≡ false) x xs all) (none_of test xs (All-tail (λ y. test y ≡ false) x xs all))

held_by_none : (roles : List (List ℕ)) → list_any (lists []) roles ≡ false
held_by_none [] = refl
held_by_none (role ∷ roles) = held_by_none roles

or_none : (a : Bool) → (a || false) ≡ a
or_none true = refl
or_none false = refl

-- If a caller with only this role holds one of the roles, it is among them.
only_held : (role : List ℕ) (roles : List (List ℕ)) → list_any (lists (role ∷ [])) roles ≡ true → lists roles role ≡ true
only_held role roles some =
    found (lists roles role ≡ true) (lists (role ∷ [])) roles some
    (λ k d within same.
    let is : role ≡ slice_index_or roles k d = (bytes_eq-Decides role (slice_index_or roles k d)).0 (sym (or_none (bytes_eq role (slice_index_or roles k d))) ∙ same) in
    ap (lists roles) is ∙ in_texts roles (slice_index_or roles k d) (All-contains_itself roles k d within))

abbrev visitor : List (List ℕ) → Caller
visitor its_roles = record { number = 0; name = []; roles = its_roles }

module _ (rules : Rules) (number : ℕ) (pattern : List ℕ) (members : List Constraint) (some_of_others : list_any (has_number number) members ≡ true → (length (others number members) == 0) ≡ false) (alike : AreAlike rules number pattern members) where
  abbrev rest : List Constraint
  rest = others number members

  module _ (c : Constraint) (there : Contains members c) (own : has_number number c ≡ true) where
    some_members : list_any (has_number number) members ≡ true
    some_members = contained (has_number number) members c there own

    some_these : (length rest == 0) ≡ false
    some_these = some_of_others some_members

    abbrev secure_kind : Option Caller → List Constraint → Kind
    secure_kind caller cs = kind_from rules.deny_uncovered false (list_any precludes cs) true (list_any is_open cs) (is_none caller) (list_any (admits_caller rules caller) cs)

    secure_same : (caller : Option Caller) → secure_kind caller members ≡ secure_kind caller rest
    secure_same caller = sym (kind_secure rules caller pattern members (some_one (has_number number) members some_members)) ∙ (alike caller).1 ∙ kind_secure rules caller pattern rest some_these

    bars_less : list_any precludes members ≡ true → list_any precludes rest ≡ true
    bars_less =
        barred rules.deny_uncovered (list_any precludes members) (list_any is_open members) (list_any (admits_caller rules None) members) (list_any precludes rest) (list_any is_open rest) (list_any (admits_caller rules None) rest) (secure_same None)

    plain_less : permits_plain c ≡ true → (list_any precludes rest || list_any permits_plain rest) ≡ true
    plain_less is =
        plain_needed rules.deny_uncovered (list_any precludes members) (list_any permits_plain members) (list_any is_open members) (list_any (admits_caller rules None) members) (list_any precludes rest) (list_any permits_plain rest) (list_any is_open rest)
        (list_any (admits_caller rules None) rest)
        (sym (kind_some rules None pattern members (some_one (has_number number) members some_members)) ∙ (alike None).0 ∙ kind_some rules None pattern rest some_these) bars_less (contained permits_plain members c there is)

    open_less : is_open c ≡ true → (list_any precludes rest || list_any is_open rest) ≡ true
    open_less is =
        open_needed rules.deny_uncovered (list_any precludes members) (list_any is_open members) (list_any (admits_caller rules None) members) (list_any precludes rest) (list_any is_open rest) (list_any (admits_caller rules None) rest) (secure_same None) bars_less
        (contained is_open members c there is)

    callers_less : (who : Caller) → (admits_everyone c || list_any (lists who.roles) (roles_meant rules.declared c.auth)) ≡ true
        → (list_any precludes rest || (list_any is_open rest || (list_any admits_everyone rest || list_any (lists who.roles) (all_meant rules.declared rest)))) ≡ true
    callers_less who is =
        ap (λ b. list_any precludes rest || (list_any is_open rest || b)) (sym (admits_all rules who rest))
        ∙ caller_needed rules.deny_uncovered (list_any precludes members) (list_any is_open members) (list_any (admits_caller rules (Some who)) members) (list_any precludes rest) (list_any is_open rest) (list_any (admits_caller rules (Some who)) rest)
        (secure_same (Some who)) bars_less (contained (admits_caller rules (Some who)) members c there (admits_by rules who c.auth ∙ is))

    everyone_less : admits_everyone c ≡ true → (list_any precludes rest || (list_any is_open rest || list_any admits_everyone rest)) ≡ true
    everyone_less is =
        ap (λ b. list_any precludes rest || (list_any is_open rest || b)) (sym (or_none (list_any admits_everyone rest)) ∙ ap (λ b. list_any admits_everyone rest || b) (sym (held_by_none (all_meant rules.declared rest))))
        ∙ callers_less (visitor []) (ap (λ b. b || list_any (lists []) (roles_meant rules.declared c.auth)) is)

    abbrev its_roles : List (List ℕ)
    its_roles = roles_meant rules.declared c.auth

    role_less : (role : List ℕ) → lists its_roles role ≡ true → list_any precludes rest ≡ false → list_any is_open rest ≡ false → list_any admits_everyone rest ≡ false → lists (all_meant rules.declared rest) role ≡ true
    role_less role listed no_bars no_open no_one =
        only_held role (all_meant rules.declared rest)
        (sym (ap₂ (λ a b. a || (b || (list_any admits_everyone rest || list_any (lists (role ∷ [])) (all_meant rules.declared rest)))) no_bars no_open ∙ ap (λ b. b || list_any (lists (role ∷ [])) (all_meant rules.declared rest)) no_one)
        ∙ callers_less (visitor (role ∷ []))
        (or_right (admits_everyone c) (list_any (lists (role ∷ [])) its_roles) (any_in (lists (role ∷ [])) its_roles role listed (ap (λ b. b || false) ((bytes_eq-Decides role role).1 refl)))))

    pub decided_alike : decide_alike rules c rest ≡ true
    decided_alike =
        good_from (length rest == 0) (list_any precludes rest) (precludes c) (permits_plain c) (list_any permits_plain rest) (is_open c) (list_any is_open rest) (admits_everyone c) (list_any admits_everyone rest) (mean_its_roles rules.declared c rest) some_these
        (λ is. bars_less (contained precludes members c there is)) plain_less open_less everyone_less
        (λ no_bars no_open no_one. list_all-from_AllPass (lists (all_meant rules.declared rest)) its_roles
        (λ k d within. role_less (slice_index_or its_roles k d) (in_texts its_roles (slice_index_or its_roles k d) (All-contains_itself its_roles k d within)) no_bars no_open no_one))

  own_at : (c : Constraint) → Contains members c → (own : Bool) → has_number number c ≡ own → (own && not (decide_alike rules c rest)) ≡ false
  own_at c there true is = ap not (decided_alike c there is)
  own_at c there false is = refl

  pub not_among : matters_among rules number members ≡ false
  not_among =
      none_of (λ c. has_number number c && not (decide_alike rules c rest)) members
      (λ k d within. own_at (slice_index_or members k d) (All-contains_itself members k d within) (has_number number (slice_index_or members k d)) refl)

-- ---- All methods at a pattern.
module _ (rules : Rules) (number : ℕ) (pattern : List ℕ) (members : List Constraint) where
  abbrev names : List (List ℕ)
  names = rising (named_methods members pattern)

  abbrev matters_with : List ℕ → Bool
  matters_with method = matters_among rules number (filter (λ c. covers c pattern method) members)

  unnamed : (method : List ℕ) → lists names method ≡ false → matters_for rules number pattern members None ≡ matters_with method
  unnamed method none = ap (matters_among rules number) (unnamed_members pattern method members (sym (rising_lists (named_methods members pattern) method) ∙ none))

  at_method : (method : List ℕ) (named : Bool) → lists names method ≡ named → list_any matters_with names ≡ false → matters_for rules number pattern members None ≡ false → matters_with method ≡ false
  at_method method true is none others_not = no_from (matters_with method) (λ does. false≢true (sym (any_of matters_with names method none does) ∙ is))
  at_method method false is none others_not = sym (unnamed method is) ∙ others_not

  pub for_each : matters_on rules number pattern members ≡ false → (method : List ℕ) → matters_with method ≡ false
  unfolding matters_on
  for_each not_here method =
      let few_are : (nat_lt MAX_COMPARED_AT_PATTERN (length names) ≡ false) × ((list_any matters_with names || matters_for rules number pattern members None) ≡ false) =
      or_parts (nat_lt MAX_COMPARED_AT_PATTERN (length names)) (list_any matters_with names || matters_for rules number pattern members None) not_here in
      let parts : (list_any matters_with names ≡ false) × (matters_for rules number pattern members None ≡ false) = or_parts (list_any matters_with names) (matters_for rules number pattern members None) few_are.1 in
      at_method method (lists names method) refl parts.0 parts.1

  pub for_all : nat_lt MAX_COMPARED_AT_PATTERN (length names) ≡ false → ((method : List ℕ) → matters_with method ≡ false) → matters_on rules number pattern members ≡ false
  unfolding matters_on
  for_all few each =
      ap₂ (λ a b. a || b) few
      (ap₂ (λ a b. a || b) (none_of matters_with names (λ k d within. each (slice_index_or names k d))) (unnamed (fresh names) (is_fresh names) ∙ each (fresh names)))

-- ---- A constraint at a pattern.
swap_and : (a b : Bool) → (a && b) ≡ (b && a)
swap_and true true = refl
swap_and true false = refl
swap_and false true = refl
swap_and false false = refl

pub swapped : {X : Type 0} (p q : X → Bool) (xs : List X) → filter p (filter q xs) ≡ filter q (filter p xs)
swapped p q xs = filter_twice p q xs ∙ filter_same (λ x. q x && p x) (λ x. p x && q x) (λ x. swap_and (q x) (p x)) xs ∙ sym (filter_twice q p xs)

same_number : (n : ℕ) → (n == n) ≡ true
same_number n = grind arith

module _ (constraints : List Constraint) (rules : Rules) (constraint : Constraint) (pattern : List ℕ) where
  abbrev number : ℕ
  number = constraint.number

  abbrev here : List Constraint
  here = filter (λ c. lists_pattern c pattern) constraints

  abbrev is_other : Constraint → Bool
  is_other c = not (has_number number c)

  covered_here : (method : List ℕ) → filter (λ c. covers c pattern method) here ≡ covering constraints (Some pattern) method
  covered_here method = filter_within (λ c. covers c pattern method) (λ c. lists_pattern c pattern) (covers_listed pattern method) constraints

  -- Other constraints list the pattern exactly if they are among those that list it.
  others_listed : lists (all_patterns (others number constraints)) pattern ≡ not (length (others number here) == 0)
  others_listed =
      listed_any (others number constraints) pattern ∙ sym (some_filtered (λ c. lists_pattern c pattern) (others number constraints))
      ∙ ap (λ cs. not (length cs == 0)) (swapped (λ c. lists_pattern c pattern) is_other constraints)

  others_cover : (method : List ℕ) → is_uncovered (others number constraints) pattern method ≡ (length (others number (covering constraints (Some pattern) method)) == 0)
  others_cover method = ap (λ cs. length cs == 0) (swapped (λ c. covers c pattern method) is_other constraints)

  -- ---- It changes nothing if it does not matter.
  module _ (not_here : matters_by rules number pattern here ≡ false) where
    among_none : (method : List ℕ) → matters_among rules number (covering constraints (Some pattern) method) ≡ false
    among_none method =
        let parts : ((length (others number here) == 0) ≡ false) × ((nat_lt MAX_COMPARED_AT_PATTERN (length here) || matters_on rules number pattern here) ≡ false) =
        or_parts (length (others number here) == 0) (nat_lt MAX_COMPARED_AT_PATTERN (length here) || matters_on rules number pattern here) not_here in
        ap (matters_among rules number) (sym (covered_here method))
        ∙ for_each rules number pattern here ((or_parts (nat_lt MAX_COMPARED_AT_PATTERN (length here)) (matters_on rules number pattern here) parts.1).1) method

    same_uncovered : (method : List ℕ) (own : Bool) → list_any (has_number number) (covering constraints (Some pattern) method) ≡ own
        → (length (others number (covering constraints (Some pattern) method)) == 0) ≡ is_uncovered constraints pattern method
    same_uncovered method true is =
        some_others rules number pattern (covering constraints (Some pattern) method) (among_none method) is ∙ sym (some_one (has_number number) (covering constraints (Some pattern) method) is)
    same_uncovered method false is = ap (λ cs. length cs == 0) (all_others number (covering constraints (Some pattern) method) is)

    pub changes_nothing : ChangesNothing constraints rules constraint pattern
    changes_nothing = (
      others_listed ∙ ap not ((or_parts (length (others number here) == 0) (nat_lt MAX_COMPARED_AT_PATTERN (length here) || matters_on rules number pattern here) not_here).0),
      λ method. (
        others_cover method ∙ same_uncovered method (list_any (has_number number) (covering constraints (Some pattern) method)) refl,
        are_alike rules number pattern (covering constraints (Some pattern) method) (among_none method),
      ),
    )

  -- ---- It does not matter if it changes nothing.
  not_lt : (a b : ℕ) → b ≤ a → nat_lt a b ≡ false
  not_lt a b less = grind (arith, less)

  module _ (few : AreFew constraints pattern) (nothing : ChangesNothing constraints rules constraint pattern) where
    cover_some : (method : List ℕ) → list_any (has_number number) (covering constraints (Some pattern) method) ≡ true → (length (others number (covering constraints (Some pattern) method)) == 0) ≡ false
    cover_some method own = sym (others_cover method) ∙ (nothing.1 method).0 ∙ some_one (has_number number) (covering constraints (Some pattern) method) own

    each_none : (method : List ℕ) → matters_among rules number (filter (λ c. covers c pattern method) here) ≡ false
    each_none method =
        ap (matters_among rules number) (covered_here method) ∙ not_among rules number pattern (covering constraints (Some pattern) method) (cover_some method) ((nothing.1 method).1)

    few_names : nat_lt MAX_COMPARED_AT_PATTERN (length (rising (named_methods here pattern))) ≡ false
    few_names = ap (λ named. nat_lt MAX_COMPARED_AT_PATTERN (length (rising named))) (named_of_all pattern constraints) ∙ not_lt MAX_COMPARED_AT_PATTERN (length (rising (named_methods constraints pattern))) few.1

    pub matters_not : matters_by rules number pattern here ≡ false
    matters_not =
        ap₂ (λ a b. a || b) (not-true (length (others number here) == 0) (sym others_listed ∙ nothing.0))
        (ap₂ (λ a b. a || b) (not_lt MAX_COMPARED_AT_PATTERN (length here) few.0) (for_all rules number pattern here few_names each_none))

-- ---- Numbers that are kept.
equal_from : (a b : ℕ) → (a == b) ≡ true → a ≡ b
equal_from a b is = grind (arith, is)

module _ (keeps : ℕ → Bool) (number : ℕ) (numbers : List ℕ) where
  abbrev is_it : ℕ → Bool
  is_it other = other == number

  kept_passes : list_any is_it (filter keeps numbers) ≡ true → keeps number ≡ true
  kept_passes some =
      found (keeps number ≡ true) (λ other. keeps other && is_it other) numbers (sym (kept_any is_it keeps numbers) ∙ some)
      (λ k d within it.
      let other : ℕ = slice_index_or numbers k d in
      sym (ap keeps (equal_from other number (and_right (keeps other) (is_it other) it))) ∙ and_left (keeps other) (is_it other) it)

  passing_kept : keeps number ≡ true → list_any is_it numbers ≡ true → list_any is_it (filter keeps numbers) ≡ true
  passing_kept passes there =
      kept_any is_it keeps numbers
      ∙ found (list_any (λ other. keeps other && is_it other) numbers ≡ true) is_it numbers there
      (λ k d within it.
      let other : ℕ = slice_index_or numbers k d in
      list_any_at (λ x. keeps x && is_it x) numbers k d within (both (keeps other) (is_it other) (ap keeps (equal_from other number it) ∙ passes) it))

all_of : (test : List ℕ → Bool) (texts : List (List ℕ)) (text : List ℕ) → list_all test texts ≡ true → lists texts text ≡ true → test text ≡ true
all_of test texts text all there =
    found (test text ≡ true) (λ other. bytes_eq other text) texts there
    (λ k d within same. sym (ap test ((bytes_eq-Decides (slice_index_or texts k d) text).0 same)) ∙ AllPass-from_list_all test texts all k d within)

-- ---- An overruled constraint.
not_at_one : (b some all : Bool) → some ≡ not all → (not b || some) ≡ not (b && all)
not_at_one true some all below = below
not_at_one false some all below = refl

any_not : {X : Type 0} (test : X → Bool) (xs : List X) → list_any (λ x. not (test x)) xs ≡ not (list_all test xs)
any_not test [] = refl
any_not test (x ∷ xs) = not_at_one (test x) (list_any (λ y. not (test y)) xs) (list_all test xs) (any_not test xs)

module _ (constraints : List Constraint) (rules : Rules) (patterns : List (List ℕ)) (constraint : Constraint) where
  abbrev decides : List ℕ → Bool
  decides pattern = not (decides_nothing patterns pattern)

  abbrev deciding : List (List ℕ)
  deciding = deciding_patterns patterns constraint

  abbrev on : List ℕ → List Constraint
  on pattern = filter (λ c. lists_pattern c pattern) constraints

  abbrev matters : List ℕ → Bool
  matters pattern = matters_by rules constraint.number pattern (on pattern)

  abbrev changes_none : List ℕ → Bool
  changes_none pattern = is_overruled_at rules constraints constraint.number pattern

  pub not_at : is_overruled rules constraints patterns constraint ≡ true → (pattern : List ℕ) → lists (patterns_in constraint) pattern ≡ true → decides_nothing patterns pattern ≡ false → matters pattern ≡ false
  not_at over pattern listed some =
      not-true (matters pattern)
      (kept_passes (λ number. not (matters_by rules number pattern (on pattern))) constraint.number (numbers_of (on pattern))
      (all_of changes_none deciding pattern (and_right (not (length deciding == 0)) (list_all changes_none deciding) over)
      (passing_lists decides (patterns_in constraint) pattern ∙ both (lists (patterns_in constraint) pattern) (decides pattern) listed (ap not some))))

  module _ (there : Contains constraints constraint) where
    numbered : (pattern : List ℕ) → lists_pattern constraint pattern ≡ true → list_any (λ other. other == constraint.number) (numbers_of (on pattern)) ≡ true
    numbered pattern listing =
        any_seen (λ other. other == constraint.number) (λ c. c.number) (on pattern)
        ∙ kept_any (has_number constraint.number) (λ c. lists_pattern c pattern) constraints
        ∙ contained (λ c. lists_pattern c pattern && has_number constraint.number c) constraints constraint there
        (both (lists_pattern constraint pattern) (has_number constraint.number constraint) listing (same_number constraint.number))

    none_at : (pattern : List ℕ) → lists_pattern constraint pattern ≡ true → matters pattern ≡ false → changes_none pattern ≡ true
    none_at pattern listing none =
        passing_kept (λ number. not (matters_by rules number pattern (on pattern))) constraint.number (numbers_of (on pattern)) (ap not none) (numbered pattern listing)

    pub is_over : is_dead patterns constraint ≡ false → ((pattern : List ℕ) → lists (patterns_in constraint) pattern ≡ true → decides_nothing patterns pattern ≡ false → matters pattern ≡ false) → is_overruled rules constraints patterns constraint ≡ true
    is_over alive none =
        both (not (length deciding == 0)) (list_all changes_none deciding) (some_filtered decides (patterns_in constraint) ∙ any_not (decides_nothing patterns) (patterns_in constraint) ∙ ap not alive)
        (list_all-from_AllPass changes_none deciding
        (λ k d within.
        let pattern : List ℕ = slice_index_or deciding k d in
        let kept : (lists (patterns_in constraint) pattern && decides pattern) ≡ true = sym (passing_lists decides (patterns_in constraint) pattern) ∙ in_texts deciding pattern (All-contains_itself deciding k d within) in
        let listed : lists (patterns_in constraint) pattern ≡ true = and_left (lists (patterns_in constraint) pattern) (decides pattern) kept in
        none_at pattern (sym (listed_by pattern constraint) ∙ listed)
        (none pattern listed (not-true (decides_nothing patterns pattern) (and_right (lists (patterns_in constraint) pattern) (decides pattern) kept)))))
