-- The patterns that constraints list.
use Rattle.std.proofs.lemmas.Bool.{false≢true}
use Rattle.std.proofs.Common.{arith, ◌≡◌, ℕ, Bool, true, false, not, ◌||◌, ◌&&◌, List, [], ◌∷◌, ◌++◌, length, map, refl, ap, sym, ◌∙◌, cond, ◌==◌}
use Rattle.std.specs.Borrow.{Bor}
use Rattle.std.specs.Prelude.{filter, fold}
use Rattle.std.specs.List.{list_any}
use Rattle.std.specs.Str.{bytes_eq}
use Rattle.std.proofs.lemmas.List.Folds.{list_any-append}
use Rattle.std.proofs.lemmas.Slice.Eq.{bytes_eq-Decides}
use Rattle.sv_constraints.specs.Covering.{all_patterns, covers, covers_method, lists, patterns_in}
use Rattle.sv_constraints.specs.declared.constraint.Constraint.{Constraint}
use Rattle.sv_policy.specs.Patterns.{different, kept_once, lists_pattern}
use Rattle.sv_policy.proofs.Steps.{any_of_joined, any_same}

-- A mapped item passes a test exactly if the item passes the test after the map.
pub any_seen : {A X : Type 0} (test : X → Bool) (f : A → X) (xs : List A) → list_any test (map f xs) ≡ list_any (λ x. test (f x)) xs
any_seen test f [] = refl
any_seen test f (x ∷ xs) = ap (λ rest. test (f x) || rest) (any_seen test f xs)

pub listed_by : (text : List ℕ) (c : Constraint) → lists (patterns_in c) text ≡ lists_pattern c text
listed_by text c = any_of_joined (λ listed. bytes_eq listed text) (λ collection. collection.patterns) c.collections

-- A pattern is listed exactly if a constraint lists it.
pub listed_any : (constraints : List Constraint) (text : List ℕ) → lists (all_patterns constraints) text ≡ list_any (λ c. lists_pattern c text) constraints
listed_any constraints text =
    any_of_joined (λ listed. bytes_eq listed text) patterns_in constraints
    ∙ any_same (λ c. lists (patterns_in c) text) (λ c. lists_pattern c text) (listed_by text) constraints

some_cons : {X : Type 0} (b : Bool) (x : X) (xs : List X) (rest : Bool) → not (length xs == 0) ≡ rest → not (length (cond b (x ∷ xs) xs) == 0) ≡ (b || rest)
some_cons true x xs rest is = grind arith
some_cons false x xs rest is = is

pub some_filtered : {X : Type 0} (test : X → Bool) (xs : List X) → not (length (filter test xs) == 0) ≡ list_any test xs
some_filtered test [] = refl
some_filtered test (x ∷ xs) = some_cons (test x) x (filter test xs) (list_any test xs) (some_filtered test xs)

pub length_seen : {A X : Type 0} (f : A → X) (xs : List A) → length (map f xs) ≡ length xs
length_seen f [] = refl
length_seen f (x ∷ xs) = let below : length (map f xs) ≡ length xs = length_seen f xs in grind (arith, below)

-- A pattern is listed exactly if it has members.
pub listed_members : (constraints : List Constraint) (text other : List ℕ) (members : List (Bor Constraint)) → map (λ member. member.now) members ≡ filter (λ c. lists_pattern c text) constraints → text ≡ other → not (length members == 0) ≡ lists (all_patterns constraints) other
listed_members constraints text other members are same =
    ap (λ n. not (n == 0)) (sym (length_seen (λ member. member.now) members) ∙ ap length are)
    ∙ some_filtered (λ c. lists_pattern c text) constraints
    ∙ sym (listed_any constraints text)
    ∙ ap (lists (all_patterns constraints)) same

weaker_or : (a b r s : Bool) → (a ≡ true → b ≡ true) → (r ≡ true → s ≡ true) → (a || r) ≡ true → (b || s) ≡ true
weaker_or a true r s w v h = refl
weaker_or true false r s w v h = absurd (false≢true (w refl))
weaker_or false false r s w v h = v h

module _ {X : Type 0} (f g : X → Bool) (weaker : (x : X) → f x ≡ true → g x ≡ true) where
  any_weaker : (xs : List X) → list_any f xs ≡ true → list_any g xs ≡ true
  any_weaker [] found = found
  any_weaker (x ∷ xs) found = weaker_or (f x) (g x) (list_any f xs) (list_any g xs) (weaker x) (any_weaker xs) found

  stays_out : (a : Bool) (x : X) (rest : List X) → (a ≡ true → false ≡ true) → filter f rest ≡ cond a (x ∷ filter f rest) (filter f rest)
  stays_out true x rest w = absurd (false≢true (w refl))
  stays_out false x rest w = refl

  passes_in : (b : Bool) (x : X) (rest : List X) → (f x ≡ true → b ≡ true) → filter f (cond b (x ∷ rest) rest) ≡ cond (f x) (x ∷ filter f rest) (filter f rest)
  passes_in true x rest w = refl
  passes_in false x rest w = stays_out (f x) x rest w

  -- A filter after a weaker one.
  pub filter_within : (xs : List X) → filter f (filter g xs) ≡ filter f xs
  filter_within [] = refl
  filter_within (x ∷ xs) = passes_in (g x) x (filter g xs) (weaker x) ∙ ap (λ rest. cond (f x) (x ∷ rest) rest) (filter_within xs)

and_left : (a b : Bool) → (a && b) ≡ true → a ≡ true
and_left true b h = refl
and_left false b h = h

-- A constraint that covers a method at a pattern lists the pattern.
pub covers_listed : (pattern method : List ℕ) (c : Constraint) → covers c pattern method ≡ true → lists_pattern c pattern ≡ true
covers_listed pattern method c =
    any_weaker (λ collection. lists collection.patterns pattern && covers_method collection.methods method) (λ collection. lists collection.patterns pattern)
    (λ collection. and_left (lists collection.patterns pattern) (covers_method collection.methods method)) c.collections

-- A text is among the different ones exactly if it is among all.
absorbs : (a : Bool) → a ≡ true → a ≡ (a || true)
absorbs true h = refl
absorbs false h = h

kept_at : (kept : List (List ℕ)) (text other : List ℕ) (there same : Bool) → lists kept text ≡ there → (same ≡ true → lists kept text ≡ lists kept other) → bytes_eq text other ≡ same → lists (cond there kept (kept ++ text ∷ [])) other ≡ (lists kept other || same)
kept_at kept text other true true is meets at = absorbs (lists kept other) (sym (meets refl) ∙ is)
kept_at kept text other true false is meets at = no_more (lists kept other)
  where
    no_more : (a : Bool) → a ≡ (a || false)
    no_more true = refl
    no_more false = refl
kept_at kept text other false same is meets at = list_any-append (λ listed. bytes_eq listed other) kept (text ∷ []) ∙ ap (λ b. lists kept other || (b || false)) at ∙ last (lists kept other) same
  where
    last : (a b : Bool) → (a || (b || false)) ≡ (a || b)
    last true b = refl
    last false true = refl
    last false false = refl

kept_more : (kept : List (List ℕ)) (text other : List ℕ) → lists (kept_once kept text) other ≡ (lists kept other || bytes_eq text other)
kept_more kept text other = kept_at kept text other (lists kept text) (bytes_eq text other) refl (λ same. ap (lists kept) ((bytes_eq-Decides text other).0 same)) refl

or_through : (a b c : Bool) → ((a || b) || c) ≡ (a || (b || c))
or_through true b c = refl
or_through false b c = refl

different_from : (kept texts : List (List ℕ)) (other : List ℕ) → lists (fold kept_once kept texts) other ≡ (lists kept other || lists texts other)
different_from kept [] other = nothing (lists kept other)
  where
    nothing : (a : Bool) → a ≡ (a || false)
    nothing true = refl
    nothing false = refl
different_from kept (text ∷ texts) other =
    different_from (kept_once kept text) texts other ∙ ap (λ b. b || lists texts other) (kept_more kept text other)
    ∙ or_through (lists kept other) (bytes_eq text other) (lists texts other)

pub different_lists : (texts : List (List ℕ)) (other : List ℕ) → lists (different texts) other ≡ lists texts other
different_lists texts other = different_from [] texts other
