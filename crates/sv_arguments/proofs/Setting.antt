-- One more setting.
use Rattle.std.proofs.Common.{◌≡◌, ℕ, ◌≤◌, ◌⊎◌, inl, inr, Bool, true, false, List, [], ◌∷◌, ◌++◌, Some, None, cond, length, refl, sym, ap, subst, arith, ◌∙◌, append-nil}
use Rattle.std.proofs.lemmas.Bool.{false≢true, true≢false}
use Rattle.std.proofs.lemmas.Grind.{flat_map-append}
use Rattle.std.proofs.lemmas.List.Elements.{All-cons, All-contains, All-contains_itself, All-from_recursion, All-head, All-nil, All-push, All-tail, All-weaker}
use Rattle.std.specs.Prelude.{All}
use Rattle.std.proofs.lemmas.Slice.Eq.{bytes_eq-Decides}
use Rattle.std.specs.List.{Contains, find}
use Rattle.std.specs.Str.{bytes_eq}
use Rattle.sv_arguments.proofs.Decoding.{key_word_injective, same_heads, some_word}
use Rattle.sv_arguments.specs.OptionFault.{IsFree}
use Rattle.sv_arguments.specs.Options.{AreProper, IsProper, IsValue}
use Rattle.sv_arguments.specs.Settings.{Setting, Keyed, given_rival, has_word, is_given, key_word, own_words, rivals, set_of, setting_words, takes_word, value_in, values}
use Rattle.sv_arguments.specs.declared.key.Key.{Key}
use Rattle.sv_arguments.specs.declared.key.Key.TheVariants.{Accept, As, Diff, EndAllSessions, FailOn, Format, Lines, Method, Path, Role, SameSeed, Secure, UnknownFiles}
use Rattle.sv_arguments.specs.declared.option_set.OptionSet.{OptionSet}

-- two options are the same or not
pub same_key : (a b : Key) → (a ≡ b) ⊎ (a ≡ b → ⊥)
same_key a b = by (bytes_eq (key_word a) (key_word b)) refl
  where
    by : (test : Bool) → bytes_eq (key_word a) (key_word b) ≡ test → (a ≡ b) ⊎ (a ≡ b → ⊥)
    by true is = inl (key_word_injective a b ((bytes_eq-Decides (key_word a) (key_word b)).0 is))
    by false is = inr (λ same. false≢true (sym is ∙ (bytes_eq-Decides (key_word a) (key_word b)).1 (ap key_word same)))

pub own_value : (key : Key) (word : List ℕ) → value_in key (Keyed key word) ≡ word ∷ []
own_value key word = ap (λ (same : Bool). own_words same word) ((bytes_eq-Decides (key_word key) (key_word key)).1 refl)

pub other_value : (key own : Key) (word : List ℕ) → (key ≡ own → ⊥) → value_in key (Keyed own word) ≡ []
other_value key own word other = by (bytes_eq (key_word key) (key_word own)) refl
  where
    by : (test : Bool) → bytes_eq (key_word key) (key_word own) ≡ test → own_words test word ≡ []
    by true is = absurd (other (key_word_injective key own ((bytes_eq-Decides (key_word key) (key_word own)).0 is)))
    by false is = refl

-- the words after an option, with one more setting
values_more : (key : Key) (done : List Setting) (s : Setting) → values key (done ++ s ∷ []) ≡ values key done ++ value_in key s
values_more key done s =
    flat_map-append (value_in key) done (s ∷ []) ∙ ap (λ (words : List (List ℕ)). values key done ++ words) (append-nil (value_in key s))

values_own : (key : Key) (word : List ℕ) (done : List Setting) → values key done ≡ [] → values key (done ++ Keyed key word ∷ []) ≡ word ∷ []
values_own key word done free =
    values_more key done (Keyed key word) ∙ ap (λ (words : List (List ℕ)). words ++ value_in key (Keyed key word)) free ∙ own_value key word

values_other : (key own : Key) (word : List ℕ) (done : List Setting) → (key ≡ own → ⊥) → values key (done ++ Keyed own word ∷ []) ≡ values key done
values_other key own word done other =
    values_more key done (Keyed own word) ∙ ap (λ (words : List (List ℕ)). values key done ++ words) (other_value key own word other)
    ∙ append-nil (values key done)

-- whether an option is given, with one more setting
given_other : (key own : Key) (word : List ℕ) (done : List Setting) → (key ≡ own → ⊥)
    → is_given (done ++ Keyed own word ∷ []) key ≡ is_given done key
given_other key own word done other = ap has_word (values_other key own word done other)

no_words : (words : List (List ℕ)) → has_word words ≡ false → words ≡ []
no_words [] none = refl
no_words (word ∷ words) none = absurd (true≢false none)

pub some_none : (key : Key) → Some key ≡ None → ⊥
some_none key same = cc

module _ (p : Key → Bool) where
  none_first : (key : Key) (keys : List Key) (test : Bool) → p key ≡ test → (find p keys ≡ None → All (λ other. p other ≡ false) keys)
      → cond test (Some key) (find p keys) ≡ None → All (λ other. p other ≡ false) (key ∷ keys)
  none_first key keys true is deeper none = absurd (some_none key none)
  none_first key keys false is deeper none = All-cons (λ other. p other ≡ false) key keys is (deeper none)

  pub none_passes : (keys : List Key) → find p keys ≡ None → All (λ key. p key ≡ false) keys
  none_passes [] none = All-nil (λ key. p key ≡ false)
  none_passes (key ∷ keys) none = none_first key keys (p key) refl (none_passes keys) none

  pub finds_none : (keys : List Key) → All (λ key. p key ≡ false) keys → find p keys ≡ None
  finds_none [] all = refl
  finds_none (key ∷ keys) all =
      ap (λ (test : Bool). cond test (Some key) (find p keys)) (All-head (λ other. p other ≡ false) key keys all)
      ∙ finds_none keys (All-tail (λ other. p other ≡ false) key keys all)

-- an option is among those that its rivals exclude
each_back : (a : Key) → All (λ b. Contains (rivals b) a) (rivals a)
each_back Format = All-from_recursion (λ b. Contains (rivals b) Format) (rivals Format) ((0, omega arith, refl), tt)
each_back As = All-from_recursion (λ b. Contains (rivals b) As) (rivals As) ((0, omega arith, refl), ((0, omega arith, refl), tt))
each_back Role = All-from_recursion (λ b. Contains (rivals b) Role) (rivals Role) ((0, omega arith, refl), ((1, omega arith, refl), tt))
each_back FailOn = All-from_recursion (λ b. Contains (rivals b) FailOn) (rivals FailOn) ((1, omega arith, refl), tt)
each_back Accept = All-from_recursion (λ b. Contains (rivals b) Accept) (rivals Accept) ((2, omega arith, refl), ((2, omega arith, refl), tt))
each_back Lines = All-from_recursion (λ b. Contains (rivals b) Lines) (rivals Lines) ((3, omega arith, refl), tt)
each_back UnknownFiles = All-from_recursion (λ b. Contains (rivals b) UnknownFiles) (rivals UnknownFiles) ((4, omega arith, refl), tt)
each_back Path =
    All-from_recursion (λ b. Contains (rivals b) Path) (rivals Path)
    ((0, omega arith, refl), ((0, omega arith, refl), ((0, omega arith, refl), ((5, omega arith, refl), tt))))
each_back Method = All-from_recursion (λ b. Contains (rivals b) Method) (rivals Method) ((6, omega arith, refl), tt)
each_back Diff =
    All-from_recursion (λ b. Contains (rivals b) Diff) (rivals Diff)
    ((1, omega arith, refl), ((1, omega arith, refl), ((1, omega arith, refl), ((0, omega arith, refl), ((0, omega arith, refl), ((3, omega arith, refl), ((0, omega arith, refl), tt)))))))
each_back other = All-nil (λ b. Contains (rivals b) other)

rivals_back : (a b : Key) → Contains (rivals a) b → Contains (rivals b) a
rivals_back a b member = All-contains (λ (k : Key). Contains (rivals k) a) (rivals a) b (each_back a) member

each_other : (a : Key) → All (λ b. b ≡ a → ⊥) (rivals a)
each_other Format = All-from_recursion (λ b. b ≡ Format → ⊥) (rivals Format) (λ same. cc, tt)
each_other As = All-from_recursion (λ b. b ≡ As → ⊥) (rivals As) (λ same. cc, (λ same. cc, tt))
each_other Role = All-from_recursion (λ b. b ≡ Role → ⊥) (rivals Role) (λ same. cc, (λ same. cc, tt))
each_other FailOn = All-from_recursion (λ b. b ≡ FailOn → ⊥) (rivals FailOn) (λ same. cc, tt)
each_other Accept = All-from_recursion (λ b. b ≡ Accept → ⊥) (rivals Accept) (λ same. cc, (λ same. cc, tt))
each_other Lines = All-from_recursion (λ b. b ≡ Lines → ⊥) (rivals Lines) (λ same. cc, tt)
each_other UnknownFiles = All-from_recursion (λ b. b ≡ UnknownFiles → ⊥) (rivals UnknownFiles) (λ same. cc, tt)
each_other Path = All-from_recursion (λ b. b ≡ Path → ⊥) (rivals Path) (λ same. cc, (λ same. cc, (λ same. cc, (λ same. cc, tt))))
each_other Method = All-from_recursion (λ b. b ≡ Method → ⊥) (rivals Method) (λ same. cc, tt)
each_other Diff =
    All-from_recursion (λ b. b ≡ Diff → ⊥) (rivals Diff)
    (λ same. cc, (λ same. cc, (λ same. cc, (λ same. cc, (λ same. cc, (λ same. cc, (λ same. cc, tt)))))))
each_other other = All-nil (λ b. b ≡ other → ⊥)

own_rival : (a : Key) → Contains (rivals a) a → ⊥
own_rival a member = All-contains (λ (b : Key). b ≡ a → ⊥) (rivals a) a (each_other a) member refl

-- of two options that exclude each other, one is not given
pub either_none : (set : OptionSet) (settings : List Setting) → AreProper set settings → (a b : Key) → Contains (rivals a) b
    → (values a settings ≡ []) ⊎ (values b settings ≡ [])
either_none set settings proper a b member = by (is_given settings a) refl
  where
    by : (given : Bool) → is_given settings a ≡ given → (values a settings ≡ []) ⊎ (values b settings ≡ [])
    by false is = inl (no_words (values a settings) is)
    by true is =
        inr (no_words (values b settings)
        (All-contains (λ (k : Key). is_given settings k ≡ false) (rivals a) b (none_passes (is_given settings) (rivals a) (proper.2 a is)) member))

module _ (set : OptionSet) where
  pub none_proper : AreProper set []
  none_proper = (All-nil (IsProper set), λ key. omega arith, λ key given. absurd (false≢true given))

  module _ (done : List Setting) (key : Key) (word : List ℕ) (proper : AreProper set done) (free : IsFree set done key) where
    once_at : (any : Key) → (any ≡ key) ⊎ (any ≡ key → ⊥) → length (values any (done ++ Keyed key word ∷ [])) ≤ 1
    once_at any (inl same) =
        let Few : List (List ℕ) → Type 0 = λ words. length words ≤ 1 in
        let Once : Key → Type 0 = λ k. length (values k (done ++ Keyed key word ∷ [])) ≤ 1 in
        let one : length (word ∷ []) ≤ 1 = omega arith in
        subst Once (sym same) (subst Few (sym (values_own key word done free.1)) one)
    once_at any (inr other) =
        let Few : List (List ℕ) → Type 0 = λ words. length words ≤ 1 in
        subst Few (sym (values_other any key word done other)) (proper.1 any)

    -- an option that is not given yet
    still : (a b : Key) → Contains (rivals a) b → All (λ k. is_given done k ≡ false) (rivals a) → (Contains (rivals a) key → ⊥) → (b ≡ key) ⊎ (b ≡ key → ⊥)
        → is_given (done ++ Keyed key word ∷ []) b ≡ false
    still a b member none apart (inl same) =
        let Has : Key → Type 0 = λ k. Contains (rivals a) k in absurd (apart (subst Has same member))
    still a b member none apart (inr other) =
        given_other b key word done other ∙ All-contains (λ (k : Key). is_given done k ≡ false) (rivals a) b none member

    still_none : (a : Key) → given_rival done a ≡ None → (Contains (rivals a) key → ⊥) → given_rival (done ++ Keyed key word ∷ []) a ≡ None
    still_none a none apart =
        finds_none (is_given (done ++ Keyed key word ∷ [])) (rivals a)
        (All-weaker (λ b. Contains (rivals a) b) (λ b. is_given (done ++ Keyed key word ∷ []) b ≡ false)
        (λ b member. still a b member (none_passes (is_given done) (rivals a) none) apart (same_key b key)) (rivals a) (All-contains_itself (rivals a)))

    no_rivals : (a : Key) → is_given (done ++ Keyed key word ∷ []) a ≡ true → (a ≡ key) ⊎ (a ≡ key → ⊥)
        → given_rival (done ++ Keyed key word ∷ []) a ≡ None
    no_rivals a given (inl same) =
        let None_at : Key → Type 0 = λ k. given_rival (done ++ Keyed key word ∷ []) k ≡ None in
        subst None_at (sym same) (still_none key free.2 (own_rival key))
    no_rivals a given (inr other) =
        let before : is_given done a ≡ true = sym (given_other a key word done other) ∙ given in
        still_none a (proper.2 a before)
        (λ member. false≢true
        (sym (All-contains (λ (k : Key). is_given done k ≡ false) (rivals key) a (none_passes (is_given done) (rivals key) free.2) (rivals_back a key member))
        ∙ before))

    pub proper_more : IsValue key word → AreProper set (done ++ Keyed key word ∷ [])
    proper_more is = (
      All-push (IsProper set) done (Keyed key word) proper.0 (free.0, is),
      λ any. once_at any (same_key any key),
      λ a given. no_rivals a given (same_key a key),
    )

-- the word after an option is a value of it
own_proper : (set : OptionSet) (key own : Key) (word value : List ℕ) (settings : List Setting) → IsProper set (Keyed own value)
    → (values key settings ≡ word ∷ [] → IsValue key word) → (key ≡ own) ⊎ (key ≡ own → ⊥) → values key (Keyed own value ∷ settings) ≡ word ∷ []
    → IsValue key word
own_proper set key own word value settings proper deeper (inl same) is =
    let Own : Key → Type 0 = λ k. value_in k (Keyed own value) ++ values key settings ≡ word ∷ [] in
    let heads = same_heads value word (values key settings) []
    (sym (ap (λ (words : List (List ℕ)). words ++ values key settings) (own_value own value)) ∙ subst Own same is) in
    let At : Key → Type 0 = λ k. IsValue k word in
    let Is : List ℕ → Type 0 = λ text. IsValue own text in
    subst At (sym same) (subst Is heads.0 proper.1)
own_proper set key own word value settings proper deeper (inr other) is =
    deeper (sym (ap (λ (words : List (List ℕ)). words ++ values key settings) (other_value key own value other)) ∙ is)

pub value_proper : (set : OptionSet) (key : Key) (word : List ℕ) (settings : List Setting) → All (IsProper set) settings → values key settings ≡ word ∷ []
    → IsValue key word
value_proper set key word [] all is = absurd (some_word word [] is)
value_proper set key word (Keyed own value ∷ settings) all is =
    own_proper set key own word value settings (All-head (IsProper set) (Keyed own value) settings all)
    (value_proper set key word settings (All-tail (IsProper set) (Keyed own value) settings all)) (same_key key own) is

own_given : (set : OptionSet) (key own : Key) (value : List ℕ) (settings : List Setting) → IsProper set (Keyed own value)
    → (is_given settings key ≡ true → set_of key ≡ set) → (key ≡ own) ⊎ (key ≡ own → ⊥) → is_given (Keyed own value ∷ settings) key ≡ true
    → set_of key ≡ set
own_given set key own value settings proper deeper (inl same) given = ap set_of same ∙ proper.0
own_given set key own value settings proper deeper (inr other) given =
    deeper (sym (ap (λ (words : List (List ℕ)). has_word (words ++ values key settings)) (other_value key own value other)) ∙ given)

-- an option that is given is one of the command
pub given_proper : (set : OptionSet) (key : Key) (settings : List Setting) → All (IsProper set) settings → is_given settings key ≡ true → set_of key ≡ set
given_proper set key [] all given = absurd (false≢true given)
given_proper set key (Keyed own value ∷ settings) all given =
    own_given set key own value settings (All-head (IsProper set) (Keyed own value) settings all)
    (given_proper set key settings (All-tail (IsProper set) (Keyed own value) settings all)) (same_key key own) given

-- an option that takes no word has the empty one
pub flag_value : (key : Key) → takes_word key ≡ false → IsValue key []
flag_value EndAllSessions none = refl
flag_value SameSeed none = refl
flag_value Secure none = refl
flag_value UnknownFiles none = refl
flag_value other none = absurd (true≢false none)

-- the words of an option
pub flag_words : (key : Key) (word : List ℕ) (after : List (List ℕ)) → word ≡ key_word key → takes_word key ≡ false
    → word ∷ after ≡ setting_words (Keyed key []) ++ after
flag_words key word after named none =
    ap (λ (first : List ℕ). first ∷ after) named
    ∙ ap (λ (takes : Bool). key_word key ∷ (own_words takes [] ++ after)) (sym none)

pub keyed_words : (key : Key) (word value : List ℕ) (after rest : List (List ℕ)) → word ≡ key_word key → after ≡ value ∷ rest → word ∷ after ≡ key_word key ∷ value ∷ rest
keyed_words key word value after rest named behind = ap (λ (first : List ℕ). first ∷ after) named ∙ ap (λ (others : List (List ℕ)). key_word key ∷ others) behind

pub taken_words : (key : Key) (word value : List ℕ) (after rest : List (List ℕ)) → word ≡ key_word key → after ≡ value ∷ rest → takes_word key ≡ true
    → word ∷ after ≡ setting_words (Keyed key value) ++ rest
taken_words key word value after rest named behind some =
    keyed_words key word value after rest named behind
    ∙ ap (λ (takes : Bool). key_word key ∷ (own_words takes value ++ rest)) (sym some)
