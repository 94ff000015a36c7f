-- The search for an option among the words of settings.
use Rattle.std.proofs.Common.{◌≡◌, ℕ, Bool, true, false, List, [], ◌∷◌, ◌++◌, Option, Some, None, length, map, refl, sym, ap, subst, arith, ◌∙◌, is_some}
use denote.Ref.{Bor}
use Rattle.std.proofs.lemmas.Bool.{true≢false}
use Rattle.std.proofs.lemmas.List.{length-append, length-map, map-append}
use Rattle.std.proofs.lemmas.List.Elements.{All-head, All-tail}
use Rattle.std.specs.Prelude.{All}
use Rattle.sv_arguments.proofs.Decoding.{flag_empty, key_word_injective, same_heads, settings_of_no_words, some_word}
use Rattle.sv_arguments.proofs.Setting.{other_value, own_value}
use Rattle.sv_arguments.specs.Given.{IsFirst, IsSplit}
use Rattle.sv_arguments.specs.Options.{IsProper}
use Rattle.sv_arguments.specs.Settings.{Setting, Keyed, key_word, own_words, setting_words, takes_word, value_in, values, words_of}
use Rattle.sv_arguments.specs.declared.key.Key.{Key}
use Rattle.sv_arguments.specs.declared.option_set.OptionSet.{OptionSet}

-- no setting before the rest has the option
abbrev pub IsWalked : OptionSet → Key → List (List ℕ) → List (List ℕ) → Type 0
IsWalked set key words rest =
    (settings : List Setting) → words ≡ words_of settings → All (IsProper set) settings
    → (more : List Setting) × (rest ≡ words_of more) × All (IsProper set) more × (values key settings ≡ values key more)

-- the words begin with a setting of this word and others
abbrev pub Splits : {S : Type 0} → (S → List ℕ) → OptionSet → List ℕ → List (List ℕ) → Option (Bor (List ℕ) × Bor (List S)) → Type 0
Splits text set word after found =
    (key : Key) (value : List ℕ) (rest : List (List ℕ)) → word ∷ after ≡ setting_words (Keyed key value) ++ rest → IsProper set (Keyed key value)
    → IsSplit text value rest found

pub walk_starts : (set : OptionSet) (key : Key) (words : List (List ℕ)) → IsWalked set key words words
walk_starts set key words settings is all = (settings, is, all, refl)

module _ {S : Type 0} (text : S → List ℕ) (set : OptionSet) (key : Key) (words : List (List ℕ)) where
  word_of : (word : List ℕ) (after : List (List ℕ)) (own : Key) (value : List ℕ) (rest : List (List ℕ)) → word ∷ after ≡ setting_words (Keyed own value) ++ rest
      → word ≡ key_word own
  word_of word after own value rest same = (same_heads word (key_word own) after (own_words (takes_word own) value ++ rest) same).0

  pub walk_goes_on : (word : List ℕ) (after : List (List ℕ)) (value : Bor (List ℕ)) (others : Bor (List S)) → IsWalked set key words (word ∷ after)
      → (word ≡ key_word key → ⊥) → Splits text set word after (Some (value, others)) → IsWalked set key words (map text others.now)
  walk_goes_on word after value others walked other splits settings is all =
      let reached = walked settings is all in
      step reached.0 reached.1 reached.2 reached.3
    where
      step : (more : List Setting) → word ∷ after ≡ words_of more → All (IsProper set) more → values key settings ≡ values key more
          → (left : List Setting) × (map text others.now ≡ words_of left) × All (IsProper set) left × (values key settings ≡ values key left)
      step [] at own same = absurd (some_word word after (sym at))
      step (Keyed k v ∷ more) at own same = (
        more,
        (splits k v (words_of more) at (All-head (IsProper set) (Keyed k v) more own)).1,
        All-tail (IsProper set) (Keyed k v) more own,
        same ∙ ap (λ (front : List (List ℕ)). front ++ values key more)
            (other_value key k v (λ is. other (word_of word after k v (words_of more) at ∙ ap key_word (sym is)))),
      )

  pub walk_finds : (word : List ℕ) (after : List (List ℕ)) (value : Bor (List ℕ)) (others : Bor (List S)) → IsWalked set key words (word ∷ after)
      → word ≡ key_word key → Splits text set word after (Some (value, others)) → (settings : List Setting) → words ≡ words_of settings
      → All (IsProper set) settings → IsFirst (values key settings) (Some value)
  walk_finds word after value others walked named splits settings is all =
      let reached = walked settings is all in
      let First : List (List ℕ) → Type 0 = λ found. IsFirst found (Some value) in
      subst First (sym reached.3) (at_first reached.0 reached.1 reached.2)
    where
      at_first : (more : List Setting) → word ∷ after ≡ words_of more → All (IsProper set) more → IsFirst (values key more) (Some value)
      at_first [] at own = absurd (some_word word after (sym at))
      at_first (Keyed k v ∷ more) at own =
          let same : key ≡ k = key_word_injective key k (sym named ∙ word_of word after k v (words_of more) at) in
          let First : List (List ℕ) → Type 0 = λ found. IsFirst (found ++ values key more) (Some value) in
          let Own : Key → Type 0 = λ any. value_in any (Keyed k v) ≡ v ∷ [] in
          subst First (sym (subst Own (sym same) (own_value k v))) (splits k v (words_of more) at (All-head (IsProper set) (Keyed k v) more own)).0

  pub walk_fails : (word : List ℕ) (after : List (List ℕ)) → IsWalked set key words (word ∷ after) → Splits text set word after None
      → (settings : List Setting) → words ≡ words_of settings → All (IsProper set) settings → ⊥
  walk_fails word after walked splits settings is all =
      let reached = walked settings is all in at_once reached.0 reached.1 reached.2
    where
      at_once : (more : List Setting) → word ∷ after ≡ words_of more → All (IsProper set) more → ⊥
      at_once [] at own = some_word word after (sym at)
      at_once (Keyed k v ∷ more) at own = splits k v (words_of more) at (All-head (IsProper set) (Keyed k v) more own)

  pub walk_ends : IsWalked set key words [] → (settings : List Setting) → words ≡ words_of settings → All (IsProper set) settings
      → IsFirst (values key settings) None
  walk_ends walked settings is all =
      let reached = walked settings is all in
      let First : List (List ℕ) → Type 0 = λ found. IsFirst found None in
      subst First (sym (reached.3 ∙ ap (values key) (settings_of_no_words set set reached.0 reached.1))) tt

-- the words after the word of an option that takes no word, or takes one
module _ (set : OptionSet) (found key : Key) (word value : List ℕ) (after rest : List (List ℕ)) (named : word ≡ key_word found)
    (same : word ∷ after ≡ setting_words (Keyed key value) ++ rest) (proper : IsProper set (Keyed key value)) where
  own : found ≡ key
  own = key_word_injective found key (sym named ∙ (same_heads word (key_word key) after (own_words (takes_word key) value ++ rest) same).0)

  tail : (takes : Bool) → takes_word found ≡ takes → after ≡ own_words takes value ++ rest
  tail takes is =
      let taken : takes_word key ≡ takes = sym (ap takes_word own) ∙ is in
      (same_heads word (key_word key) after (own_words (takes_word key) value ++ rest) same).1
      ∙ ap (λ (test : Bool). own_words test value ++ rest) taken

  pub flag_splits : takes_word found ≡ false → ([] ≡ value) × (after ≡ rest)
  flag_splits is = (sym (flag_empty key value proper.1 (sym (ap takes_word own) ∙ is)), tail false is)

  pub word_splits : takes_word found ≡ true → after ≡ value ∷ rest
  word_splits is = tail true is

longer : {A : Type 0} (b x y : List A) (h : A) → length x ≡ length y → x ≡ h ∷ (b ++ y) → ⊥
longer b x y h len same = omega (arith, ap length same, length-append b y, len)

same_fronts : {A : Type 0} (a b x y : List A) → length x ≡ length y → a ++ x ≡ b ++ y → a ≡ b
same_fronts [] [] x y len same = refl
same_fronts [] (h ∷ b) x y len same = absurd (longer b x y h len same)
same_fronts (h ∷ a) [] x y len same = absurd (longer a y x h (sym len) (sym same))
same_fronts (h ∷ a) (k ∷ b) x y len same =
    let heads = same_heads h k (a ++ x) (b ++ y) same in
    ap (λ (first : _). first ∷ a) heads.0 ∙ ap (λ (others : List _). k ∷ others) (same_fronts a b x y len heads.1)

-- the words before the rest
pub words_before : {A : Type 0} (text : A → List ℕ) (words front back rest : List A) (before : List (List ℕ)) → words ≡ front ++ back
    → length back ≡ length rest → map text words ≡ before ++ map text rest → map text front ≡ before
words_before text words front back rest before is len same =
    same_fronts (map text front) before (map text back) (map text rest) (length-map back text ∙ len ∙ sym (length-map rest text))
    (sym (ap (map text) is ∙ map-append text front back) ∙ same)

pub unset : (words : List (List ℕ)) (found : Option (Bor (List ℕ))) → IsFirst words found → is_some found ≡ false → words ≡ []
unset [] found is none = refl
unset (word ∷ words) (Some value) is none = absurd (true≢false none)
unset (word ∷ words) None is none = absurd is
