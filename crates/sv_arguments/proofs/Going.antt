-- The arguments read so far.
use Rattle.std.proofs.Common.{◌≡◌, ℕ, List, [], ◌∷◌, ◌++◌, None, Result, Ok, Err, arith, length, map, subst, sym, ap, refl, ◌∙◌, append-nil, append_assoc}
use Rattle.std.proofs.lemmas.Bool.{false≢true}
use Rattle.std.proofs.lemmas.Grind.{flat_map-append}
use Rattle.std.specs.Prelude.{IfErr}
use Rattle.std.specs.Result.{IsErrAnd}
use Rattle.sv_arguments.proofs.Lone.{needed_given}
use Rattle.sv_arguments.specs.Given.{AreAllOf, AreOf, IsNext}
use Rattle.sv_arguments.specs.OptionFault.{IsLone, IsRefused, IsWrong}
use Rattle.sv_arguments.specs.Options.{AreProper, HasUnfit}
use Rattle.sv_arguments.specs.Settings.{Setting, setting_words, words_of}
use Rattle.sv_arguments.specs.Values.{Finds}
use Rattle.sv_arguments.specs.declared.option_fault.OptionFault.{OptionFault}
use Rattle.sv_arguments.specs.declared.option_fault.OptionFault.TheVariants.{NoServer, Unknown, Twice, Excluded, NoValue, BadValue, Alone, Unfit}
use Rattle.sv_arguments.specs.declared.option_set.OptionSet.{OptionSet}

-- the words before the rest are those of proper settings
abbrev pub IsReached : OptionSet → List (List ℕ) → List (List ℕ) → Type 0
IsReached set words rest = (done : List Setting) × (words ≡ words_of done ++ rest) × AreProper set done

one_more : (done : List Setting) (setting : Setting) (rest : List (List ℕ))
    → words_of done ++ (setting_words setting ++ rest) ≡ words_of (done ++ setting ∷ []) ++ rest
one_more done setting rest =
    sym (append_assoc (words_of done) (setting_words setting) rest)
    ∙ ap (λ (words : List (List ℕ)). words ++ rest)
    (sym (flat_map-append setting_words done (setting ∷ []) ∙ ap (λ (words : List (List ℕ)). words_of done ++ words) (append-nil (setting_words setting))))

module _ (set : OptionSet) (words rest left : List (List ℕ)) (reached : IsReached set words rest) (same : rest ≡ left) where
  reached_left : words ≡ words_of reached.0 ++ left
  reached_left = reached.1 ∙ ap (λ (all : List (List ℕ)). words_of reached.0 ++ all) same

  pub goes_on : (others : List (List ℕ)) → IsNext set reached.0 left others → IsReached set words others
  goes_on others next = (
    reached.0 ++ next.0 ∷ [],
    reached_left ∙ ap (λ (all : List (List ℕ)). words_of reached.0 ++ all) next.1 ∙ one_more reached.0 next.0 others,
    next.2,
  )

  -- the arguments are refused at the words that could not be read
  pub refused_at : (arguments : List (List ℕ)) (config : List ℕ) (fault : OptionFault) → arguments ≡ config ∷ words
      → IsWrong set reached.0 left fault → IsRefused set arguments fault
  refused_at arguments config NoServer is wrong = absurd wrong
  refused_at arguments config (Unknown word) is wrong =
      (config, reached.0, left, is ∙ ap (λ (all : List (List ℕ)). config ∷ all) reached_left, reached.2, wrong)
  refused_at arguments config (Twice key) is wrong =
      (config, reached.0, left, is ∙ ap (λ (all : List (List ℕ)). config ∷ all) reached_left, reached.2, wrong)
  refused_at arguments config (Excluded key other) is wrong =
      (config, reached.0, left, is ∙ ap (λ (all : List (List ℕ)). config ∷ all) reached_left, reached.2, wrong)
  refused_at arguments config (NoValue key) is wrong =
      (config, reached.0, left, is ∙ ap (λ (all : List (List ℕ)). config ∷ all) reached_left, reached.2, wrong)
  refused_at arguments config (BadValue key value) is wrong =
      (config, reached.0, left, is ∙ ap (λ (all : List (List ℕ)). config ∷ all) reached_left, reached.2, wrong)
  refused_at arguments config (Alone key other) is wrong = absurd wrong
  refused_at arguments config (Unfit form) is wrong = absurd wrong

-- all words are read
module _ (set : OptionSet) (words rest : List (List ℕ)) (reached : IsReached set words rest) (none : rest ≡ []) where
  all_words : words ≡ words_of reached.0
  all_words = reached.1 ∙ ap (λ (all : List (List ℕ)). words_of reached.0 ++ all) none ∙ append-nil (words_of reached.0)

  pub all_complete : ((settings : List Setting) → AreOf set words settings → Finds (IsLone set settings) None)
      → ((settings : List Setting) → AreOf set words settings → Finds (HasUnfit settings) None) → (settings : List Setting) × AreAllOf set words settings
  all_complete met fits =
      let are : AreOf set words reached.0 = (all_words, reached.2) in
      (reached.0, (all_words, (reached.2, needed_given reached.0 set reached.2 (met reached.0 are), λ form unfit. false≢true ((fits reached.0 are).1 form unfit))))

-- a fault that is passed on
pub passed_on : {A E : Type 0} (Says : E → Type 0) (fault : E) (result : Result A E) → IsErrAnd result (λ passed. passed ≡ fault) → Says fault → IfErr result Says
passed_on Says fault (Ok a) is says = absurd is
passed_on Says fault (Err passed) is says = subst Says (sym is) says

-- no items have no words
pub none_behind : {A : Type 0} (text : A → List ℕ) (items : List A) → length items ≡ 0 → map text items ≡ []
none_behind text [] none = refl
none_behind text (x ∷ items) none = absurd (omega arith)

-- the words of items after the first one
pub behind_is : {A : Type 0} (text : A → List ℕ) (items : List A) (x : A) (rest : List A) (seen : List ℕ) → items ≡ x ∷ rest → seen ≡ text x
    → map text items ≡ seen ∷ map text rest
behind_is text items x rest seen shape shown = ap (map text) shape ∙ ap (λ (word : List ℕ). word ∷ map text rest) (sym shown)
