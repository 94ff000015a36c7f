-- The results of lookups after a pattern is added to the end of the patterns.
use Rattle.std.proofs.Common.{◌≡◌, ◌≢◌, ℕ, ◌-◌, Bool, true, false, cond, List, [], ◌∷◌, ◌++◌, eqb, length, take, drop, refl, sym, subst, ◌∙◌, ap, arith, Option, Some, None, Result, Ok, Err, OnOk, inl, inr}
use Rattle.std.specs.HashMap.{get_by_text}
use Rattle.std.specs.Option.{option_or}
use Rattle.std.specs.Str.{bytes_eq}
use Rattle.std.proofs.lemmas.Bool.{and_from, and_parts, both_ways, cases_Bool}
use Rattle.std.proofs.lemmas.Bool.Decides.{Decides-eqb}
use Rattle.std.proofs.lemmas.Option.{none-some}
use Rattle.std.proofs.lemmas.Slice.Eq.{ends_is}
use Rattle.std.specs.List.{ends_with, list_all, starts_with}
use Rattle.sv_mapping.specs.Pattern.{Form, Root, Default, Extension, Prefix, Exact, form, is_pattern}
use Rattle.sv_mapping.specs.declared.pattern_index.Index.{Index}
use Rattle.sv_mapping.specs.declared.trie_node.Node.{Node}
use Rattle.sv_mapping.specs.Index.{Finds}
use Rattle.sv_mapping.specs.Places.{exact_place, place_of}
use Rattle.sv_mapping.specs.Segments.{is_rooted, segments_of}
use Rattle.sv_mapping.specs.Trie.{Adds, child, exact, prefix, kept}
use Rattle.sv_mapping.proofs.Classes.{empty_exact, equal, exact-push, exact_exact, fits_exactly, one, or_none, prefix_exact, prefix_prefix, same_bytes, short_prefix, slash_exact, starred_exact, starred_prefix, unequal}
use Rattle.sv_mapping.proofs.PlacesLemmas.{place-push}
use Rattle.sv_mapping.proofs.Paths.{path_of}
use Rattle.sv_mapping.proofs.Rooted.{rooted_back, rooted_front, rooted_pattern}

-- The nodes keep these places of the kind f for rooted paths.
abbrev Keeps : (List Node → ℕ → Option ℕ) → List Node → (List ℕ → Option ℕ) → Type 0
Keeps f nodes places = (path : List ℕ) → is_rooted path ≡ true → kept (child nodes) (f nodes) (segments_of path) ≡ places path

gained : (old new : List Node) (f g : List Node → ℕ → Option ℕ) (target : List ℕ) (n : ℕ) (before after : List ℕ → Option ℕ) (test : List ℕ → Bool) → Adds old new (segments_of target) n f g → is_rooted target ≡ true → Keeps f old before
    → ((path : List ℕ) → after path ≡ option_or (before path) (one n (test path))) → ((path : List ℕ) → is_rooted path ≡ true → test path ≡ bytes_eq path target) → Keeps f new after
gained old new f g target n before after test adds rooted_target keeps pushed tests path rooted =
    elim (cases_Bool (bytes_eq path target)) [
      | inl e ↦
          let same = same_bytes path target e in
          ap (λ p. kept (child new) (f new) (segments_of p)) same
          ∙ (adds.here ∙ (ap (λ o. option_or o (Some n)) (keeps target rooted_target ∙ ap before (sym same))
          ∙ (ap (λ t. option_or (before path) (one n t)) (sym (tests path rooted ∙ e)) ∙ sym (pushed path))))
      | inr e ↦
          let apart : segments_of path ≢ segments_of target = λ h. both_ways _ e (equal path target (sym (rooted_back path rooted) ∙ (ap path_of h ∙ rooted_back target rooted_target))) in
          adds.others (segments_of path) apart
          ∙ (keeps path rooted ∙ (sym (or_none (before path)) ∙ (ap (λ t. option_or (before path) (one n t)) (sym (tests path rooted ∙ e)) ∙ sym (pushed path))))
    ]

-- If the test fails, nothing changes.
unmoved : (n : ℕ) (before after : Option ℕ) (test : Bool) → after ≡ option_or before (one n test) → test ≡ false → before ≡ after
unmoved n before after test pushed none = sym (or_none before) ∙ (ap (λ t. option_or before (one n t)) (sym none) ∙ sym pushed)

spared : (old new : List Node) (f g : List Node → ℕ → Option ℕ) (segments : List (List ℕ)) (n : ℕ) (before after : List ℕ → Option ℕ) (test : List ℕ → Bool) → Adds old new segments n f g → Keeps g old before
    → ((path : List ℕ) → after path ≡ option_or (before path) (one n (test path))) → ((path : List ℕ) → is_rooted path ≡ true → test path ≡ false) → Keeps g new after
spared old new f g segments n before after test adds keeps pushed none path rooted =
    adds.stays (segments_of path) ∙ (keeps path rooted ∙ unmoved n (before path) (after path) (test path) (pushed path) (none path rooted))

all_push : (patterns : List (List ℕ)) (pattern : List ℕ) → list_all is_pattern patterns ≡ true → is_pattern pattern ≡ true → list_all is_pattern (patterns ++ pattern ∷ []) ≡ true
all_push [] pattern h k = and_from (is_pattern pattern) true k refl
all_push (p ∷ ps) pattern h k = let parts = and_parts (is_pattern p) (list_all is_pattern ps) h in and_from (is_pattern p) (list_all is_pattern (ps ++ pattern ∷ [])) parts.0 (all_push ps pattern parts.1 k)

module _ (patterns : List (List ℕ)) (pattern : List ℕ) where
  abbrev grown : List (List ℕ)
  grown = patterns ++ pattern ∷ []

  abbrev below : List ℕ → List ℕ
  below path = path ++ 47 ∷ 42 ∷ []

  still : (text : List ℕ) → bytes_eq pattern text ≡ false → place_of patterns text ≡ place_of grown text
  still text none = unmoved (length patterns) (place_of patterns text) (place_of grown text) (bytes_eq pattern text) (place-push patterns pattern text) none

  module _ (old new : Index) (finds : Finds old patterns) (accepted : is_pattern pattern ≡ true) where
    -- The pattern is exact for the path `target`.
    pub finds_exact : (target : List ℕ) → is_rooted target ≡ true → Adds old.trie.nodes.items new.trie.nodes.items (segments_of target) (length patterns) exact prefix
        → ((wanted : List ℕ) → get_by_text new.extensions wanted ≡ get_by_text old.extensions wanted) → new.default ≡ old.default
        → ((path : List ℕ) → fits_exactly pattern path ≡ bytes_eq path target) → ((path : List ℕ) → bytes_eq pattern (below path) ≡ false) → ((wanted : List ℕ) → bytes_eq pattern (42 ∷ 46 ∷ wanted) ≡ false) → bytes_eq pattern (47 ∷ []) ≡ false
        → Finds new grown
    finds_exact target rooted adds extensions default is_exact no_prefix no_extension no_default = record {
      accepted = all_push patterns pattern finds.accepted accepted;
      trie = adds.trie;
      exacts = gained old.trie.nodes.items new.trie.nodes.items exact prefix target (length patterns) (exact_place patterns) (exact_place grown) (fits_exactly pattern) adds rooted finds.exacts (exact-push patterns pattern) (λ path _. is_exact path);
      prefixes = spared old.trie.nodes.items new.trie.nodes.items exact prefix (segments_of target) (length patterns) (λ path. place_of patterns (below path)) (λ path. place_of grown (below path)) (λ path. bytes_eq pattern (below path)) adds finds.prefixes (λ path. place-push patterns pattern (below path)) (λ path _. no_prefix path);
      extensions = λ wanted. extensions wanted ∙ (finds.extensions wanted ∙ still (42 ∷ 46 ∷ wanted) (no_extension wanted));
      default = default ∙ (finds.default ∙ still (47 ∷ []) no_default);
    }

    -- The pattern is the prefix pattern of `front`.
    pub finds_prefix : (front : List ℕ) → pattern ≡ below front → is_rooted front ≡ true → Adds old.trie.nodes.items new.trie.nodes.items (segments_of front) (length patterns) prefix exact
        → ((wanted : List ℕ) → get_by_text new.extensions wanted ≡ get_by_text old.extensions wanted) → new.default ≡ old.default
        → ((wanted : List ℕ) → pattern ≡ 42 ∷ 46 ∷ wanted → ⊥) → (pattern ≡ 47 ∷ [] → ⊥)
        → Finds new grown
    finds_prefix front is rooted adds extensions default starless no_slash = record {
      accepted = all_push patterns pattern finds.accepted accepted;
      trie = adds.trie;
      exacts = spared old.trie.nodes.items new.trie.nodes.items prefix exact (segments_of front) (length patterns) (exact_place patterns) (exact_place grown) (fits_exactly pattern) adds finds.exacts (exact-push patterns pattern) (λ path _. ap (λ p. fits_exactly p path) is ∙ prefix_exact front path);
      prefixes = gained old.trie.nodes.items new.trie.nodes.items prefix exact front (length patterns) (λ path. place_of patterns (below path)) (λ path. place_of grown (below path)) (λ path. bytes_eq pattern (below path)) adds rooted finds.prefixes (λ path. place-push patterns pattern (below path)) (λ path _. ap (λ p. bytes_eq p (below path)) is ∙ prefix_prefix front path);
      extensions = λ wanted. extensions wanted ∙ (finds.extensions wanted ∙ still (42 ∷ 46 ∷ wanted) (unequal pattern (42 ∷ 46 ∷ wanted) (starless wanted)));
      default = default ∙ (finds.default ∙ still (47 ∷ []) (unequal pattern (47 ∷ []) no_slash));
    }

    -- The trie is unchanged.
    aside : (keeps : List ℕ → Option ℕ) (after : List ℕ → Option ℕ) (f : List Node → ℕ → Option ℕ) → new.trie ≡ old.trie → Keeps f old.trie.nodes.items keeps → ((path : List ℕ) → is_rooted path ≡ true → keeps path ≡ after path) → Keeps f new.trie.nodes.items after
    aside keeps after f same before moved path rooted = rw same (before path rooted ∙ moved path rooted)

    pub finds_aside : new.trie ≡ old.trie → ((path : List ℕ) → is_rooted path ≡ true → fits_exactly pattern path ≡ false) → ((path : List ℕ) → is_rooted path ≡ true → bytes_eq pattern (below path) ≡ false)
        → ((wanted : List ℕ) → get_by_text new.extensions wanted ≡ place_of grown (42 ∷ 46 ∷ wanted)) → new.default ≡ place_of grown (47 ∷ [])
        → Finds new grown
    finds_aside same no_exact no_prefix extensions default = record {
      accepted = all_push patterns pattern finds.accepted accepted;
      trie = rw same finds.trie;
      exacts = aside (exact_place patterns) (exact_place grown) exact same finds.exacts (λ path rooted. unmoved (length patterns) _ _ (fits_exactly pattern path) (exact-push patterns pattern path) (no_exact path rooted));
      prefixes = aside (λ path. place_of patterns (below path)) (λ path. place_of grown (below path)) prefix same finds.prefixes (λ path rooted. still (below path) (no_prefix path rooted));
      extensions = extensions;
      default = default;
    }

    pub default_added : new.default ≡ option_or old.default (Some (length patterns)) → bytes_eq pattern (47 ∷ []) ≡ true → new.default ≡ place_of grown (47 ∷ [])
    default_added is same = is ∙ (ap (λ o. option_or o (Some (length patterns))) finds.default ∙ sym (place-push patterns pattern (47 ∷ []) ∙ ap (λ t. option_or (place_of patterns (47 ∷ [])) (one (length patterns) t)) same))

    pub default_stays : new.default ≡ old.default → bytes_eq pattern (47 ∷ []) ≡ false → new.default ≡ place_of grown (47 ∷ [])
    default_stays is none = is ∙ (finds.default ∙ still (47 ∷ []) none)

    pub extension_stays : (wanted : List ℕ) → get_by_text new.extensions wanted ≡ get_by_text old.extensions wanted → bytes_eq pattern (42 ∷ 46 ∷ wanted) ≡ false → get_by_text new.extensions wanted ≡ place_of grown (42 ∷ 46 ∷ wanted)
    extension_stays wanted is none = is ∙ (finds.extensions wanted ∙ still (42 ∷ 46 ∷ wanted) none)

    pub extension_added : (extension wanted : List ℕ) → pattern ≡ 42 ∷ 46 ∷ extension → get_by_text new.extensions wanted ≡ cond (bytes_eq extension wanted) (option_or (get_by_text old.extensions wanted) (Some (length patterns))) (get_by_text old.extensions wanted) → get_by_text new.extensions wanted ≡ place_of grown (42 ∷ 46 ∷ wanted)
    extension_added extension wanted text is =
        elim (cases_Bool (bytes_eq extension wanted)) [
          | inl e ↦
              is ∙ rw e (ap (λ o. option_or o (Some (length patterns))) (finds.extensions wanted)
              ∙ sym (place-push patterns pattern (42 ∷ 46 ∷ wanted) ∙ ap (λ t. option_or (place_of patterns (42 ∷ 46 ∷ wanted)) (one (length patterns) t)) (ap (λ p. bytes_eq p (42 ∷ 46 ∷ wanted)) text ∙ e)))
          | inr e ↦ is ∙ rw e (finds.extensions wanted ∙ still (42 ∷ 46 ∷ wanted) (ap (λ p. bytes_eq p (42 ∷ 46 ∷ wanted)) text ∙ e))
        ]

pub on_ok : {A E P Q : Type 0} (r : Result A E) → OnOk r P → (P → Q) → OnOk r Q
on_ok (Ok a) h f = f h
on_ok (Err e) h f = tt

-- ---- texts by their forms
-- Texts of different forms differ.
not_of : (text other : List ℕ) (f g : Form) → f ≡ form text → g ≡ form other → (f ≡ g → ⊥) → text ≡ other → ⊥
not_of text other f g h k apart e = apart (h ∙ (ap form e ∙ sym k))

form-slash : Default ≡ form (47 ∷ [])
unfolding form
form-slash = refl

form-empty : Root ≡ form []
unfolding form
form-empty = refl

form-starred : (rest : List ℕ) → Extension rest ≡ form (42 ∷ 46 ∷ rest)
unfolding form
form-starred rest = refl

-- An exact pattern does not end like a prefix pattern.
exact_end : (text t : List ℕ) → Exact t ≡ form text → ends_with eqb text (47 ∷ 42 ∷ []) ≡ false
unfolding form
exact_end text t h =
    elim (cases_Bool (ends_with eqb text (47 ∷ 42 ∷ []))) [
      | inr end ↦ end
      | inl end ↦ elim (cases_Bool (bytes_eq text [])) [
        | inl e ↦ let same : Exact t ≡ Root = h ∙ rw e refl in cc
        | inr e ↦ elim (cases_Bool (bytes_eq text (47 ∷ []))) [
          | inl f ↦ let same : Exact t ≡ Default = h ∙ rw (e, f) refl in cc
          | inr f ↦ elim (cases_Bool (starts_with eqb text (42 ∷ 46 ∷ []))) [
            | inl g ↦ let same : Exact t ≡ Extension (drop 2 text) = h ∙ rw (e, f, g) refl in cc
            | inr g ↦ let same : Exact t ≡ Prefix (take (length text - 2) text) = h ∙ rw (e, f, g, end) refl in cc
          ]
        ]
      ]
    ]

-- ---- the five forms
module _ (patterns : List (List ℕ)) (text : List ℕ) (old new : Index) (finds : Finds old patterns) (accepted : is_pattern text ≡ true) where
  pub root_added : [] ≡ text → Adds old.trie.nodes.items new.trie.nodes.items (segments_of (47 ∷ [])) (length patterns) exact prefix → ((wanted : List ℕ) → get_by_text new.extensions wanted ≡ get_by_text old.extensions wanted) → new.default ≡ old.default → Finds new (patterns ++ text ∷ [])
  root_added says adds extensions default =
      let e = sym says in
      finds_exact patterns text old new finds accepted (47 ∷ []) refl adds extensions default
      (λ path. ap (λ p. fits_exactly p path) e ∙ empty_exact path) (λ path. short_prefix text path (omega (arith, ap length e)))
      (λ wanted. ap (λ p. bytes_eq p (42 ∷ 46 ∷ wanted)) e) (ap (λ p. bytes_eq p (47 ∷ [])) e)

  pub slash_added : 47 ∷ [] ≡ text → new.trie ≡ old.trie → ((wanted : List ℕ) → get_by_text new.extensions wanted ≡ get_by_text old.extensions wanted) → new.default ≡ option_or old.default (Some (length patterns)) → Finds new (patterns ++ text ∷ [])
  slash_added says trie extensions default =
      let e = sym says in
      finds_aside patterns text old new finds accepted trie (λ path _. ap (λ p. fits_exactly p path) e ∙ slash_exact path) (λ path _. short_prefix text path (omega (arith, ap length e)))
      (λ wanted. extension_stays patterns text old new finds accepted wanted (extensions wanted) (ap (λ p. bytes_eq p (42 ∷ 46 ∷ wanted)) e))
      (default_added patterns text old new finds accepted default (equal text (47 ∷ []) e))

  pub starred_added : (extension : List ℕ) → 42 ∷ 46 ∷ extension ≡ text → new.trie ≡ old.trie → ((wanted : List ℕ) → get_by_text new.extensions wanted ≡ cond (bytes_eq extension wanted) (option_or (get_by_text old.extensions wanted) (Some (length patterns))) (get_by_text old.extensions wanted)) → new.default ≡ old.default → Finds new (patterns ++ text ∷ [])
  starred_added extension says trie extensions default =
      let e = sym says in
      finds_aside patterns text old new finds accepted trie (λ path rooted. ap (λ p. fits_exactly p path) e ∙ starred_exact extension path rooted) (λ path rooted. ap (λ p. bytes_eq p (path ++ 47 ∷ 42 ∷ [])) e ∙ starred_prefix extension path rooted)
      (λ wanted. extension_added patterns text old new finds accepted extension wanted e (extensions wanted))
      (default_stays patterns text old new finds accepted default (ap (λ p. bytes_eq p (47 ∷ [])) e))

  pub prefix_added : (front : List ℕ) → Prefix front ≡ form text → front ++ 47 ∷ 42 ∷ [] ≡ text → Adds old.trie.nodes.items new.trie.nodes.items (segments_of front) (length patterns) prefix exact → ((wanted : List ℕ) → get_by_text new.extensions wanted ≡ get_by_text old.extensions wanted) → new.default ≡ old.default → Finds new (patterns ++ text ∷ [])
  prefix_added front seen says adds extensions default =
      let starless : (rest : List ℕ) → text ≡ 42 ∷ 46 ∷ rest → ⊥ = λ rest. not_of text (42 ∷ 46 ∷ rest) (Prefix front) (Extension rest) seen (form-starred rest) (λ k. cc) in
      let rooted = rooted_front front (47 ∷ 42 ∷ []) (subst (λ t. is_rooted t ≡ true) (sym says) (rooted_pattern text accepted starless)) in
      finds_prefix patterns text old new finds accepted front (sym says) rooted adds extensions default starless (not_of text (47 ∷ []) (Prefix front) Default seen form-slash (λ k. cc))

  pub exact_added : (target : List ℕ) → Exact target ≡ form text → target ≡ text → Adds old.trie.nodes.items new.trie.nodes.items (segments_of target) (length patterns) exact prefix → ((wanted : List ℕ) → get_by_text new.extensions wanted ≡ get_by_text old.extensions wanted) → new.default ≡ old.default → Finds new (patterns ++ text ∷ [])
  exact_added target seen says adds extensions default =
      let starless : (rest : List ℕ) → text ≡ 42 ∷ 46 ∷ rest → ⊥ = λ rest. not_of text (42 ∷ 46 ∷ rest) (Exact target) (Extension rest) seen (form-starred rest) (λ k. cc) in
      let some : text ≡ [] → ⊥ = not_of text [] (Exact target) Root seen form-empty (λ k. cc) in
      let other : text ≡ 47 ∷ [] → ⊥ = not_of text (47 ∷ []) (Exact target) Default seen form-slash (λ k. cc) in
      let endless : (front : List ℕ) → text ≡ front ++ 47 ∷ 42 ∷ [] → ⊥ = λ front k. both_ways _ (exact_end text target seen) ((ends_is Decides-eqb text (47 ∷ 42 ∷ []) _ refl).1 front k) in
      finds_exact patterns text old new finds accepted target (subst (λ t. is_rooted t ≡ true) (sym says) (rooted_pattern text accepted starless)) adds extensions default
      (λ path. exact_exact text path some other endless ∙ ap (bytes_eq path) (sym says)) (λ path. unequal text (path ++ 47 ∷ 42 ∷ []) (endless path))
      (λ wanted. unequal text (42 ∷ 46 ∷ wanted) (starless wanted)) (unequal text (47 ∷ []) other)

-- ---- no patterns
nowhere : (child : ℕ → List ℕ → Option ℕ) (places : ℕ → Option ℕ) (segments : List (List ℕ)) → ((from : ℕ) (segment : List ℕ) → child from segment ≡ None) → ((from : ℕ) → places from ≡ None) → kept child places segments ≡ None
nowhere child places [] leaves none = none 0
nowhere child places (s ∷ ss) leaves none = rw (leaves 0 s) refl

no_exact_place : (path : List ℕ) → exact_place [] path ≡ None
no_exact_place [] = refl
no_exact_place (b ∷ bs) =
    elim (cases_Bool (bytes_eq (b ∷ bs) (47 ∷ []))) [
      | inl e ↦ rw e refl
      | inr e ↦ elim (cases_Bool (ends_with eqb (b ∷ bs) (47 ∷ 42 ∷ []))) [ inl f ↦ rw (e, f) refl | inr f ↦ rw (e, f) refl ]
    ]

pub none_added : (index : Index) → length index.trie.nodes.items ≡ 1 → ((from : ℕ) (segment : List ℕ) → child index.trie.nodes.items from segment ≡ None) → ((from : ℕ) → exact index.trie.nodes.items from ≡ None) → ((from : ℕ) → prefix index.trie.nodes.items from ≡ None) → ((wanted : List ℕ) → get_by_text index.extensions wanted ≡ None) → index.default ≡ None → Finds index []
none_added index root leaves no_exact no_prefix no_extension no_default = record {
  accepted = refl;
  trie = (λ _. [], record { some = omega (arith, root); root = refl; edges = λ from next segment h. absurd (none-some next (sym (leaves from segment) ∙ h)) });
  exacts = λ path _. nowhere (child index.trie.nodes.items) (exact index.trie.nodes.items) (segments_of path) leaves no_exact ∙ sym (no_exact_place path);
  prefixes = λ path _. nowhere (child index.trie.nodes.items) (prefix index.trie.nodes.items) (segments_of path) leaves no_prefix;
  extensions = no_extension;
  default = no_default;
}
