-- Readers of values with a tag, of options and of lists.
use Rattle.std.proofs.Common.{◌≡◌, ℕ, zero, suc, ◌^◌, ◌<◌, cond, eqb, List, [], ◌∷◌, ◌++◌, length, Option, Some, None, refl, sym, ap, subst, ◌∙◌, append_assoc, inl, inr}
use Rattle.std.specs.Prelude.{IfSome}
use Rattle.std.specs.List.{AllByRecursion, flat_map}
use Rattle.std.proofs.lemmas.Bool.{eqb-true}
use Rattle.std.proofs.lemmas.List.Concat.{flat_map-cons}
use Rattle.sv_saved_sessions.specs.Encoding.{list_bytes, number_bytes, optional_bytes}
use Rattle.sv_saved_sessions.specs.Reading.{◌>>=◌, Reader, byte_at, form_at, items_at, list_at, number_at, option_at}
use Rattle.sv_saved_sessions.specs.Saved.{AreAll}
use Rattle.sv_saved_sessions.proofs.Readers.{IsBytes, Reads, Took, TookByte, bind_some, byte_again, byte_takes, chosen, reads_number, some_is}

-- ---- values with a tag

module _ {B : Type 0} (encode : B → List ℕ) (Fits : B → Type 0) (tag byte : ℕ) (bytes after : List ℕ) (took : TookByte bytes byte after) (is : byte ≡ tag) where
  -- A value that is its tag.
  pub constant_takes : (value : B) → encode value ≡ tag ∷ [] → Fits value → (x : B) (rest : List ℕ) → ◌≡◌ {A = Option (B × List ℕ)} (Some (value, after)) (Some (x, rest))
      → Took bytes (encode x) rest (Fits x)
  constant_takes value written fits x rest e =
      subst (λ (y : B × List ℕ). Took bytes (encode y.0) y.1 (Fits y.0)) (some_is (value, after) (x, rest) e) (record {
        parts = took.parts ∙ ap (λ (b : ℕ). b ∷ after) is ∙ ap (λ (front : List ℕ). front ++ after) (sym written);
        rest_fits = took.rest_fits;
        fits = fits;
      })

  -- A value that is a tag and another value.
  pub tagged_takes : {A : Type 0} (encode_within : A → List ℕ) (FitsWithin : A → Type 0) (reader : Reader A) → Reads encode_within FitsWithin reader
      → (form : A → B) → ((a : A) → encode (form a) ≡ tag ∷ encode_within a) → ((a : A) → FitsWithin a → Fits (form a))
      → (x : B) (rest : List ℕ) → form_at form reader after ≡ Some (x, rest) → Took bytes (encode x) rest (Fits x)
  tagged_takes {A} encode_within FitsWithin reader reads form written fits x rest e =
      let a = bind_some (reader after) (λ v. Some (form v.0, v.1)) (x, rest) e in
      let t = reads.takes after a.0.0 a.0.1 took.rest_fits a.1 in
      subst (λ (y : B × List ℕ). Took bytes (encode y.0) y.1 (Fits y.0)) (some_is (form a.0.0, a.0.1) (x, rest) a.2) (record {
        parts = took.parts ∙ ap (λ (b : ℕ). b ∷ after) is ∙ ap (λ (t : List ℕ). tag ∷ t) t.parts ∙ ap (λ (front : List ℕ). front ++ a.0.1) (sym (written a.0.0));
        rest_fits = t.rest_fits;
        fits = fits a.0.0 t.fits;
      })

-- ---- options

module _ {A : Type 0} (encode : A → List ℕ) (Fits : A → Type 0) (reader : Reader A) (reads : Reads encode Fits reader) where
  abbrev after_tag : ℕ × List ℕ → Option (Option A × List ℕ)
  after_tag tag = cond (eqb tag.0 0) (Some (None, tag.1)) (cond (eqb tag.0 1) (form_at Some reader tag.1) None)

  option_takes : (bytes : List ℕ) (x : Option A) (rest : List ℕ) → IsBytes bytes → option_at reader bytes ≡ Some (x, rest)
      → Took bytes (optional_bytes encode x) rest (IfSome x Fits)
  unfolding option_at
  option_takes bytes x rest are e =
      let a = bind_some (byte_at bytes) after_tag (x, rest) e in
      let t = byte_takes bytes a.0.0 a.0.1 are a.1 in
      elim (chosen (eqb a.0.0 0) (Some (None, a.0.1)) (cond (eqb a.0.0 1) (form_at Some reader a.0.1) None) (Some (x, rest)) a.2) as (λ _. Took bytes (optional_bytes encode x) rest (IfSome x Fits)) [
        | inl p ↦ constant_takes (optional_bytes encode) (λ y. IfSome y Fits) 0 a.0.0 bytes a.0.1 t (eqb-true _ _ p.0) None refl tt x rest p.1
        | inr q ↦ elim (chosen (eqb a.0.0 1) (form_at Some reader a.0.1) None (Some (x, rest)) q.1) as (λ _. Took bytes (optional_bytes encode x) rest (IfSome x Fits)) [
          | inl p ↦ tagged_takes (optional_bytes encode) (λ y. IfSome y Fits) 1 a.0.0 bytes a.0.1 t (eqb-true _ _ p.0) encode Fits reader reads Some (λ y. refl) (λ y fits. fits) x rest p.1
          | inr n ↦ absurd (let e : None ≡ Some (x, rest) = n.1 in cc)
        ]
      ]

  option_again : (x : Option A) (rest : List ℕ) → IfSome x Fits → option_at reader (optional_bytes encode x ++ rest) ≡ Some (x, rest)
  unfolding option_at
  option_again None rest fits = rw (byte_again 0 rest) refl
  option_again (Some x) rest fits = rw (byte_again 1 (encode x ++ rest), reads.again x rest fits) refl

  pub reads_option : Reads (optional_bytes encode) (λ x. IfSome x Fits) (option_at reader)
  reads_option = record { takes = option_takes; again = option_again }

  -- ---- lists

  items_take : (count : ℕ) (bytes : List ℕ) (x : List A) (rest : List ℕ) → IsBytes bytes → items_at reader count bytes ≡ Some (x, rest)
      → Took bytes (flat_map encode x) rest ((length x ≡ count) × AllByRecursion Fits x)
  unfolding items_at
  items_take zero bytes x rest are e =
      subst (λ (y : List A × List ℕ). Took bytes (flat_map encode y.0) y.1 ((length y.0 ≡ 0) × AllByRecursion Fits y.0)) (some_is ([], bytes) (x, rest) e)
      (record { parts = refl; rest_fits = are; fits = (refl, tt) })
  items_take (suc count) bytes x rest are e =
      let a = bind_some (reader bytes) (λ first. items_at reader count first.1 >>= λ others. Some (first.0 ∷ others.0, others.1)) (x, rest) e in
      let b = bind_some (items_at reader count a.0.1) (λ others. Some (a.0.0 ∷ others.0, others.1)) (x, rest) a.2 in
      let one = reads.takes bytes a.0.0 a.0.1 are a.1 in
      let others = items_take count a.0.1 b.0.0 b.0.1 one.rest_fits b.1 in
      let parts : bytes ≡ flat_map encode (a.0.0 ∷ b.0.0) ++ b.0.1 =
      one.parts ∙ ap (λ (t : List ℕ). encode a.0.0 ++ t) others.parts ∙ sym (append_assoc (encode a.0.0) (flat_map encode b.0.0) b.0.1)
      ∙ ap (λ (t : List ℕ). t ++ b.0.1) (sym (flat_map-cons encode a.0.0 b.0.0)) in
      subst (λ (y : List A × List ℕ). Took bytes (flat_map encode y.0) y.1 ((length y.0 ≡ suc count) × AllByRecursion Fits y.0)) (some_is (a.0.0 ∷ b.0.0, b.0.1) (x, rest) b.2)
      (record { parts = parts; rest_fits = others.rest_fits; fits = (ap suc others.fits.0, (one.fits, others.fits.1)) })

  items_again : (x : List A) (rest : List ℕ) → AllByRecursion Fits x → items_at reader (length x) (flat_map encode x ++ rest) ≡ Some (x, rest)
  unfolding items_at
  items_again [] rest fits = refl
  items_again (first ∷ others) rest fits =
      let regrouped : flat_map encode (first ∷ others) ++ rest ≡ encode first ++ (flat_map encode others ++ rest) =
      ap (λ (t : List ℕ). t ++ rest) (flat_map-cons encode first others) ∙ append_assoc (encode first) (flat_map encode others) rest in
      ap (items_at reader (suc (length others))) regrouped
      ∙ rw (reads.again first (flat_map encode others ++ rest) fits.0, items_again others rest fits.1) refl

  list_takes : (bytes : List ℕ) (x : List A) (rest : List ℕ) → IsBytes bytes → list_at reader bytes ≡ Some (x, rest)
      → Took bytes (list_bytes encode x) rest (AreAll Fits x)
  unfolding list_at
  list_takes bytes x rest are e =
      let a = bind_some (number_at bytes) (λ count. items_at reader count.0 count.1) (x, rest) e in
      let one = reads_number.takes bytes a.0.0 a.0.1 are a.1 in
      let two = items_take a.0.0 a.0.1 x rest one.rest_fits a.2 in
      let parts : bytes ≡ (number_bytes a.0.0 ++ flat_map encode x) ++ rest =
      one.parts ∙ ap (λ (t : List ℕ). number_bytes a.0.0 ++ t) two.parts ∙ sym (append_assoc (number_bytes a.0.0) (flat_map encode x) rest) in
      record {
        parts = parts ∙ ap (λ (n : ℕ). (number_bytes n ++ flat_map encode x) ++ rest) (sym two.fits.0);
        rest_fits = two.rest_fits;
        fits = (subst (λ (n : ℕ). n < 2 ^ 64) (sym two.fits.0) one.fits, two.fits.1);
      }

  list_again : (x : List A) (rest : List ℕ) → AreAll Fits x → list_at reader (list_bytes encode x ++ rest) ≡ Some (x, rest)
  unfolding list_at
  list_again x rest fits =
      ap (list_at reader) (append_assoc (number_bytes (length x)) (flat_map encode x) rest)
      ∙ rw (reads_number.again (length x) (flat_map encode x ++ rest) fits.0, items_again x rest fits.1) refl

  pub reads_list : Reads (list_bytes encode) (AreAll Fits) (list_at reader)
  reads_list = record { takes = list_takes; again = list_again }
