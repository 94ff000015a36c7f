-- Readers: what is read is what was written, and what was written is read again.
use Rattle.std.proofs.Common.{◌≡◌, ◌⊎◌, ℕ, suc, ◌+◌, ◌^◌, ◌<◌, ◌≤◌, Bool, true, false, cond, ltb, List, [], ◌∷◌, ◌++◌, length, get_or, take, drop, Option, Some, None, IsTrue, refl, sym, ap, subst, ◌∙◌, append_assoc, arith, inl, inr}
use Rattle.std.specs.Int.{w64, from_be_bytes}
use Rattle.std.proofs.lemmas.Bool.{cases_lt, ltb-false, le-ltb}
use Rattle.std.proofs.lemmas.List.{take_at, drop_at, take-append-drop, length-append, length-take, get_or-drop, get_or-take, get_or_past}
use Rattle.std.proofs.lemmas.Nat.{be_bytes_8, from_be_bytes-to_be_bytes_8}
use Rattle.sv_saved_sessions.specs.Encoding.{number_bytes, text_bytes}
use Rattle.sv_saved_sessions.specs.Reading.{◌>>=◌, Reader, byte_at, byte_string_at, bytes_at, form_at, nothing_at, number_at, pair_at, test_at}
use Rattle.sv_saved_sessions.specs.Saved.{IsByteString, IsNumber}

abbrev pub IsBytes : List ℕ → Type 0
IsBytes bytes = (i : ℕ) → get_or bytes i 0 < 256

IsBytes-drop : (n : ℕ) (bytes : List ℕ) → IsBytes bytes → IsBytes (drop n bytes)
IsBytes-drop n bytes h i = rw get_or-drop (h (n + i))

IsBytes-take : (n : ℕ) (bytes : List ℕ) → IsBytes bytes → IsBytes (take n bytes)
IsBytes-take n bytes h i =
    elim (cases_lt i n) [
      | inl lt ↦ rw (get_or-take n bytes i 0 lt) (h i)
      | inr le ↦ rw (get_or_past (take n bytes) i 0 (omega (arith, length-take n bytes))) (omega arith)
    ]

-- The value of a step that gave one.
pub bind_some : {A B : Type 0} (r : Option A) (f : A → Option B) (y : B) → (r >>= f) ≡ Some y → (x : A) × (r ≡ Some x) × (f x ≡ Some y)
bind_some (Some x) f y e = (x, refl, e)
bind_some None f y e = absurd cc

-- A test that was passed, and one that chose.
pub passed : {A : Type 0} (b : Bool) (x y : A) → cond b (Some x) None ≡ Some y → (b ≡ true) × (x ≡ y)
passed true x y e = (refl, cc)
passed false x y e = absurd cc

pub failed : {A : Type 0} (b : Bool) (x y : A) → cond b None (Some x) ≡ Some y → (b ≡ false) × (x ≡ y)
failed true x y e = absurd cc
failed false x y e = (refl, cc)

pub chosen : {A : Type 0} (b : Bool) (x y z : A) → cond b x y ≡ z → ((b ≡ true) × (x ≡ z)) ⊎ ((b ≡ false) × (y ≡ z))
chosen true x y z e = inl (refl, e)
chosen false x y z e = inr (refl, e)

abbrev done : {A : Type 0} → A → Option A
done x = Some x

pub some_is : {A : Type 0} (x y : A) → done x ≡ done y → x ≡ y
some_is x y e = cc

-- What a reader took from the front.
pub record Took (bytes text rest : List ℕ) (Fact : Type 0) : Type 0 where
  pub parts : bytes ≡ text ++ rest
  pub rest_fits : IsBytes rest
  pub fits : Fact

-- A reader reads values as they are written.
pub record Reads {A : Type 0} (encode : A → List ℕ) (Fits : A → Type 0) (reader : Reader A) : Type 0 where
  pub takes : (bytes : List ℕ) (x : A) (rest : List ℕ) → IsBytes bytes → reader bytes ≡ Some (x, rest) → Took bytes (encode x) rest (Fits x)
  pub again : (x : A) (rest : List ℕ) → Fits x → reader (encode x ++ rest) ≡ Some (x, rest)

-- ---- combinations

pub reads_nothing : Reads (λ (x : Unit {0}). []) (λ x. Unit {0}) nothing_at
reads_nothing = record {
  takes = λ bytes x rest are e. subst (λ (y : Unit {0} × List ℕ). Took bytes [] y.1 (Unit {0})) (some_is (tt, bytes) (x, rest) e) (record { parts = refl; rest_fits = are; fits = tt });
  again = λ x rest fits. refl;
}

module _ {A : Type 0} (encode : A → List ℕ) (Fits : A → Type 0) (reader : Reader A) (reads : Reads encode Fits reader) where
  pub reads_test : (test : A → Bool) → Reads encode (λ x. Fits x × IsTrue (test x)) (test_at test reader)
  reads_test test = record {
    takes = λ bytes x rest are e.
        let a = bind_some (reader bytes) (λ a. cond (test a.0) (Some a) None) (x, rest) e in
        let g = passed (test a.0.0) a.0 (x, rest) a.2 in
        let t = reads.takes bytes a.0.0 a.0.1 are a.1 in
        subst (λ (y : A × List ℕ). Took bytes (encode y.0) y.1 (Fits y.0 × IsTrue (test y.0))) g.1 (record { parts = t.parts; rest_fits = t.rest_fits; fits = (t.fits, g.0) });
    again = λ x rest fits. rw (reads.again x rest fits.0, fits.1) refl;
  }

  pub reads_form : {B : Type 0} (form : A → B) (back : B → A) → ((b : B) → form (back b) ≡ b) → ((a : A) → back (form a) ≡ a)
      → Reads (λ b. encode (back b)) (λ b. Fits (back b)) (form_at form reader)
  reads_form {B} form back there here = record {
    takes = λ bytes x rest are e.
        let a = bind_some (reader bytes) (λ a. Some (form a.0, a.1)) (x, rest) e in
        let t = reads.takes bytes a.0.0 a.0.1 are a.1 in
        let made : Took bytes (encode (back (form a.0.0))) a.0.1 (Fits (back (form a.0.0))) =
        subst (λ (y : A). Took bytes (encode y) a.0.1 (Fits y)) (sym (here a.0.0)) t in
        subst (λ (y : B × List ℕ). Took bytes (encode (back y.0)) y.1 (Fits (back y.0))) (some_is (form a.0.0, a.0.1) (x, rest) a.2) made;
    again = λ x rest fits. rw (reads.again (back x) rest fits, there x) refl;
  }

  pub reads_as : (Facts : A → Type 0) → ((x : A) → Fits x → Facts x) → ((x : A) → Facts x → Fits x) → Reads encode Facts reader
  reads_as Facts to from = record {
    takes = λ bytes x rest are e.
        let t = reads.takes bytes x rest are e in record { parts = t.parts; rest_fits = t.rest_fits; fits = to x t.fits };
    again = λ x rest facts. reads.again x rest (from x facts);
  }

  pub reads_pair : {B : Type 0} (encode_second : B → List ℕ) (FitsSecond : B → Type 0) (second : Reader B) → Reads encode_second FitsSecond second
      → Reads (λ (x : A × B). encode x.0 ++ encode_second x.1) (λ x. Fits x.0 × FitsSecond x.1) (pair_at reader second)
  reads_pair {B} encode_second FitsSecond second reads_second = record {
    takes = λ bytes x rest are e.
        let a = bind_some (reader bytes) (λ a. second a.1 >>= λ b. Some ((a.0, b.0), b.1)) (x, rest) e in
        let b = bind_some (second a.0.1) (λ b. Some ((a.0.0, b.0), b.1)) (x, rest) a.2 in
        let one = reads.takes bytes a.0.0 a.0.1 are a.1 in
        let two = reads_second.takes a.0.1 b.0.0 b.0.1 one.rest_fits b.1 in
        let parts : bytes ≡ (encode a.0.0 ++ encode_second b.0.0) ++ b.0.1 =
        one.parts ∙ ap (λ (t : List ℕ). encode a.0.0 ++ t) two.parts ∙ sym (append_assoc (encode a.0.0) (encode_second b.0.0) b.0.1) in
        subst (λ (y : (A × B) × List ℕ). Took bytes (encode y.0.0 ++ encode_second y.0.1) y.1 (Fits y.0.0 × FitsSecond y.0.1))
        (some_is ((a.0.0, b.0.0), b.0.1) (x, rest) b.2)
        (record { parts = parts; rest_fits = two.rest_fits; fits = (one.fits, two.fits) });
    again = λ x rest fits.
        ap (pair_at reader second) (append_assoc (encode x.0) (encode_second x.1) rest)
        ∙ rw (reads.again x.0 (encode_second x.1 ++ rest) fits.0, reads_second.again x.1 rest fits.1) refl;
  }

-- ---- bytes, numbers and byte strings

pub record TookBytes (many : ℕ) (bytes text rest : List ℕ) : Type 0 where
  pub parts : bytes ≡ text ++ rest
  pub rest_fits : IsBytes rest
  pub text_fits : IsBytes text
  pub count : length text ≡ many

pub bytes_takes : (count : ℕ) (bytes text rest : List ℕ) → IsBytes bytes → bytes_at count bytes ≡ Some (text, rest) → TookBytes count bytes text rest
unfolding bytes_at
bytes_takes count bytes text rest are e =
    let g = failed (ltb (length bytes) count) (take count bytes, drop count bytes) (text, rest) e in
    let long : count ≤ length bytes = ltb-false _ _ g.0 in
    subst (λ (y : List ℕ × List ℕ). TookBytes count bytes y.0 y.1) g.1 (record {
      parts = sym (take-append-drop count bytes);
      rest_fits = IsBytes-drop count bytes are;
      text_fits = IsBytes-take count bytes are;
      count = omega (arith, length-take count bytes);
    })

pub bytes_again : (count : ℕ) (text rest : List ℕ) → length text ≡ count → bytes_at count (text ++ rest) ≡ Some (text, rest)
unfolding bytes_at
bytes_again count text rest is =
    let long : ltb (length (text ++ rest)) count ≡ false = le-ltb _ _ (omega (arith, length-append text rest)) in
    rw (long, take_at text rest count is, drop_at text rest count is) refl

number_below : (bytes : List ℕ) → IsBytes bytes → from_be_bytes w64 bytes < 2 ^ 64
number_below bytes are = omega (arith, are 0, are 1, are 2, are 3, are 4, are 5, are 6, are 7)

pub reads_number : Reads number_bytes IsNumber number_at
unfolding number_at
reads_number = record {
  takes = λ bytes x rest are e.
      let a = bind_some (bytes_at 8 bytes) (λ a. Some (from_be_bytes w64 a.0, a.1)) (x, rest) e in
      let t = bytes_takes 8 bytes a.0.0 a.0.1 are a.1 in
      let is : number_bytes (from_be_bytes w64 a.0.0) ≡ a.0.0 = be_bytes_8 a.0.0 _ t.count t.text_fits refl in
      subst (λ (y : ℕ × List ℕ). Took bytes (number_bytes y.0) y.1 (IsNumber y.0)) (some_is (from_be_bytes w64 a.0.0, a.0.1) (x, rest) a.2)
      (record { parts = t.parts ∙ ap (λ (front : List ℕ). front ++ a.0.1) (sym is); rest_fits = t.rest_fits; fits = number_below a.0.0 t.text_fits });
  again = λ x rest fits. rw (bytes_again 8 (number_bytes x) rest refl, from_be_bytes-to_be_bytes_8 x fits) refl;
}

pub reads_byte_string : Reads text_bytes IsByteString byte_string_at
unfolding byte_string_at
reads_byte_string = record {
  takes = λ bytes x rest are e.
      let a = bind_some (number_at bytes) (λ count. bytes_at count.0 count.1) (x, rest) e in
      let one = reads_number.takes bytes a.0.0 a.0.1 are a.1 in
      let two = bytes_takes a.0.0 a.0.1 x rest one.rest_fits a.2 in
      let parts : bytes ≡ (number_bytes a.0.0 ++ x) ++ rest =
      one.parts ∙ ap (λ (t : List ℕ). number_bytes a.0.0 ++ t) two.parts ∙ sym (append_assoc (number_bytes a.0.0) x rest) in
      record {
        parts = parts ∙ ap (λ (n : ℕ). (number_bytes n ++ x) ++ rest) (sym two.count);
        rest_fits = two.rest_fits;
        fits = subst (λ (n : ℕ). n < 2 ^ 64) (sym two.count) one.fits;
      };
  again = λ x rest fits.
      ap byte_string_at (append_assoc (number_bytes (length x)) x rest)
      ∙ rw (reads_number.again (length x) (x ++ rest) fits, bytes_again (length x) x rest refl) refl;
}

-- ---- options and lists

IsBytes-rest : (b : ℕ) (bytes : List ℕ) → IsBytes (b ∷ bytes) → IsBytes bytes
IsBytes-rest b bytes h i = h (suc i)

-- The byte that a value begins with.
pub record TookByte (bytes : List ℕ) (byte : ℕ) (rest : List ℕ) : Type 0 where
  pub parts : bytes ≡ byte ∷ rest
  pub rest_fits : IsBytes rest

pub byte_takes : (bytes : List ℕ) (byte : ℕ) (rest : List ℕ) → IsBytes bytes → byte_at bytes ≡ Some (byte, rest) → TookByte bytes byte rest
unfolding byte_at
byte_takes [] byte rest are e = absurd cc
byte_takes (b ∷ bytes) byte rest are e =
    subst (λ (y : ℕ × List ℕ). TookByte (b ∷ bytes) y.0 y.1) (some_is (b, bytes) (byte, rest) e) (record { parts = refl; rest_fits = IsBytes-rest b bytes are })

pub byte_again : (byte : ℕ) (rest : List ℕ) → byte_at (byte ∷ rest) ≡ Some (byte, rest)
unfolding byte_at
byte_again byte rest = refl
