-- The names of the files of sessions.
use Rattle.std.proofs.Common.{ℕ, ◌≡◌, ◌<◌, Bool, true, false, not, cond, codes, List, [], ◌∷◌, ◌++◌, sym, refl, ap, subst, ◌∙◌, ⊎_elim}
use Rattle.std.specs.List.{All}
use Rattle.std.specs.Str.{bytes_eq}
use Rattle.std.proofs.lemmas.Bool.{true≢false, cases_Bool, cond-true, cond-false, agree_below_at, not_from_true, not_from_false}
use Rattle.std.proofs.lemmas.List.Elements.{All-head, All-tail}
use Rattle.std.proofs.lemmas.Slice.Eq.{bytes_eq-Decides}
use Rattle.percent_encoding.specs.declared.ascii_set.AsciiSet.{AsciiSet}
use Rattle.percent_encoding.specs.AsciiSet.{should_percent_encode}
use Rattle.percent_encoding.specs.Percent.{percent_decode, percent_encode, percent_encode_byte, encode_byte}
use Rattle.percent_encoding.proofs.PercentLemmas.{IsByte, round_trip}
use Rattle.sv.specs.SessionName.{IsPath, escaped, is_plain, session_name}

-- the bytes below 128 that are escaped
abbrev pub others : AsciiSet
others = record { mask = 0xf8000001_78000001_fc00dfff_ffffffff }

escapes_others : (b : ℕ) → b < 256 → should_percent_encode others b ≡ not (is_plain b)
unfolding should_percent_encode
escapes_others b small = agree_below_at (should_percent_encode others) (λ x. not (is_plain x)) 256 b refl small

-- the bytes written for one byte
abbrev written : ℕ → List ℕ
written b = cond (is_plain b) (b ∷ []) (percent_encode_byte b)

encode_byte-written : (b : ℕ) → b < 256 → encode_byte others b ≡ written b
encode_byte-written b small =
    ⊎_elim
    (λ stays. cond-false _ _ _ (escapes_others b small ∙ not_from_true _ stays) ∙ sym (cond-true _ _ _ stays))
    (λ other. cond-true _ _ _ (escapes_others b small ∙ not_from_false _ other) ∙ sym (cond-false _ _ _ other))
    (cases_Bool (is_plain b))

pub percent_encode-escaped : (text : List ℕ) → All IsByte text → percent_encode others text ≡ escaped text
unfolding percent_encode escaped
percent_encode-escaped [] small = refl
percent_encode-escaped (b ∷ text) small =
    ap (λ front. front ++ percent_encode others text) (encode_byte-written b (All-head IsByte b text small))
    ∙ ap (λ rest. written b ++ rest) (percent_encode-escaped text (All-tail IsByte b text small))

-- what is escaped is read back
read_back : (text : List ℕ) → All IsByte text → percent_decode (escaped text) ≡ text
read_back text small = ap percent_decode (sym (percent_encode-escaped text small)) ∙ round_trip others text refl small

plain_back : percent_decode (codes "ROOT") ≡ codes "ROOT"
unfolding percent_decode
plain_back = refl

escape_back : percent_decode (codes "%52OOT") ≡ codes "ROOT"
unfolding percent_decode
escape_back = refl

-- the path of a name
path_of : List ℕ → List ℕ
path_of name = cond (bytes_eq name (codes "ROOT")) [] (47 ∷ percent_decode name)

module _ (rest : List ℕ) (small : All IsByte rest) where
  plain_path : (bytes_eq (47 ∷ rest) (codes "/ROOT") ≡ false) → (test : Bool) → bytes_eq (escaped rest) (codes "ROOT") ≡ test
      → cond test [] (47 ∷ percent_decode (escaped rest)) ≡ 47 ∷ rest
  plain_path other false is = ap (λ (text : List ℕ). 47 ∷ text) (read_back rest small)
  plain_path other true is =
      let same : rest ≡ codes "ROOT" =
      sym (read_back rest small) ∙ ap percent_decode ((bytes_eq-Decides (escaped rest) (codes "ROOT")).0 is) ∙ plain_back in
      let own : bytes_eq (47 ∷ rest) (codes "/ROOT") ≡ true =
      (bytes_eq-Decides (47 ∷ rest) (codes "/ROOT")).1 (ap (λ (text : List ℕ). 47 ∷ text) same) in
      absurd (true≢false (sym own ∙ other))

  slash_path : (test : Bool) → bytes_eq (47 ∷ rest) (codes "/ROOT") ≡ test → path_of (cond test (codes "%52OOT") (escaped rest)) ≡ 47 ∷ rest
  unfolding path_of
  slash_path true is =
      ap (λ (text : List ℕ). 47 ∷ text) escape_back ∙ sym ((bytes_eq-Decides (47 ∷ rest) (codes "/ROOT")).0 is)
  slash_path false is = plain_path is (bytes_eq (escaped rest) (codes "ROOT")) refl

name_back : (path : List ℕ) → All IsByte path → IsPath path → path_of (session_name path) ≡ path
unfolding path_of
name_back [] small is = refl
name_back (first ∷ rest) small is =
    let Back : ℕ → Type 0 = λ b. path_of (session_name (b ∷ rest)) ≡ b ∷ rest in
    subst Back (sym is) (slash_path rest (All-tail IsByte first rest small) (bytes_eq (47 ∷ rest) (codes "/ROOT")) refl)

pub names_differ : (one other : List ℕ) → All IsByte one → All IsByte other → IsPath one → IsPath other → session_name one ≡ session_name other → one ≡ other
names_differ one other small few is its same = sym (name_back one small is) ∙ ap path_of same ∙ name_back other few its
