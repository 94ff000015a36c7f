-- The words and the serial that an id was made of.
use Rattle.std.proofs.Common.{◌≡◌, ℕ, ◌-◌, ◌<◌, ◌^◌, true, not, List, ◌++◌, length, take, drop, None, Option, MatchOption, Ok, refl, sym, ◌∙◌, ap, subst, leb, arith}
use Rattle.std.specs.Int.{from_be_bytes, to_be_bytes, w64}
use Rattle.std.proofs.Math.Seq.{drop-append_seam}
use Rattle.std.specs.Str.{bytes_eq}
use Rattle.std.proofs.lemmas.Bool.{le-leb, leb-true}
use Rattle.std.proofs.lemmas.List.{append_assoc, drop-drop, take-append-drop, take-append-le, take_at, take_rest}
use Rattle.std.proofs.lemmas.Slice.Eq.{bytes_eq-Decides}
use Rattle.std.proofs.lemmas.Nat.{be_bytes_8}
use Rattle.hex.specs.Hex.{decode_sized, encode_lower, lower_digits}
use Rattle.hex.proofs.HexLemmas.{decode_sized-encode_lower, length-encode_with}
use Rattle.sv_session.specs.Id.{digits_of, id_text}
use Rattle.sv_session.specs.Ids.{IsGiven}
use Rattle.sv_session.proofs.IdLemmas.{bytes_of_number, front_len, serial_of, serials_tell}

pub decodes : (digits : List ℕ) (number : ℕ) → digits ≡ digits_of number → decode_sized digits 8 ≡ Ok (to_be_bytes w64 number)
decodes digits number same =
    ap (λ text. decode_sized text 8) same ∙ decode_sized-encode_lower (to_be_bytes w64 number) 8 refl (bytes_of_number number)

-- The number of the decoded bytes has the same digits.
pub reads_back : (digits bytes : List ℕ) (number read : ℕ) → digits ≡ digits_of number → Ok bytes ≡ decode_sized digits 8 → read ≡ from_be_bytes w64 bytes
    → digits_of read ≡ digits
reads_back digits bytes number read same decoded is =
    let equal : bytes ≡ to_be_bytes w64 number = cc (decoded ∙ decodes digits number same) in
    ap encode_lower (be_bytes_8 (to_be_bytes w64 number) read refl (bytes_of_number number) (is ∙ ap (from_be_bytes w64) equal)) ∙ sym same

pub no_others : (digits others : List ℕ) → others ≡ digits → not (bytes_eq others digits) ≡ true → ⊥
no_others digits others same differ = let equal : bytes_eq others digits ≡ true = (bytes_eq-Decides others digits).1 same in cc

-- ---- the parts of an id
digits_len : (number : ℕ) → length (digits_of number) ≡ 16
digits_len number = length-encode_with lower_digits (to_be_bytes w64 number)

pub first_part : (words : ℕ × ℕ) (serial : ℕ) → take 16 (id_text words serial) ≡ digits_of words.0
first_part words serial =
    take-append-le 16 (digits_of words.0 ++ digits_of words.1) (digits_of serial) (omega (arith, front_len words))
    ∙ take_at (digits_of words.0) (digits_of words.1) 16 (digits_len words.0)

pub second_part : (words : ℕ × ℕ) (serial : ℕ) → take 16 (drop 16 (id_text words serial)) ≡ digits_of words.1
second_part words serial =
    ap (λ text. take 16 (drop 16 text)) (append_assoc (digits_of words.0) (digits_of words.1) (digits_of serial))
    ∙ (ap (λ n. take 16 (drop n (digits_of words.0 ++ (digits_of words.1 ++ digits_of serial)))) (sym (digits_len words.0))
    ∙ (ap (take 16) (drop-append_seam (digits_of words.0) (digits_of words.1 ++ digits_of serial))
    ∙ take_at (digits_of words.1) (digits_of serial) 16 (digits_len words.1)))

pub last_part : (id : List ℕ) (words : ℕ × ℕ) (serial : ℕ) → id ≡ id_text words serial → take (length id - 32) (drop 32 id) ≡ digits_of serial
last_part id words serial same = take_rest id 32 ∙ (ap (drop 32) same ∙ serial_of words serial)

pub joined : (id : List ℕ) (first second serial : ℕ) → take 16 id ≡ digits_of first → take 16 (drop 16 id) ≡ digits_of second
    → take (length id - 32) (drop 32 id) ≡ digits_of serial → id ≡ id_text (first, second) serial
joined id first second serial head middle tail =
    let rest : drop 16 (drop 16 id) ≡ digits_of serial = drop-drop 16 16 id ∙ (sym (take_rest id 32) ∙ tail) in
    let behind : drop 16 id ≡ digits_of second ++ digits_of serial =
    sym (take-append-drop 16 (drop 16 id)) ∙ (ap (λ text. text ++ drop 16 (drop 16 id)) middle ∙ ap (λ text. digits_of second ++ text) rest) in
    sym (take-append-drop 16 id) ∙ (ap (λ text. text ++ drop 16 id) head ∙ (ap (λ text. digits_of first ++ text) behind
    ∙ sym (append_assoc (digits_of first) (digits_of second) (digits_of serial))))

-- ---- no id
-- No words and no serial make the bytes.
abbrev pub IsNoId : List ℕ → Type 0
IsNoId id = (words : ℕ × ℕ) (serial : ℕ) → id ≡ id_text words serial → ⊥

pub refused : (P : ℕ → Type 0) (id : List ℕ) (result : Option ℕ) → result ≡ None → IsNoId id → MatchOption result (IsNoId id) P
refused P id result none bad = subst (λ r. MatchOption r (IsNoId id) P) (sym none) bad

-- ---- an id of a serial up to a bound
pub given_up_to : (id seen : List ℕ) (bound serial : ℕ) → bound < 2 ^ 64 → serial < 2 ^ 64 → seen ≡ id → (words : ℕ × ℕ) → seen ≡ id_text words serial
    → (leb serial bound ≡ true → IsGiven bound id) × (IsGiven bound id → leb serial bound ≡ true)
given_up_to id seen bound serial small_bound small same words made = (
  λ less. (words, serial, leb-true serial bound less, sym same ∙ made),
  λ given.
      let within = given.2 in
      let equal : serial ≡ given.1 = serials_tell words given.0 serial given.1 small (omega (arith, small_bound, within)) (sym made ∙ (same ∙ given.3)) in
      le-leb serial bound (omega (arith, equal, within)),
)
