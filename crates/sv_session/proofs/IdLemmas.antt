-- The ids that a context gives differ, since their serials do.
use Rattle.std.proofs.Common.{◌≡◌, ◌≢◌, ℕ, zero, suc, ◌+◌, ◌^◌, ◌<◌, ◌≤◌, Bool, true, false, List, [], ◌∷◌, ◌++◌, length, drop, get_or, Option, Some, None, Ok, refl, sym, ◌∙◌, ap, eqb, arith}
use Rattle.std.specs.Int.{byte_at, bytes_high_first, from_be_bytes, to_be_bytes, w64}
use Rattle.std.specs.Option.{option_map_or}
use Rattle.std.specs.Prelude.{nat_le}
use Rattle.std.proofs.Math.Seq.{drop-append_seam}
use Rattle.std.proofs.lemmas.Bool.{eqb-false}
use Rattle.std.proofs.lemmas.List.{length-append}
use Rattle.std.proofs.lemmas.Nat.{from_be_bytes-to_be_bytes_8}
use Rattle.hex.specs.Hex.{IsBytes, decode_of, lower_digits}
use Rattle.hex.proofs.HexLemmas.{decode_of-encode_lower, length-encode_with}
use Rattle.sv_text.specs.Faults.{when}
use Rattle.sv_session.specs.declared.limits.TheConstants.{GREATEST_SERIAL}
use Rattle.sv_session.specs.declared.session_fault.SessionFault.{SessionFault}
use Rattle.sv_session.specs.declared.session_fault.SessionFault.TheVariants.{SerialSpent, TooMany}
use Rattle.sv_session.specs.Calls.{expired_number, is_spent, missing, opened, opening_faults, renamed, renaming_faults, setting_faults, with_attribute, without}
use Rattle.sv_session.specs.Id.{digits_of, id_text}
use Rattle.sv_session.specs.Laws.{AreOfSerials, IdsOfSerialsDiffer}
use Rattle.sv_session.specs.Runs.{Call, Open, Touch, Expire, End, Rename, EnterCaller, Save, TakeSaved, Set, Remove, ids_given, left_after, left_by, unless}
use Rattle.sv_session.specs.Store.{Store}

-- ---- the serial of an id
is_byte : (place number : ℕ) → byte_at place number < 256
is_byte zero number = omega arith
is_byte (suc place) number = omega arith

are_bytes : (count number i : ℕ) → get_or (bytes_high_first count number) i 0 < 256
are_bytes zero number i = omega arith
are_bytes (suc count) number zero = is_byte count number
are_bytes (suc count) number (suc i) = are_bytes count number i

pub bytes_of_number : (number : ℕ) → IsBytes (to_be_bytes w64 number)
bytes_of_number number i = are_bytes 8 number i

digits_tell : (a b : ℕ) → a < 2 ^ 64 → b < 2 ^ 64 → digits_of a ≡ digits_of b → a ≡ b
digits_tell a b small_a small_b same =
    let read : Ok (to_be_bytes w64 a) ≡ Ok (to_be_bytes w64 b) =
    sym (decode_of-encode_lower (to_be_bytes w64 a) (bytes_of_number a)) ∙ (ap decode_of same ∙ decode_of-encode_lower (to_be_bytes w64 b) (bytes_of_number b)) in
    let bytes : to_be_bytes w64 a ≡ to_be_bytes w64 b = cc in
    sym (from_be_bytes-to_be_bytes_8 a small_a) ∙ (ap (from_be_bytes w64) bytes ∙ from_be_bytes-to_be_bytes_8 b small_b)

pub front_len : (words : ℕ × ℕ) → length (digits_of words.0 ++ digits_of words.1) ≡ 32
front_len words =
    length-append (digits_of words.0) (digits_of words.1)
    ∙ omega (arith, length-encode_with lower_digits (to_be_bytes w64 words.0), length-encode_with lower_digits (to_be_bytes w64 words.1))

pub serial_of : (words : ℕ × ℕ) (serial : ℕ) → drop 32 (id_text words serial) ≡ digits_of serial
serial_of words serial =
    ap (λ n. drop n (id_text words serial)) (sym (front_len words)) ∙ drop-append_seam (digits_of words.0 ++ digits_of words.1) (digits_of serial)

pub id_len : (words : ℕ × ℕ) (serial : ℕ) → length (id_text words serial) ≡ 48
id_len words serial =
    length-append (digits_of words.0 ++ digits_of words.1) (digits_of serial)
    ∙ omega (arith, front_len words, length-encode_with lower_digits (to_be_bytes w64 serial))

pub serials_tell : (words others : ℕ × ℕ) (a b : ℕ) → a < 2 ^ 64 → b < 2 ^ 64 → id_text words a ≡ id_text others b → a ≡ b
serials_tell words others a b small_a small_b same =
    digits_tell a b small_a small_b (sym (serial_of words a) ∙ (ap (drop 32) same ∙ serial_of others b))

-- ---- ids of rising serials
differ_from : (words : ℕ × ℕ) (own serial last : ℕ) (ids : List (List ℕ)) → own ≤ serial → own ≤ GREATEST_SERIAL → AreOfSerials serial last ids
    → (k : ℕ) (d : List ℕ) → k < length ids → id_text words own ≢ get_or ids k d
differ_from words own serial last [] under small are k d within = absurd (omega arith)
differ_from words own serial last (id ∷ ids) under small are zero d within = λ same.
    let equal : own ≡ serial + 1 = serials_tell words are.0 own (serial + 1) (omega (arith, small)) (omega (arith, are.2)) (same ∙ are.1) in
    omega (arith, equal, under)
differ_from words own serial last (id ∷ ids) under small are (suc k) d within =
    differ_from words own (serial + 1) last ids (omega (arith, under)) small are.3 k d (omega (arith, within))

pub pairs_differ : IdsOfSerialsDiffer
pairs_differ serial last [] are i j d less within = absurd (omega arith)
pairs_differ serial last (id ∷ ids) are i zero d less within = absurd (omega arith)
pairs_differ serial last (id ∷ ids) are zero (suc j) d less within = λ same.
    differ_from are.0 (serial + 1) (serial + 1) last ids (omega arith) are.2 are.3 j d (omega (arith, within)) (sym are.1 ∙ same)
pairs_differ serial last (id ∷ ids) are (suc i) (suc j) d less within = pairs_differ (serial + 1) last ids are.3 i j d (omega (arith, less)) (omega (arith, within))

-- ---- the ids that calls give
pub nothing_behind : {F : Type 0} (front : List F) (test : Bool) (fault : F) → front ++ when test fault ≡ [] → test ≡ false
nothing_behind front false fault none = refl
nothing_behind [] true fault none = cc
nothing_behind (x ∷ xs) true fault none = cc

pub rises_unspent : (serial : ℕ) → serial ≤ GREATEST_SERIAL → eqb serial GREATEST_SERIAL ≡ false → (serial + 1 ≤ GREATEST_SERIAL) × (serial + 1 < 2 ^ 64)
rises_unspent serial within unspent =
    let other : serial ≡ GREATEST_SERIAL → ⊥ = eqb-false serial GREATEST_SERIAL unspent in
    (omega (arith, other), omega (arith, other))

pub next_serials : (calls : List Call) (store : Store) → store.serial ≤ GREATEST_SERIAL → AreOfSerials store.serial (left_after calls store).serial (ids_given calls store)
next_serials [] store within = refl
next_serials (Open words now ∷ calls) store within = by_faults (next_serials calls) (opening_faults store) refl
  where
    by_faults : ((next : Store) → next.serial ≤ GREATEST_SERIAL → AreOfSerials next.serial (left_after calls next).serial (ids_given calls next)) → (faults : List SessionFault) → opening_faults store ≡ faults
        → AreOfSerials store.serial (left_after calls (unless faults (opened words now store) store)).serial
        (unless faults (id_text words (store.serial + 1) ∷ []) [] ++ ids_given calls (unless faults (opened words now store) store))
    by_faults again [] none =
        let more = rises_unspent store.serial within (nothing_behind (when (nat_le store.limit (length store.sessions)) TooMany) (is_spent store) SerialSpent none) in
        (words, refl, more.0, again (opened words now store) more.0)
    by_faults again (fault ∷ faults) some = again store within
next_serials (Rename number words ∷ calls) store within = by_faults (next_serials calls) (renaming_faults number store) refl
  where
    by_faults : ((next : Store) → next.serial ≤ GREATEST_SERIAL → AreOfSerials next.serial (left_after calls next).serial (ids_given calls next)) → (faults : List SessionFault) → renaming_faults number store ≡ faults
        → AreOfSerials store.serial (left_after calls (unless faults (renamed number words store) store)).serial
        (unless faults (id_text words (store.serial + 1) ∷ []) [] ++ ids_given calls (unless faults (renamed number words store) store))
    by_faults again [] none =
        let more = rises_unspent store.serial within (nothing_behind (missing number store) (is_spent store) SerialSpent none) in
        (words, refl, more.0, again (renamed number words store) more.0)
    by_faults again (fault ∷ faults) some = again store within
next_serials (Expire now ∷ calls) store within = by_number (next_serials calls) (expired_number now store)
  where
    by_number : ((next : Store) → next.serial ≤ GREATEST_SERIAL → AreOfSerials next.serial (left_after calls next).serial (ids_given calls next)) → (number : Option ℕ)
        → AreOfSerials store.serial (left_after calls (option_map_or (λ number. without number store) number store)).serial
        (ids_given calls (option_map_or (λ number. without number store) number store))
    by_number again None = again store within
    by_number again (Some number) = again (without number store) within
next_serials (Set number name value ∷ calls) store within = by_faults (next_serials calls) (setting_faults number name value store)
  where
    by_faults : ((next : Store) → next.serial ≤ GREATEST_SERIAL → AreOfSerials next.serial (left_after calls next).serial (ids_given calls next)) → (faults : List SessionFault)
        → AreOfSerials store.serial (left_after calls (unless faults (with_attribute number name value store) store)).serial
        (ids_given calls (unless faults (with_attribute number name value store) store))
    by_faults again [] = again (with_attribute number name value store) within
    by_faults again (fault ∷ faults) = again store within
next_serials (Touch number now ∷ calls) store within = next_serials calls (left_by (Touch number now) store) within
next_serials (End number ∷ calls) store within = next_serials calls (left_by (End number) store) within
next_serials (EnterCaller number caller ∷ calls) store within = next_serials calls (left_by (EnterCaller number caller) store) within
next_serials (Save number target ∷ calls) store within = next_serials calls (left_by (Save number target) store) within
next_serials (TakeSaved number ∷ calls) store within = next_serials calls (left_by (TakeSaved number) store) within
next_serials (Remove number name ∷ calls) store within = next_serials calls (left_by (Remove number name) store) within
