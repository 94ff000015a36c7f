-- Bytes read from hexadecimal digits.
use Rattle.std.proofs.Common.{◌≡◌, ℕ, ◌*◌, Bool, true, false, List, length, Result, Ok, Err, refl, subst, arith, nat_le}
use Rattle.std.specs.Prelude.{◌&&◌, if◌then◌else◌}
use Rattle.std.proofs.lemmas.Bool.Decides.{nat_tests}
use Rattle.hex.specs.declared.error.FromHexError.{FromHexError}
use Rattle.hex.specs.Hex.{decode_of}
use Rattle.hex.proofs.HexLemmas.{decode_of-ok}
use Rattle.sv_descriptor.specs.Fault.{refuse}
use Rattle.sv_descriptor.specs.Value.{decoded, hex_text}
use Rattle.sv_descriptor.specs.declared.fault.FaultCode.TheVariants.{BadValue}

-- The number of digits is twice that of bytes.
decoded-Ok : (key text bytes : List ℕ) (digits : Result (List ℕ) FromHexError) → decode_of text ≡ digits → decoded key digits ≡ Ok bytes → length text ≡ 2 * length bytes
decoded-Ok key text bytes (Ok found) same e = let is : found ≡ bytes = cc in subst (λ b. length text ≡ 2 * length b) is ((decode_of-ok text found same).2)
decoded-Ok key text bytes (Err f) same e = cc

sized-Ok : (at_least at_most : Bool) (digits : ℕ) (key text bytes : List ℕ) → nat_le digits (length text) ≡ at_least → nat_le (length text) digits ≡ at_most
    → (if at_least && at_most then decoded key (decode_of text) else refuse BadValue key) ≡ Ok bytes → digits ≡ 2 * length bytes
sized-Ok true true digits key text bytes l m e = let n = decoded-Ok key text bytes (decode_of text) refl e in let same : length text ≡ digits = grind (arith, nat_tests) in omega arith
sized-Ok true false digits key text bytes l m e = cc
sized-Ok false b digits key text bytes l m e = cc

pub hex_text-Ok : (digits : ℕ) (key text bytes : List ℕ) → hex_text digits digits key text ≡ Ok bytes → digits ≡ 2 * length bytes
hex_text-Ok digits key text bytes e = sized-Ok (nat_le digits (length text)) (nat_le (length text) digits) digits key text bytes refl refl e
