-- Bytes that are texts.
use Rattle.std.proofs.Common.{◌≡◌, ℕ, Bool, true, false, cond, List, Some, None, refl}
use Rattle.std.specs.Str.{IsUtf8, is_utf8}
use Rattle.std.proofs.lemmas.Str.{IsUtf8-from_is_utf8, is_utf8-from_IsUtf8}

pub is_text : (bytes : List ℕ) → IsUtf8 bytes → cond (is_utf8 bytes) (Some bytes) None ≡ Some bytes
is_text bytes is = rw (is_utf8-from_IsUtf8 bytes is) refl

pub is_no_text : (bytes : List ℕ) → ¬ (IsUtf8 bytes) → cond (is_utf8 bytes) (Some bytes) None ≡ None
is_no_text bytes none = by (is_utf8 bytes) refl
  where
    by : (is : Bool) → is_utf8 bytes ≡ is → cond is (Some bytes) None ≡ None
    by true same = absurd (none (IsUtf8-from_is_utf8 bytes same))
    by false same = refl
