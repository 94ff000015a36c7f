-- Texts that are escaped character by character: for a page, and for a basic string.
use Rattle.std.proofs.Common.{◌≡◌, ℕ, List, [], ◌++◌, chars, encode_utf8, encode_utf8_all, IsUtf8, length, ap, ◌∙◌}
use Rattle.std.proofs.lemmas.List.{nil_from_length}
use Rattle.std.specs.List.{flat_map}
use Rattle.std.proofs.lemmas.Str.{chars-nil, chars_past_char, encodes-append}
use Rattle.sv_web.specs.Elements.{quoted, quoted_char}
use Rattle.sv_web.specs.Escaping.{escaped_char, html_escaped}

module _ (each : ℕ → List ℕ) where
  written_empty : (text : List ℕ) → length text ≡ 0 → encode_utf8_all (flat_map each (chars text)) ≡ []
  written_empty text none = ap (λ cs. encode_utf8_all (flat_map each cs)) (ap chars (nil_from_length text none) ∙ chars-nil)

  written_step : (text rest : List ℕ) (c : ℕ) → IsUtf8 text → text ≡ encode_utf8 c ++ rest
      → encode_utf8_all (flat_map each (chars text)) ≡ encode_utf8_all (each c) ++ encode_utf8_all (flat_map each (chars rest))
  written_step text rest c utf8 parts = rw (chars_past_char text rest c utf8 parts, encodes-append)

pub escaped_empty : (text : List ℕ) → length text ≡ 0 → html_escaped text ≡ []
unfolding html_escaped
escaped_empty = written_empty escaped_char

pub escaped_step : (text rest : List ℕ) (c : ℕ) → IsUtf8 text → text ≡ encode_utf8 c ++ rest
    → html_escaped text ≡ encode_utf8_all (escaped_char c) ++ html_escaped rest
unfolding html_escaped
escaped_step = written_step escaped_char

pub quoted_empty : (text : List ℕ) → length text ≡ 0 → quoted text ≡ []
unfolding quoted
quoted_empty = written_empty quoted_char

pub quoted_step : (text rest : List ℕ) (c : ℕ) → IsUtf8 text → text ≡ encode_utf8 c ++ rest
    → quoted text ≡ encode_utf8_all (quoted_char c) ++ quoted rest
unfolding quoted
quoted_step = written_step quoted_char
