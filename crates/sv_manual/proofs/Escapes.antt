-- Texts that are escaped character by character.
use Rattle.std.proofs.Common.{◌≡◌, ℕ, List, [], ◌++◌, chars, encode_utf8, encode_utf8_all, IsUtf8, length, ap, ◌∙◌}
use Rattle.std.proofs.lemmas.List.{nil_from_length}
use Rattle.std.specs.List.{flat_map}
use Rattle.std.proofs.lemmas.Str.{chars-nil, chars_past_char, encodes-append}
use Rattle.sv_manual.specs.Form.{escaped, escaped_char}
use Rattle.sv_manual.specs.declared.form.Form.{Form}

pub escaped_empty : (form : Form) (text : List ℕ) → length text ≡ 0 → escaped form text ≡ []
unfolding escaped
escaped_empty form text none = ap (λ cs. encode_utf8_all (flat_map (escaped_char form) cs)) (ap chars (nil_from_length text none) ∙ chars-nil)

pub escaped_step : (form : Form) (text rest : List ℕ) (c : ℕ) → IsUtf8 text → text ≡ encode_utf8 c ++ rest
    → escaped form text ≡ encode_utf8_all (escaped_char form c) ++ escaped form rest
unfolding escaped
escaped_step form text rest c utf8 parts = rw (chars_past_char text rest c utf8 parts, encodes-append)
