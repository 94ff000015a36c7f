-- The bytes that are written for a name.
use Rattle.std.proofs.Common.{ℕ, ◌≡◌, ◌<◌, not, cond, List, [], ◌∷◌, ◌++◌, sym, refl, ap, ◌∙◌, ⊎_elim}
use Rattle.std.specs.List.{All}
use Rattle.std.proofs.lemmas.Bool.{cases_Bool, cond-true, cond-false, agree_below_at, not_from_true, not_from_false}
use Rattle.std.proofs.lemmas.List.Elements.{All-head, All-tail}
use Rattle.percent_encoding.specs.declared.ascii_set.AsciiSet.{AsciiSet}
use Rattle.percent_encoding.specs.AsciiSet.{should_percent_encode}
use Rattle.percent_encoding.specs.Percent.{percent_encode, percent_encode_byte, encode_byte}
use Rattle.percent_encoding.proofs.PercentLemmas.{IsByte}
use Rattle.sv_application.specs.Names.{encoded_name, is_unreserved}

-- the bytes below 128 that are escaped
abbrev pub escaped : AsciiSet
escaped = record { mask = 0xb8000001_78000001_fc009fff_ffffffff }

escapes_others : (b : ℕ) → b < 256 → should_percent_encode escaped b ≡ not (is_unreserved b)
unfolding should_percent_encode
escapes_others b small = agree_below_at (should_percent_encode escaped) (λ x. not (is_unreserved x)) 256 b refl small

-- the bytes written for one byte
abbrev written : ℕ → List ℕ
written b = cond (is_unreserved b) (b ∷ []) (percent_encode_byte b)

encode_byte-written : (b : ℕ) → b < 256 → encode_byte escaped b ≡ written b
encode_byte-written b small =
    ⊎_elim
    (λ stays. cond-false _ _ _ (escapes_others b small ∙ not_from_true _ stays) ∙ sym (cond-true _ _ _ stays))
    (λ other. cond-true _ _ _ (escapes_others b small ∙ not_from_false _ other) ∙ sym (cond-false _ _ _ other))
    (cases_Bool (is_unreserved b))

pub percent_encode-name : (name : List ℕ) → All IsByte name → percent_encode escaped name ≡ encoded_name name
unfolding percent_encode encoded_name
percent_encode-name [] small = refl
percent_encode-name (b ∷ name) small =
    ap (λ front. front ++ percent_encode escaped name) (encode_byte-written b (All-head IsByte b name small))
    ∙ ap (λ rest. written b ++ rest) (percent_encode-name name (All-tail IsByte b name small))
