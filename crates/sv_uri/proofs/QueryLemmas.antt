-- Escaping a query is the percent-encoding of its bytes outside 33 to 126.
use Rattle.std.proofs.Common.{ℕ, ◌≡◌, ◌<◌, ◌+◌, ◌-◌, ◌^◌, not, cond, List, [], ◌∷◌, ◌++◌, sym, refl, ap, ◌∙◌, ⊎_elim}
use Rattle.std.specs.List.{All}
use Rattle.std.proofs.lemmas.Bool.{cases_Bool, cond-true, cond-false, agree_below_at, not_from_true, not_from_false}
use Rattle.std.proofs.lemmas.List.Elements.{All-head, All-tail}
use Rattle.percent_encoding.specs.declared.ascii_set.AsciiSet.{AsciiSet}
use Rattle.percent_encoding.specs.AsciiSet.{should_percent_encode}
use Rattle.percent_encoding.specs.Percent.{percent_encode, percent_encode_byte, encode_byte}
use Rattle.percent_encoding.proofs.PercentLemmas.{IsByte}
use Rattle.sv_uri.specs.Target.{is_visible, visible_query}

-- The bytes below 33, and 127.
abbrev pub escaped : AsciiSet
escaped = record { mask = 2 ^ 127 + 2 ^ 33 - 1 }

escapes_others : (b : ℕ) → b < 256 → should_percent_encode escaped b ≡ not (is_visible b)
unfolding should_percent_encode
escapes_others b small = agree_below_at (should_percent_encode escaped) (λ x. not (is_visible x)) 256 b refl small

encode_byte-visible : (b : ℕ) → b < 256 → encode_byte escaped b ≡ cond (is_visible b) (b ∷ []) (percent_encode_byte b)
encode_byte-visible b small =
    ⊎_elim
    (λ visible. cond-false _ _ _ (escapes_others b small ∙ not_from_true _ visible) ∙ sym (cond-true _ _ _ visible))
    (λ other. cond-true _ _ _ (escapes_others b small ∙ not_from_false _ other) ∙ sym (cond-false _ _ _ other))
    (cases_Bool (is_visible b))

pub percent_encode-query : (query : List ℕ) → All IsByte query → percent_encode escaped query ≡ visible_query query
unfolding percent_encode
percent_encode-query [] small = refl
percent_encode-query (b ∷ query) small =
    ap (λ front. front ++ percent_encode escaped query) (encode_byte-visible b (All-head IsByte b query small))
    ∙ ap (λ rest. cond (is_visible b) (b ∷ []) (percent_encode_byte b) ++ rest) (percent_encode-query query (All-tail IsByte b query small))
