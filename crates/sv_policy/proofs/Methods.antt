-- A method is a token.
use Rattle.std.proofs.Common.{◌≡◌, ℕ, ◌<◌, Bool, true, false, not, List, [], ◌∷◌, length, refl, sym, arith}
use Rattle.std.specs.Prelude.{◌↔◌, IsTrue}
use Rattle.std.specs.Str.{bytes_eq}
use Rattle.std.proofs.lemmas.Bool.{and_from, and_parts, both_ways, false_from_ne_true}
use Rattle.std.proofs.lemmas.List.Sums.{AllPass-from_list_all, list_all-from_AllPass}
use Rattle.http_header.specs.Token.{IsToken, is_token_byte}
use Rattle.sv_policy.specs.Explanation.{is_token}

some_from_len : (text : List ℕ) → 0 < length text → not (bytes_eq text []) ≡ true
some_from_len [] h = absurd (omega arith)
some_from_len (x ∷ xs) h = refl

len_from_some : (text : List ℕ) → not (bytes_eq text []) ≡ true → 0 < length text
len_from_some [] h = cc
len_from_some (x ∷ xs) h = omega arith

pub is_token_text : (r : Bool) (text : List ℕ) → IsTrue r ↔ IsToken text → r ≡ is_token text
is_token_text true text h =
    let token : IsToken text = h.0 refl in
    sym (and_from _ _ (some_from_len text token.0) (list_all-from_AllPass is_token_byte text token.1))
is_token_text false text h =
    sym (false_from_ne_true _ (λ e. let parts = and_parts _ _ e in both_ways _ refl (h.1 (len_from_some text parts.0, AllPass-from_list_all is_token_byte text parts.1))))
