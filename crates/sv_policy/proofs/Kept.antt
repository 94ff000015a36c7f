-- Loops that keep some items.
use Rattle.std.proofs.Common.{◌≡◌, ℕ, ◌+◌, ◌<◌, Bool, true, false, List, [], ◌∷◌, ◌++◌, length, take, get_or, map, ap, sym, ◌∙◌, cond}
use Rattle.std.specs.Borrow.{Bor}
use Rattle.std.specs.Prelude.{fold}
use Rattle.std.specs.List.{list_any}
use Rattle.std.specs.Str.{bytes_eq}
use Rattle.std.proofs.lemmas.List.{map-append, take_more}
use Rattle.std.proofs.lemmas.List.Sums.{fold-append}
use Rattle.sv_constraints.specs.Covering.{lists}
use Rattle.sv_policy.proofs.Listed.{any_seen}
use Rattle.sv_policy.specs.Patterns.{kept_once}

folded_more : (old patterns : List (List ℕ)) (i : ℕ) (p : List ℕ) → i < length patterns → p ≡ get_or patterns i p → fold kept_once old (take (i + 1) patterns) ≡ kept_once (fold kept_once old (take i patterns)) p
folded_more old patterns i p within at_i =
    ap (fold kept_once old) (take_more patterns i p within ∙ ap (λ q. take i patterns ++ q ∷ []) (sym at_i)) ∙ fold-append kept_once old (take i patterns) (p ∷ [])

module _ (old patterns : List (List ℕ)) (i : ℕ) (p : List ℕ) (kept : List (Bor (List ℕ))) (text : List ℕ) (slice : List (Bor (List ℕ))) (among : Bool) (within : i < length patterns) (at_i : p ≡ get_or patterns i p) (was : map (λ q. q.now) kept ≡ fold kept_once old (take i patterns)) (is : among ≡ list_any (λ q. bytes_eq q.now text) slice) (same_text : text ≡ p) (same_slice : slice ≡ kept) where
  listed_before : lists (map (λ q. q.now) kept) p ≡ among
  listed_before = any_seen (λ listed. bytes_eq listed p) (λ q. q.now) kept ∙ ap (λ xs. list_any (λ q. bytes_eq q.now p) xs) (sym same_slice) ∙ ap (λ t. list_any (λ q. bytes_eq q.now t) slice) (sym same_text) ∙ sym is

  once_more : kept_once (map (λ q. q.now) kept) p ≡ fold kept_once old (take (i + 1) patterns)
  once_more = ap (λ texts. kept_once texts p) was ∙ sym (folded_more old patterns i p within at_i)

  pub kept_there : among ≡ true → (after : List (Bor (List ℕ))) → after ≡ kept → map (λ q. q.now) after ≡ fold kept_once old (take (i + 1) patterns)
  kept_there there after same =
      ap (map (λ q. q.now)) same ∙ sym (ap (λ b. cond b (map (λ q. q.now) kept) (map (λ q. q.now) kept ++ p ∷ [])) (listed_before ∙ there)) ∙ once_more

  pub kept_first : among ≡ false → (after : List (Bor (List ℕ))) (x : Bor (List ℕ)) → after ≡ kept ++ x ∷ [] → x.now ≡ p → map (λ q. q.now) after ≡ fold kept_once old (take (i + 1) patterns)
  kept_first absent after x pushed same =
      ap (map (λ q. q.now)) pushed ∙ map-append (λ q. q.now) kept (x ∷ []) ∙ ap (λ t. map (λ q. q.now) kept ++ t ∷ []) same
      ∙ sym (ap (λ b. cond b (map (λ q. q.now) kept) (map (λ q. q.now) kept ++ p ∷ [])) (listed_before ∙ absent)) ∙ once_more
