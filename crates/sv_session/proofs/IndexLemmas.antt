-- Ids entered in the index and removed from it, by their bytes.
use Rattle.std.proofs.Common.{◌≡◌, ℕ, Bool, true, false, cond, List, Option, sym, ◌∙◌, subst, ⊎_elim}
use Rattle.std.specs.HashMap as hash
use Rattle.std.specs.HashMap.{HashMap}
use Rattle.std.specs.Map.{AreApart, IsKeyTest, KeepsOthers, lookup}
use Rattle.std.specs.Str.{bytes_eq}
use Rattle.std.proofs.Common.{Vec}
use Rattle.std.proofs.lemmas.Bool.{cases_Bool, cond-false, cond-true}
use Rattle.std.proofs.lemmas.Slice.Eq.{bytes_eq-Decides}
use Rattle.std.proofs.lemmas.Cmp.{nat_list_eq_equiv}

apart : (bs cs ks : List ℕ) → bytes_eq bs cs ≡ false → bytes_eq bs ks ≡ true → bytes_eq cs ks ≡ false
apart bs cs ks n y = nat_list_eq_equiv.symm cs ks ∙ sym (nat_list_eq_equiv.congr bs ks cs y) ∙ n

module _ {K : Type 0} (eq : K → K → Bool) (test : K → Bool) where
  other_entries : {X : Type 0} (old new : List (K × X)) → KeepsOthers eq test old new → (other : K → Bool) → IsKeyTest eq other → AreApart test other → lookup other new ≡ lookup other old
  unfolding KeepsOthers
  other_entries old new h = h

pub updated : {Y X S : Type 0} (id : List ℕ) (old new : HashMap (Vec ℕ Y) X S) (w : Option X)
    → hash.UpdatesBy (λ a b. bytes_eq a.items b.items) (λ key. bytes_eq id key.items) old new w
    → (other : List ℕ) → hash.get_by (λ key. bytes_eq other key.items) new ≡ cond (bytes_eq id other) w (hash.get_by (λ key. bytes_eq other key.items) old)
updated id old new w update other =
    ⊎_elim
    (λ same. subst (λ bs. hash.get_by (λ key. bytes_eq bs key.items) new ≡ w) ((bytes_eq-Decides id other).0 same) update.1
    ∙ sym (cond-true (bytes_eq id other) w _ same))
    (λ differs. other_entries _ _ _ _ update.3 _ (λ x y. nat_list_eq_equiv.congr other x.items y.items) (λ key. apart id other key.items differs)
    ∙ sym (cond-false (bytes_eq id other) w _ differs))
    (cases_Bool (bytes_eq id other))
