-- Properties of tables after one more.
use Rattle.std.proofs.Common.{arith, subst, ◌≡◌, ℕ, List, [], ◌∷◌, ◌++◌, length, map, ap, sym, ◌∙◌, Option, Some, None}
use Rattle.std.specs.Prelude.{All, IfSome, slice_get}
use Rattle.std.specs.Option.{option_and_then}
use Rattle.std.proofs.lemmas.List.Elements.{All-append, All-cons, All-map}
use Rattle.std.proofs.lemmas.Option.{none-some}
use Rattle.sv_policy.specs.declared.table.Table.{Table}
use Rattle.sv_policy.proofs.Deciding.{all_at}
use Rattle.sv_policy.proofs.Filing.{at_map, length_map}
use Rattle.sv_policy.proofs.Whole.{all_none}

-- A property of the mapped items holds for the image of each item.
pub all_at_each : {A X : Type 0} (P : X → Type 0) (f : A → X) (xs : List A) → All P (map f xs) → All (λ x. P (f x)) xs
all_at_each P f xs all = λ k d within. subst P (at_map f xs k d within) (all k (f d) (let same_length : length (map f xs) ≡ length xs = length_map f xs in omega (arith, within, same_length)))

-- The property holds after adding an item that has it.
pub all_made : {A X : Type 0} (P : X → Type 0) (f : A → X) (old new : List A) (x : X) → map f new ≡ map f old ++ x ∷ [] → P x → All (λ a. P (f a)) old → All (λ a. P (f a)) new
all_made P f old new x made is all =
    all_at_each P f new (subst (All P) (sym made) (All-append P (map f old) (x ∷ []) (All-map P f old all) (All-cons P x [] is (all_none P))))

-- A property of all tables holds for one that is found by index.
pub found_among : {A : Type 0} (P : Table → Type 0) (value : A → Table) (made slice : List A) (place : Option ℕ) (found : Option Table) → found ≡ option_and_then (λ at. slice_get (map value slice) at) place → slice ≡ made → All (λ a. P (value a)) made → IfSome found P
found_among P value made slice place None is same all = tt
found_among P value made slice None (Some table) is same all = absurd (none-some table (sym is))
found_among P value made slice (Some k) (Some table) is same all = all_at P (map value made) k table (All-map P value made all) (is ∙ ap (λ xs. slice_get (map value xs) k) same)
