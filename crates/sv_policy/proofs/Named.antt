-- A method that is not named is covered exactly if the unnamed methods are.
use Rattle.std.proofs.lemmas.Bool.{false≢true}
use Rattle.std.proofs.Common.{◌≡◌, ℕ, Bool, true, false, not, ◌||◌, ◌&&◌, List, [], ◌∷◌, refl, ap, sym, ◌∙◌, Some, None, cond}
use Rattle.std.specs.Prelude.{filter}
use Rattle.std.specs.List.{list_any, flat_map}
use Rattle.std.proofs.lemmas.List.Folds.{list_any-append}
use Rattle.std.specs.Str.{bytes_eq}
use Rattle.sv_constraints.specs.Covering.{lists, covers, covers_method, collection_covers}
use Rattle.sv_constraints.specs.declared.constraint.Collection.{Collection}
use Rattle.sv_constraints.specs.declared.constraint.Constraint.{Constraint}
use Rattle.sv_constraints.specs.declared.constraint.Methods.{Methods}
use Rattle.sv_constraints.specs.declared.constraint.Methods.TheVariants.{All, Only, Except}
use Rattle.sv_policy.specs.Covering.{collection_covers_unnamed, covers_at, leaves_others_open, listed_methods, method_names, named_methods}

pub first_false : (a b : Bool) → (a || b) ≡ false → a ≡ false
first_false true b h = h
first_false false b h = refl

pub second_false : (a b : Bool) → (a || b) ≡ false → b ≡ false
second_false true b h = absurd (false≢true (sym h))
second_false false b h = h

unnamed_method : (methods : Methods) (method : List ℕ) → lists (method_names methods) method ≡ false → not (leaves_others_open methods) ≡ covers_method methods method
unnamed_method All method unnamed = refl
unnamed_method (Only listed) method unnamed = sym unnamed
unnamed_method (Except listed) method unnamed = ap not (sym unnamed)

module _ (pattern method : List ℕ) where
  listed_split : (listing : Bool) (collection : Collection) (rest : List Collection) → lists (flat_map (λ c. method_names c.methods) (cond listing (collection ∷ rest) rest)) method ≡ false → (listing && not (leaves_others_open collection.methods)) ≡ (listing && covers_method collection.methods method)
  listed_split true collection rest unnamed =
      unnamed_method collection.methods method (first_false (lists (method_names collection.methods) method) (lists (flat_map (λ c. method_names c.methods) rest) method)
      (sym (list_any-append (λ listed. bytes_eq listed method) (method_names collection.methods) (flat_map (λ c. method_names c.methods) rest)) ∙ unnamed))
  listed_split false collection rest unnamed = refl

  listed_rest : (listing : Bool) (collection : Collection) (rest : List Collection) → lists (flat_map (λ c. method_names c.methods) (cond listing (collection ∷ rest) rest)) method ≡ false → lists (flat_map (λ c. method_names c.methods) rest) method ≡ false
  listed_rest true collection rest unnamed =
      second_false (lists (method_names collection.methods) method) (lists (flat_map (λ c. method_names c.methods) rest) method)
      (sym (list_any-append (λ listed. bytes_eq listed method) (method_names collection.methods) (flat_map (λ c. method_names c.methods) rest)) ∙ unnamed)
  listed_rest false collection rest unnamed = unnamed

  unnamed_collections : (collections : List Collection) → lists (listed_methods collections pattern) method ≡ false → list_any (λ collection. collection_covers_unnamed collection pattern) collections ≡ list_any (λ collection. collection_covers collection pattern method) collections
  unnamed_collections [] unnamed = refl
  unnamed_collections (collection ∷ collections) unnamed =
      ap (λ first. first || list_any (λ c. collection_covers_unnamed c pattern) collections) (listed_split (lists collection.patterns pattern) collection (filter (λ c. lists c.patterns pattern) collections) unnamed)
      ∙ ap (λ rest. collection_covers collection pattern method || rest) (unnamed_collections collections (listed_rest (lists collection.patterns pattern) collection (filter (λ c. lists c.patterns pattern) collections) unnamed))

  -- The same constraints cover a method that is not named and the unnamed methods.
  pub unnamed_members : (members : List Constraint) → lists (named_methods members pattern) method ≡ false → filter (λ member. covers_at member pattern None) members ≡ filter (λ member. covers_at member pattern (Some method)) members
  unnamed_members [] unnamed = refl
  unnamed_members (member ∷ members) unnamed =
      ap (λ covered. cond covered (member ∷ filter (λ c. covers_at c pattern None) members) (filter (λ c. covers_at c pattern None) members)) (unnamed_collections member.collections (first_false (lists (listed_methods member.collections pattern) method) (lists (named_methods members pattern) method) split))
      ∙ ap (λ rest. cond (covers member pattern method) (member ∷ rest) rest) (unnamed_members members (second_false (lists (listed_methods member.collections pattern) method) (lists (named_methods members pattern) method) split))
    where
      split : (lists (listed_methods member.collections pattern) method || lists (named_methods members pattern) method) ≡ false
      split = sym (list_any-append (λ listed. bytes_eq listed method) (listed_methods member.collections pattern) (named_methods members pattern)) ∙ unnamed
