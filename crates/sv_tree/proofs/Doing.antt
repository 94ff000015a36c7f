-- Programs, step by step.
use Rattle.std.proofs.Common.{◌≡◌, ◌⊎◌, inl, inr, Bool, true, false, List, [], ◌++◌, Option, None, Some, refl, sym, ap, ◌∙◌, subst}
use Rattle.sv_component.specs.Runs.{Record}
use Rattle.sv_tree.specs.Does.{Does, ◌>>=◌, choose, becomes, tries, wants_memory}
use Rattle.sv_tree.specs.State.{State}

pub absurd_result : {A P : Type 0} (value : A) → None ≡ Some value → P
absurd_result value e = cc

pub same_result : {A : Type 0} (a b : A) → Some a ≡ Some b → a ≡ b
same_result a b e = cc

pub not_true : {P : Type 0} → false ≡ true → P
not_true e = cc

pub becomes_then : {B : Type 0} (change : State → State) (next : Unit {0} → Does B) (before after : State) (calls : List Record) (result : Option B)
    → (becomes change >>= next) before calls after result → next tt (change before) calls after result
becomes_then change next before after calls result (inl t) =
    subst (λ s. next tt s calls after result) t.begins.1
    (subst (λ r. next tt t.between r after result) (sym (t.is_joined ∙ ap (λ front. front ++ t.back) t.begins.0)) t.goes_on)
becomes_then change next before after calls result (inr t) = absurd_result tt t.0.2

pub wants_then : {B : Type 0} (next : Unit {0} → Does B) (before after : State) (calls : List Record) (result : Option B)
    → (wants_memory >>= next) before calls after result
    → next tt before calls after result ⊎ ((calls ≡ []) × (after ≡ before) × (result ≡ None))
wants_then next before after calls result (inl t) =
    inl (subst (λ s. next tt s calls after result) t.begins.1
    (subst (λ r. next tt t.between r after result) (sym (t.is_joined ∙ ap (λ front. front ++ t.back) t.begins.0)) t.goes_on))
wants_then next before after calls result (inr t) = inr (t.0.0, t.0.1, t.1)

pub tries_then : {B : Type 0} (change : State → State) (next : Unit {0} → Does B) (before after : State) (calls : List Record) (result : Option B)
    → (tries change >>= next) before calls after result
    → next tt (change before) calls after result ⊎ ((calls ≡ []) × (after ≡ before) × (result ≡ None))
tries_then change next before after calls result (inl t) =
    inl (elim t.begins.1 [
      | inl done ↦ subst (λ s. next tt s calls after result) done.0
          (subst (λ r. next tt t.between r after result) (sym (t.is_joined ∙ ap (λ front. front ++ t.back) t.begins.0)) t.goes_on)
      | inr not ↦ absurd_result tt (sym not.1)
    ])
tries_then change next before after calls result (inr t) =
    elim t.0.1 [ inl done ↦ absurd_result tt done.1 | inr not ↦ inr (t.0.0, not.0, t.1) ]

pub chosen_then : {A P : Type 0} (test : Bool) (first other : Does A) (before after : State) (calls : List Record) (result : Option A)
    → (test ≡ true → first before calls after result → P) → (test ≡ false → other before calls after result → P)
    → choose test first other before calls after result → P
chosen_then true first other before after calls result one two h = one refl h
chosen_then false first other before after calls result one two h = two refl h
