-- Actions of a machine, composed of parts.
use Rattle.std.proofs.Common.{◌≡◌, inl, inr, Bool, true, false, List, [], ◌++◌, Option, None, Some, Result, Ok, Err, refl, sym, ap, ◌∙◌, subst, append_assoc, append-nil}
use Rattle.sv_component.specs.Runs.{Record}
use Rattle.sv_dispatch.specs.Did.{Did, Frame, lasting, seen, staying}
use Rattle.sv_tree.specs.Does.{Does, ◌>>=◌, choose, gives, refuses, sees, wants_memory}
use Rattle.sv_tree.specs.State.{State}
use Rattle.sv_tree.specs.Tree.{last}
use Rattle.sv_tree.specs.declared.finished.Finished.{Finished}

module _ {M : Type 0} (state : M → State) (frame : M → Frame) (ran : M → List Record → M → Type 0) where
  abbrev pub Makes : {A : Type 0} → Does A → M → M → Option A → Type 0
  Makes does before after result = Did state frame ran does before after result

  -- Calls that do one action also do any action that it implies.
  pub did_so : {A : Type 0} (one other : Does A) (a b : M) (result : Option A)
      → ((made : List Record) → one (state a) made (state b) result → other (state a) made (state b) result)
      → Makes one a b result → Makes other a b result
  did_so one other a b result h did = record { made = did.made; does_so = h did.made did.does_so; runs = did.runs; stays = did.stays }

  pub did_none : {A : Type 0} (does : Does A) (a : M) (result : Option A) → does (state a) [] (state a) result → Makes does a a result
  did_none does a result h = record {
    made = [];
    does_so = h;
    runs = λ from done so_far. subst (λ calls. ran from calls a) (sym (append-nil done)) so_far;
    stays = refl;
  }

  pub did_then : {A B : Type 0} (first : Does A) (next : A → Does B) (a b c : M) (value : A) (result : Option B)
      → Makes first a b (Some value) → Makes (next value) b c result → Makes (first >>= next) a c result
  did_then first next a b c value result one two = record {
    made = one.made ++ two.made;
    does_so = inl record { given = value; between = state b; front = one.made; back = two.made; begins = one.does_so; goes_on = two.does_so; is_joined = refl };
    runs = λ from done so_far. subst (λ calls. ran from calls c) (append_assoc done one.made two.made) (two.runs from (done ++ one.made) (one.runs from done so_far));
    stays = two.stays ∙ ap (staying result) one.stays;
  }

  pub did_not : {A B : Type 0} (first : Does A) (next : A → Does B) (a b : M) → Makes first a b None → Makes (first >>= next) a b None
  did_not first next a b one = record { made = one.made; does_so = inr (one.does_so, refl); runs = one.runs; stays = one.stays }

  pub did_give : {A : Type 0} (value : A) (a : M) → Makes (gives value) a a (Some value)
  did_give value a = did_none (gives value) a (Some value) (refl, refl, refl)

  pub did_refuse : {A : Type 0} (a : M) → Makes (refuses {A = A}) a a None
  did_refuse {A} a = did_none (refuses {A = A}) a None (refl, refl, refl)

  -- An allocation that succeeds.
  pub did_want : {B : Type 0} (next : Does B) (a b : M) (result : Option B) → Makes next a b result → Makes (wants_memory >>= λ _. next) a b result
  did_want next a b result did = did_then wants_memory (λ _. next) a a b tt result (did_none wants_memory a (Some tt) (refl, refl)) did

  -- An allocation that fails.
  pub did_lack : {B : Type 0} (next : Does B) (a : M) → Makes (wants_memory >>= λ _. next) a a None
  did_lack next a = did_not wants_memory (λ _. next) a a (did_none wants_memory a None (refl, refl))

  pub did_see : {A : Type 0} (next : State → Does A) (a b : M) (result : Option A) → Makes (next (state a)) a b result → Makes (sees next) a b result
  did_see next a b result did = did_so (next (state a)) (sees next) a b result (λ made h. h) did

  pub did_first : {A : Type 0} (test : Bool) (first other : Does A) (a b : M) (result : Option A) → test ≡ true → Makes first a b result
      → Makes (choose test first other) a b result
  did_first test first other a b result e did =
      did_so first (choose test first other) a b result (λ made h. subst (λ test. choose test first other (state a) made (state b) result) (sym e) h) did

  pub did_other : {A : Type 0} (test : Bool) (first other : Does A) (a b : M) (result : Option A) → test ≡ false → Makes other a b result
      → Makes (choose test first other) a b result
  did_other test first other a b result e did =
      did_so other (choose test first other) a b result (λ made h. subst (λ test. choose test first other (state a) made (state b) result) (sym e) h) did

  -- The same action for an equal value.
  pub did_by : {A X : Type 0} (family : X → Does A) (x y : X) (a b : M) (result : Option A) → x ≡ y → Makes (family x) a b result → Makes (family y) a b result
  did_by family x y a b result e did = did_so (family x) (family y) a b result (λ made h. subst (λ x. family x (state a) made (state b) result) e h) did

  pub did_last : {E : Type 0} (ending : Does Finished) (a b : M) (result : Result Finished E) → Makes ending a b (seen result) → Makes (last ending) a b (seen (lasting result))
  did_last ending a b (Ok value) did = did_then ending (λ result. gives (Some result)) a b b value (Some (Some value)) did (did_give (Some value) b)
  did_last ending a b (Err refusal) did = did_not ending (λ result. gives (Some result)) a b did
