-- Places of components, and a list whose components are initialized or destroyed one by one.
use Rattle.std.proofs.Common.{◌≡◌, ℕ, ◌+◌, ◌<◌, ◌≤◌, Bool, true, false, List, length, get_or, replicate, set, drop, refl, sym, ◌∙◌, ap, arith}
use Rattle.std.specs.Prelude.{cond}
use Rattle.std.proofs.lemmas.List.{drop-drop, drop-set-lt, get_or-drop, get_or-replicate, length-replicate, length-set}
use Rattle.std.proofs.lemmas.Option.{unwrap_or-slice_get}
use Rattle.sv_component.specs.declared.answers.Init.{Init}
use Rattle.sv_component.specs.declared.answers.Init.TheVariants.{Ready, Unavailable, Failed, NoMemory}
use Rattle.sv_lifecycle.specs.Begins.{HasStanding, with_answer}
use Rattle.sv_live.specs.Standing.{standing_at}
use Rattle.sv_live.specs.World.{IsPlaceIn}
use Rattle.sv_journal.specs.declared.calls.Place.{Place}
use Rattle.sv_journal.specs.declared.calls.Place.TheVariants.{Filter, Servlet}
use Rattle.sv_live.specs.declared.live.Parts.{Parts}
use Rattle.sv_component.specs.declared.standing.Standing.{Standing}
use Rattle.sv_component.specs.declared.standing.Standing.TheVariants.{Serving, Gone}

pub not_both : {P : Type 0} (b : Bool) → b ≡ true → b ≡ false → P
not_both b is_true is_false = absurd (cc)

-- All of these servlets are in service.
pub all_serve : (count : ℕ) (standings : List Standing) → standings ≡ replicate count Serving → (place : ℕ) → place < length standings → standing_at standings place ≡ Serving
all_serve count standings are place within =
    unwrap_or-slice_get standings place Gone ∙ ap (λ xs. get_or xs place Gone) are
    ∙ get_or-replicate count place Serving Gone (omega (arith, within, ap length are, length-replicate count Serving))

-- Lists with the same rest have the same next element.
pub same_in_rest : {X : Type 0} (xs ys : List X) (step : ℕ) (x : X) → drop step xs ≡ drop step ys → get_or xs step x ≡ get_or ys step x
same_in_rest xs ys step x same =
    let at_step : step + 0 ≡ step = omega arith in
    sym (get_or-drop step xs 0 x ∙ ap (λ n. get_or xs n x) at_step) ∙ ap (λ rest. get_or rest 0 x) same ∙ get_or-drop step ys 0 x ∙ ap (λ n. get_or ys n x) at_step

-- Initialized components at the front of the order leave its rest unchanged.
pub few_kept : (yes : Bool) (count step : ℕ) → count ≤ step → cond yes (count + 1) count ≤ step + 1
few_kept true count step few = omega (arith, few)
few_kept false count step few = omega (arith, few)

pub length_kept : {X : Type 0} (yes : Bool) (xs : List X) (count : ℕ) (x : X) → length (cond yes (set xs count x) xs) ≡ length xs
length_kept true xs count x = length-set xs count x
length_kept false xs count x = refl

pub rest_kept : {X : Type 0} (yes : Bool) (xs ys : List X) (count step : ℕ) (x : X) → count ≤ step → drop step xs ≡ drop step ys
    → drop (step + 1) (cond yes (set xs count x) xs) ≡ drop (step + 1) ys
rest_kept true xs ys count step x few same =
    drop-set-lt (step + 1) xs count x (omega (arith, few)) ∙ sym (drop-drop 1 step xs) ∙ ap (drop 1) same ∙ drop-drop 1 step ys
rest_kept false xs ys count step x few same = sym (drop-drop 1 step xs) ∙ ap (drop 1) same ∙ drop-drop 1 step ys

pub length_answered : (standings : List Standing) (place : Place) (answer : Init) → length (with_answer standings place answer) ≡ length standings
length_answered standings (Servlet place) Unavailable = length-set standings place Gone
length_answered standings (Servlet place) Ready = refl
length_answered standings (Servlet place) Failed = refl
length_answered standings (Servlet place) NoMemory = refl
length_answered standings (Filter place) answer = refl

pub standing_there : {S F L : Type 0} (parts : Parts S F L) (count : ℕ) → count ≡ length parts.servlets.items → (place : Place) → IsPlaceIn parts place → HasStanding count place
standing_there parts count same (Filter place) there = tt
standing_there parts count same (Servlet place) there = omega (arith, same, there)
