-- An empty run retires no servlet, and joined runs retire the servlets that either run retires.
use Rattle.std.proofs.Common.{◌≡◌, Bool, true, false, ◌||◌, List, [], ◌∷◌, ◌++◌, refl, sym, ap, ◌∙◌, subst, append_assoc}
use Rattle.std.specs.List.{list_any}
use Rattle.std.proofs.lemmas.List.Concat.{flat_map-append}
use Rattle.std.proofs.lemmas.List.Folds.{list_any-append}
use Rattle.sv_component.specs.Call.{Call, Destroyed}
use Rattle.sv_component.specs.Runs.{Record}
use Rattle.sv_component.specs.declared.standing.Standing.{Standing}
use Rattle.sv_context.specs.Retiring.{EndsSo, Retires, call_of, calls_of, gone_at, is_destroy, is_destroy_of_filter}

pub ends_none : (gone : Bool) → EndsSo gone [] gone
ends_none true = (refl, refl)
ends_none false = refl

pub retires_none : (before after : List Standing) → after ≡ before → Retires before [] after
retires_none before after same = record {
  servlets = λ place. subst (λ standings. EndsSo (gone_at place before) [] (gone_at place standings)) (sym same) (ends_none (gone_at place before));
  filters = refl;
}

none_of_both : {X : Type 0} (test : X → Bool) (one other : List X) → list_any test one ≡ false → list_any test other ≡ false → list_any test (one ++ other) ≡ false
none_of_both test one other first second = list_any-append test one other ∙ (λ i. first i || second i)

ends_join : (before between after : Bool) (front back : List Call) → EndsSo before front between → EndsSo between back after → EndsSo before (front ++ back) after
ends_join true between after front back one two =
    let rest = subst (λ gone. EndsSo gone back after) one.1 two in (
      ap (λ calls. calls ++ back) one.0 ∙ rest.0,
      rest.1,
    )
ends_join false true true front back one two = (
  one.0,
  ap (λ calls. calls ++ back) one.1 ∙ append_assoc one.0 (Destroyed ∷ []) back ∙ ap (λ calls. one.0 ++ Destroyed ∷ calls) two.0,
  one.2,
)
ends_join false true false front back one two = let no : false ≡ true = two.1 in cc
ends_join false false true front back one two = (
  front ++ two.0,
  ap (λ calls. front ++ calls) two.1 ∙ sym (append_assoc front two.0 (Destroyed ∷ [])),
  none_of_both is_destroy front two.0 one two.2,
)
ends_join false false false front back one two = none_of_both is_destroy front back one two

pub retires_join : (before between after : List Standing) (front back : List Record) → Retires before front between → Retires between back after
    → Retires before (front ++ back) after
retires_join before between after front back one two = record {
  servlets = λ place.
      subst (λ calls. EndsSo (gone_at place before) calls (gone_at place after)) (sym (flat_map-append (call_of place) front back))
      (ends_join (gone_at place before) (gone_at place between) (gone_at place after) (calls_of place front) (calls_of place back)
      (one.servlets place) (two.servlets place));
  filters = none_of_both is_destroy_of_filter front back one.filters two.filters;
}
