-- The components after a start: each place was initialized at most once, a servlet is gone exactly if it was not
-- initialized, and every filter was initialized.
use Rattle.std.proofs.Common.{◌≡◌, ℕ, zero, suc, ◌+◌, ◌<◌, ◌≤◌, Bool, true, false, eqb, List, [], ◌∷◌, ◌++◌, length, map, refl, sym, ◌∙◌, ap, ap₂, subst, append-nil, arith}
use Rattle.std.specs.Prelude.{◌||◌, not, if◌then◌else◌}
use Rattle.std.specs.List.{AllByRecursion, IsDistinct, filter, list_any, range_with_len}
use Rattle.std.specs.Option.{option_to_list}
use Rattle.std.proofs.lemmas.Bool.{eqb-true}
use Rattle.std.proofs.lemmas.Bool.Decides.{nat_tests}
use Rattle.std.proofs.lemmas.List.Elements.{recursion_from_All}
use Rattle.std.proofs.lemmas.List.Folds.{list_any-append}
use Rattle.std.proofs.lemmas.List.Sorted.{list_any-IsPermutation}
use Rattle.std.proofs.lemmas.Map.Keys.{IsDistinct-IsPermutation}
use Rattle.sv_component.specs.Standing.{is_gone}
use Rattle.sv_component.specs.declared.answers.Init.{Init}
use Rattle.sv_component.specs.declared.answers.Init.TheVariants.{Ready, Unavailable, Failed, NoMemory}
use Rattle.sv_component.specs.declared.standing.Standing.{Standing}
use Rattle.sv_component.specs.declared.standing.Standing.TheVariants.{Serving, Gone}
use Rattle.sv_context.specs.Retiring.{gone_at}
use Rattle.sv_descriptor.specs.declared.web_app.WebApp.{WebApp}
use Rattle.sv_journal.specs.Journal.{JournalState}
use Rattle.sv_lifecycle.specs.declared.begin.Answered.{Answered}
use Rattle.sv_lifecycle.specs.Calls.{initialised, is_ready, lets_go_on, places_of}
use Rattle.sv_lifecycle.specs.Order.{init_order}
use Rattle.sv_live.specs.Standing.{LiveState}
use Rattle.sv_lifecycle.specs.Standing.{is_out}
use Rattle.sv_lifecycle.specs.Starting.{Inits, Stands}
use Rattle.sv_journal.specs.declared.calls.Place.{Place}
use Rattle.sv_journal.specs.declared.calls.Place.TheVariants.{Filter, Servlet}
use Rattle.sv_headline.specs.Ends.{is_at}
use Rattle.sv_headline.proofs.Ending.{IsOnce, flips, left_false, none_more, once_more, right_false}

-- ---- the order of initialization contains each existing place once
range_apart : (at from count : ℕ) → at < from → AllByRecursion (λ other. eqb at other ≡ false) (range_with_len from count)
range_apart at from zero less = tt
range_apart at from (suc count) less = (grind (arith, nat_tests, less), range_apart at (from + 1) count (omega (arith, less)))

range_distinct : (from count : ℕ) → IsDistinct eqb (range_with_len from count)
unfolding IsDistinct
range_distinct from zero = tt
range_distinct from (suc count) = (range_apart from (from + 1) count (omega arith), range_distinct (from + 1) count)

here_or_behind : (here behind : Bool) → (here ≡ false → behind ≡ true) → (here || behind) ≡ true
here_or_behind true behind later = refl
here_or_behind false behind later = later refl

in_range : (place from count : ℕ) → from ≤ place → place < from + count → list_any (λ other. eqb other place) (range_with_len from count) ≡ true
in_range place from zero above below = absurd (omega (arith, above, below))
in_range place from (suc count) above below =
    here_or_behind (eqb from place) (list_any (λ other. eqb other place) (range_with_len (from + 1) count))
    (λ differ. in_range place (from + 1) count (grind (arith, nat_tests, differ, above)) (omega (arith, below)))

-- ---- places of one kind, by their numbers
module _ (test : Place → Bool) (place : ℕ) (its : ℕ → Place) (is : (other : ℕ) → test (its other) ≡ eqb other place) where
  any_of : (places : List ℕ) → list_any test (map its places) ≡ list_any (λ other. eqb other place) places
  any_of [] = refl
  any_of (other ∷ places) = ap₂ (λ here behind. here || behind) (is other) (any_of places)

  apart_from : (places : List ℕ) → AllByRecursion (λ other. eqb place other ≡ false) places → list_any test (map its places) ≡ false
  apart_from [] apart = refl
  apart_from (other ∷ places) apart = ap₂ (λ here behind. here || behind) (is other ∙ flips other place ∙ apart.0) (apart_from places apart.1)

  once_of : (places : List ℕ) → IsDistinct eqb places → IsOnce test (map its places)
  unfolding IsDistinct
  once_of [] distinct = tt
  once_of (other ∷ places) distinct = (
    λ passes. apart_from places
        (subst (λ at. AllByRecursion (λ another. eqb at another ≡ false) places) (eqb-true other place (sym (is other) ∙ passes)) distinct.0),
    once_of places distinct.1,
  )

-- places of the other kind
module _ (test : Place → Bool) (its : ℕ → Place) (is : (other : ℕ) → test (its other) ≡ false) where
  none_of : (places : List ℕ) → list_any test (map its places) ≡ false
  none_of [] = refl
  none_of (other ∷ places) = ap₂ (λ here behind. here || behind) (is other) (none_of places)

  once_behind : (places : List ℕ) (others : List Place) → IsOnce test others → IsOnce test (map its places ++ others)
  once_behind [] others once = once
  once_behind (other ∷ places) others once = ((λ passes. let no : false ≡ true = sym (is other) ∙ passes in cc), once_behind places others once)

  once_before : (others : List Place) (places : List ℕ) → IsOnce test others → IsOnce test (others ++ map its places)
  once_before [] [] once = tt
  once_before [] (place ∷ places) once = ((λ passes. none_of places), once_before [] places tt)
  once_before (other ∷ others) places once = (
    λ passes. list_any-append test others (map its places) ∙ ap₂ (λ here behind. here || behind) (once.0 passes) (none_of places),
    once_before others places once.1,
  )

-- ---- the initialized places among those that were begun
begun_more : (ready : Bool) (answered : Answered) (begun : List Answered)
    → places_of (if ready then answered ∷ begun else begun) ≡ (if ready then answered.place ∷ places_of begun else places_of begun)
begun_more true answered begun = refl
begun_more false answered begun = refl

initialised_more : (answered : Answered) (begun : List Answered)
    → initialised (answered ∷ begun) ≡ (if is_ready answered.answer then answered.place ∷ initialised begun else initialised begun)
initialised_more answered begun = begun_more (is_ready answered.answer) answered (filter (λ other. is_ready other.answer) begun)

any_more : (test : Place → Bool) (ready : Bool) (place : Place) (places : List Place)
    → list_any test (if ready then place ∷ places else places) ≡ (if ready then test place || list_any test places else list_any test places)
any_more test true place places = refl
any_more test false place places = refl

any_initialised : (test : Place → Bool) (answered : Answered) (begun : List Answered)
    → list_any test (initialised (answered ∷ begun))
    ≡ (if is_ready answered.answer then test answered.place || list_any test (initialised begun) else list_any test (initialised begun))
any_initialised test answered begun =
    ap (list_any test) (initialised_more answered begun) ∙ any_more test (is_ready answered.answer) answered.place (initialised begun)

none_initialised : (test : Place → Bool) (begun : List Answered) → list_any test (places_of begun) ≡ false → list_any test (initialised begun) ≡ false
none_initialised test [] none = refl
none_initialised test (answered ∷ begun) none =
    ap (list_any test) (initialised_more answered begun)
    ∙ none_more test answered.place (initialised begun) (is_ready answered.answer) (left_false (test answered.place) (list_any test (places_of begun)) none)
    (none_initialised test begun (right_false (test answered.place) (list_any test (places_of begun)) none))

once_initialised : (test : Place → Bool) (begun : List Answered) → IsOnce test (places_of begun) → IsOnce test (initialised begun)
once_initialised test [] once = tt
once_initialised test (answered ∷ begun) once =
    subst (IsOnce test) (sym (initialised_more answered begun))
    (once_more test answered.place (initialised begun) (is_ready answered.answer) (λ passes. none_initialised test begun (once.0 passes))
    (once_initialised test begun once.1))

abbrev GoesOn : Answered → Type 0
GoesOn answered = lets_go_on answered.place answered.answer ≡ true

-- a filter that was begun was initialized
ready_more : (filter : ℕ) (place : Place) (answer : Init) (ready begun : Bool) → lets_go_on place answer ≡ true → ready ≡ begun
    → (if is_ready answer then is_at (Filter filter) place || ready else ready) ≡ (is_at (Filter filter) place || begun)
ready_more filter place Ready ready begun goes same = ap (λ behind. is_at (Filter filter) place || behind) same
ready_more filter (Servlet place) Unavailable ready begun goes same = same
ready_more filter (Filter place) Unavailable ready begun goes same = let no : false ≡ true = goes in cc
ready_more filter place Failed ready begun goes same = let no : false ≡ true = goes in cc
ready_more filter place NoMemory ready begun goes same = let no : false ≡ true = goes in cc

filters_ready : (filter : ℕ) (begun : List Answered) → AllByRecursion GoesOn begun
    → list_any (is_at (Filter filter)) (initialised begun) ≡ list_any (is_at (Filter filter)) (places_of begun)
filters_ready filter [] goes = refl
filters_ready filter (answered ∷ begun) goes =
    any_initialised (is_at (Filter filter)) answered begun
    ∙ ready_more filter answered.place answered.answer (list_any (is_at (Filter filter)) (initialised begun)) (list_any (is_at (Filter filter)) (places_of begun))
    goes.0 (filters_ready filter begun goes.1)

-- a servlet that was begun was either initialized or is out of service; one that was not begun is neither
abbrev IsEither : Bool → Bool → Bool → Type 0
IsEither begun ready out = (begun ≡ false → (ready ≡ false) × (out ≡ false)) × (begun ≡ true → out ≡ not ready)

ready_here : (here begun ready out : Bool) → (here ≡ true → begun ≡ false) → IsEither begun ready out → IsEither (here || begun) (here || ready) out
ready_here true begun ready out once either = ((λ begun. let no : true ≡ false = begun in cc), λ begun. (either.0 (once refl)).1)
ready_here false begun ready out once either = either

out_here : (here begun ready out : Bool) → (here ≡ true → begun ≡ false) → IsEither begun ready out → IsEither (here || begun) ready (here || out)
out_here true begun ready out once either = ((λ begun. let no : true ≡ false = begun in cc), λ begun. ap not (sym (either.0 (once refl)).0))
out_here false begun ready out once either = either

either_more : (servlet : ℕ) (place : Place) (answer : Init) (begun ready out : Bool) → lets_go_on place answer ≡ true
    → (is_at (Servlet servlet) place ≡ true → begun ≡ false) → IsEither begun ready out
    → IsEither (is_at (Servlet servlet) place || begun) (if is_ready answer then is_at (Servlet servlet) place || ready else ready)
    (is_out servlet place answer || out)
either_more servlet (Filter place) Ready begun ready out goes once either = either
either_more servlet (Filter place) Unavailable begun ready out goes once either = let no : false ≡ true = goes in cc
either_more servlet (Filter place) Failed begun ready out goes once either = let no : false ≡ true = goes in cc
either_more servlet (Filter place) NoMemory begun ready out goes once either = let no : false ≡ true = goes in cc
either_more servlet (Servlet place) Ready begun ready out goes once either = ready_here (eqb place servlet) begun ready out once either
either_more servlet (Servlet place) Unavailable begun ready out goes once either = out_here (eqb place servlet) begun ready out once either
either_more servlet (Servlet place) Failed begun ready out goes once either = let no : false ≡ true = goes in cc
either_more servlet (Servlet place) NoMemory begun ready out goes once either = let no : false ≡ true = goes in cc

either_of : (servlet : ℕ) (begun : List Answered) → AllByRecursion GoesOn begun → IsOnce (is_at (Servlet servlet)) (places_of begun)
    → IsEither (list_any (is_at (Servlet servlet)) (places_of begun)) (list_any (is_at (Servlet servlet)) (initialised begun))
    (list_any (λ answered. is_out servlet answered.place answered.answer) begun)
either_of servlet [] goes once = ((λ none. (refl, refl)), λ begun. let no : false ≡ true = begun in cc)
either_of servlet (answered ∷ begun) goes once =
    subst (λ ready. IsEither (is_at (Servlet servlet) answered.place || list_any (is_at (Servlet servlet)) (places_of begun)) ready
    (is_out servlet answered.place answered.answer || list_any (λ other. is_out servlet other.place other.answer) begun))
    (sym (any_initialised (is_at (Servlet servlet)) answered begun))
    (either_more servlet answered.place answered.answer (list_any (is_at (Servlet servlet)) (places_of begun))
    (list_any (is_at (Servlet servlet)) (initialised begun)) (list_any (λ other. is_out servlet other.place other.answer) begun)
    goes.0 once.0 (either_of servlet begun goes.1 once.1))

-- ---- just after a start
-- these many servlets and filters, the places that were initialized, and the standings of the servlets
pub record AreStarted (initialised : List Place) (standings : List Standing) (servlet_count filter_count : ℕ) : Type 0 where
  pub once : (place : Place) → IsOnce (is_at place) initialised
  pub servlets : (place : ℕ) → place < servlet_count → gone_at place standings ≡ not (list_any (is_at (Servlet place)) initialised)
  pub filters : (place : ℕ) → place < filter_count → list_any (is_at (Filter place)) initialised ≡ true

-- a servlet is gone exactly if it was not initialized
gone_if : (out ready : Bool) → out ≡ not ready → is_gone (if out then Gone else Serving) ≡ not ready
gone_if true ready is = is
gone_if false ready is = is

module _ {S F L : Type 0} (its_context : List ℕ) (app : WebApp) (inits : Inits) (live : LiveState S F L) (journal : JournalState)
    (stands : Stands its_context app inits live journal) where
  abbrev begun : List Answered
  begun = inits.begun

  abbrev count : ℕ
  count = length app.servlets

  abbrev all_filters : List ℕ
  all_filters = range_with_len 0 (length app.filters)

  in_order : init_order app inits.order ≡ places_of begun
  in_order =
      stands.goes.front ∙ ap₂ (λ stopper left. places_of (begun ++ option_to_list stopper) ++ left) stands.none_failed stands.none_left
      ∙ append-nil (places_of (begun ++ [])) ∙ ap places_of (append-nil begun)

  distinct : IsDistinct eqb inits.order
  distinct = IsDistinct-IsPermutation eqb flips (range_with_len 0 count) inits.order stands.goes.order.each_once (range_distinct 0 count)

  once_in_order : (place : Place) → IsOnce (is_at place) (init_order app inits.order)
  once_in_order (Servlet place) =
      once_behind (is_at (Servlet place)) Filter (λ other. refl) all_filters (map Servlet inits.order)
      (once_of (is_at (Servlet place)) place Servlet (λ other. refl) inits.order distinct)
  once_in_order (Filter place) =
      once_before (is_at (Filter place)) Servlet (λ other. refl) (map Filter all_filters) inits.order
      (once_of (is_at (Filter place)) place Filter (λ other. refl) all_filters (range_distinct 0 (length app.filters)))

  once_begun : (place : Place) → IsOnce (is_at place) (places_of begun)
  once_begun place = subst (IsOnce (is_at place)) in_order (once_in_order place)

  goes_on : AllByRecursion GoesOn begun
  goes_on = recursion_from_All GoesOn begun stands.goes.begun

  servlet_begun : (place : ℕ) → place < count → list_any (is_at (Servlet place)) (places_of begun) ≡ true
  servlet_begun place there =
      ap (list_any (is_at (Servlet place))) (sym in_order) ∙ list_any-append (is_at (Servlet place)) (map Filter all_filters) (map Servlet inits.order)
      ∙ ap₂ (λ front back. front || back) (none_of (is_at (Servlet place)) Filter (λ other. refl) all_filters)
      (any_of (is_at (Servlet place)) place Servlet (λ other. refl) inits.order
      ∙ sym (list_any-IsPermutation (λ other. eqb other place) (range_with_len 0 count) inits.order stands.goes.order.each_once)
      ∙ in_range place 0 count (omega arith) (omega (arith, there)))

  filter_begun : (place : ℕ) → place < length app.filters → list_any (is_at (Filter place)) (places_of begun) ≡ true
  filter_begun place there =
      ap (list_any (is_at (Filter place))) (sym in_order) ∙ list_any-append (is_at (Filter place)) (map Filter all_filters) (map Servlet inits.order)
      ∙ ap₂ (λ front back. front || back)
      (any_of (is_at (Filter place)) place Filter (λ other. refl) all_filters ∙ in_range place 0 (length app.filters) (omega arith) (omega (arith, there)))
      (none_of (is_at (Filter place)) Servlet (λ other. refl) inits.order)

  servlet_stands : (place : ℕ) → place < count → gone_at place live.standings ≡ not (list_any (is_at (Servlet place)) live.initialised)
  servlet_stands place there =
      ap is_gone (stands.standings place there)
      ∙ gone_if (list_any (λ answered. is_out place answered.place answered.answer) begun) (list_any (is_at (Servlet place)) (initialised begun))
      ((either_of place begun goes_on (once_begun (Servlet place))).1 (servlet_begun place there))
      ∙ ap (λ places. not (list_any (is_at (Servlet place)) places)) (sym stands.initialised)

  pub are_started : AreStarted live.initialised live.standings (length live.parts.servlets.items) (length live.parts.filters.items)
  are_started = record {
    once = λ place. subst (IsOnce (is_at place)) (sym stands.initialised) (once_initialised (is_at place) begun (once_begun place));
    servlets = λ place there. servlet_stands place (subst (λ many. place < many) stands.servlets there);
    filters = λ place there.
        ap (list_any (is_at (Filter place))) stands.initialised ∙ filters_ready place begun goes_on
        ∙ filter_begun place (subst (λ many. place < many) stands.filters there);
  }
