-- A stop directly after a start, and a start that is undone, mirror the calls made.
use Rattle.std.proofs.Common.{◌≡◌, ℕ, zero, suc, ◌+◌, ◌<◌, Bool, true, false, eqb, inl, inr, List, [], ◌∷◌, ◌++◌, length, map, reverse, refl, sym, ◌∙◌, ap, ap₂, subst, arith}
use Rattle.std.specs.Prelude.{◌==◌, ◌||◌, cond, not}
use Rattle.std.specs.List.{AllByRecursion, IsDistinct, filter, flat_map, list_any, range_with_len}
use Rattle.std.specs.Option.{option_to_list}
use Rattle.std.proofs.lemmas.Bool.{cases_Bool, cond-true, eq-eqb, eqb-true, or_cases, or_left, or_right}
use Rattle.std.proofs.lemmas.Bool.Decides.{nat_tests}
use Rattle.std.proofs.lemmas.Grind.{flat_map-append}
use Rattle.std.proofs.lemmas.List.{append-nil, map-append, reverse-append}
use Rattle.std.proofs.lemmas.List.Concat.{flat_map_single}
use Rattle.std.proofs.lemmas.List.Elements.{recursion_from_All}
use Rattle.std.proofs.lemmas.List.Folds.{flat_map-map}
use Rattle.std.proofs.lemmas.List.Sorted.{All-permutation}
use Rattle.std.proofs.lemmas.Map.Keys.{IsDistinct-IsPermutation}
use Rattle.sv_component.specs.Runs.{OfListener, Record}
use Rattle.sv_component.specs.Standing.{is_gone}
use Rattle.sv_component.specs.declared.answers.Init.{Init}
use Rattle.sv_component.specs.declared.answers.Init.TheVariants.{Ready, Unavailable, Failed, NoMemory}
use Rattle.sv_component.specs.declared.standing.Standing.TheVariants.{Serving, Gone}
use Rattle.sv_descriptor.specs.declared.web_app.WebApp.{WebApp}
use Rattle.sv_journal.specs.Journal.{JournalState}
use Rattle.sv_session.specs.declared.event.Event.TheVariants.{ContextDestroyed, ContextInitialized}
use Rattle.sv_listeners.specs.Telling.{told}
use Rattle.sv_live.specs.Calls.{destroyed, stop_calls}
use Rattle.sv_lifecycle.specs.declared.begin.Answered.{Answered}
use Rattle.sv_lifecycle.specs.Calls.{inited, initialised, places_of, start_calls}
use Rattle.sv_lifecycle.specs.Laws.{answered_by, mirrored}
use Rattle.sv_lifecycle.specs.Order.{init_order}
use Rattle.sv_live.specs.Standing.{LiveState, in_service, is_in_service}
use Rattle.sv_lifecycle.specs.Standing.{is_out}
use Rattle.sv_lifecycle.specs.Starting.{Inits, Stands, Started, Undone, called, calls_of}
use Rattle.sv_journal.specs.declared.calls.Place.{Place}
use Rattle.sv_journal.specs.declared.calls.Place.TheVariants.{Filter, Servlet}
use Rattle.sv_lifecycle.proofs.Attempts.{all_below}
use Rattle.sv_lifecycle.proofs.Places.{not_both}

-- ---- The `init` of each servlet is called once.
range_apart : (at from count : ℕ) → at < from → AllByRecursion (λ other. eqb at other ≡ false) (range_with_len from count)
range_apart at from zero less = tt
range_apart at from (suc count) less = (grind (arith, nat_tests, less), range_apart at (from + 1) count (omega (arith, less)))

range_distinct : (from count : ℕ) → IsDistinct eqb (range_with_len from count)
unfolding IsDistinct
range_distinct from zero = tt
range_distinct from (suc count) = (range_apart from (from + 1) count (omega arith), range_distinct (from + 1) count)

flips : (one other : ℕ) → eqb one other ≡ eqb other one
flips one other = grind (arith, nat_tests)

abbrev servlets_at : Place → List ℕ → List ℕ
servlets_at (Servlet place) others = place ∷ others
servlets_at (Filter place) others = others

abbrev servlets_of : List Place → List ℕ
servlets_of [] = []
servlets_of (place ∷ places) = servlets_at place (servlets_of places)

filters_aside : (filters : List ℕ) (others : List Place) → servlets_of (map Filter filters ++ others) ≡ servlets_of others
filters_aside [] others = refl
filters_aside (filter ∷ filters) others = filters_aside filters others

servlets_alone : (servlets : List ℕ) → servlets_of (map Servlet servlets) ≡ servlets
servlets_alone [] = refl
servlets_alone (servlet ∷ servlets) = ap (λ others. servlet ∷ others) (servlets_alone servlets)

abbrev begun_servlets : List Answered → List ℕ
begun_servlets begun = servlets_of (places_of begun)

-- ---- A servlet whose `init` returned that it is ready gave no other result.
all_behind : (P : ℕ → Type 0) (place : Place) (others : List ℕ) → AllByRecursion P (servlets_at place others) → AllByRecursion P others
all_behind P (Servlet place) others all = all.1
all_behind P (Filter place) others all = all

distinct_behind : (place : Place) (others : List ℕ) → IsDistinct eqb (servlets_at place others) → IsDistinct eqb others
unfolding IsDistinct
distinct_behind (Servlet place) others distinct = distinct.1
distinct_behind (Filter place) others distinct = distinct

-- Whether the servlet is ready according to this result.
abbrev is_ready_at : ℕ → Place → Init → Bool
is_ready_at servlet (Servlet other) Ready = other == servlet
is_ready_at servlet (Servlet other) Unavailable = false
is_ready_at servlet (Servlet other) Failed = false
is_ready_at servlet (Servlet other) NoMemory = false
is_ready_at servlet (Filter other) answer = false

abbrev ready : ℕ → Answered → Bool
ready servlet answered = is_ready_at servlet answered.place answered.answer

abbrev out : ℕ → Answered → Bool
out servlet answered = is_out servlet answered.place answered.answer

ready_tells : (servlet : ℕ) (place : Place) (answer : Init) → is_ready_at servlet place answer ≡ true → place ≡ Servlet servlet
ready_tells servlet (Servlet other) Ready is = ap Servlet (eqb-true other servlet is)
ready_tells servlet (Servlet other) Unavailable is = absurd (cc)
ready_tells servlet (Servlet other) Failed is = absurd (cc)
ready_tells servlet (Servlet other) NoMemory is = absurd (cc)
ready_tells servlet (Filter other) answer is = absurd (cc)

out_tells : (servlet : ℕ) (place : Place) (answer : Init) → is_out servlet place answer ≡ true → place ≡ Servlet servlet
out_tells servlet (Servlet other) Ready is = absurd (cc)
out_tells servlet (Servlet other) Unavailable is = ap Servlet (eqb-true other servlet is)
out_tells servlet (Servlet other) Failed is = absurd (cc)
out_tells servlet (Servlet other) NoMemory is = absurd (cc)
out_tells servlet (Filter other) answer is = absurd (cc)

-- A property of all servlets whose `init` was called holds for each of them.
of_begun : (P : ℕ → Type 0) (servlet : ℕ) (test : Answered → Bool) → ((answered : Answered) → test answered ≡ true → answered.place ≡ Servlet servlet)
    → (begun : List Answered) → AllByRecursion P (begun_servlets begun) → list_any test begun ≡ true → P servlet
of_begun P servlet test tells [] all passes = absurd (cc)
of_begun P servlet test tells (answered ∷ begun) all passes = elim (or_cases (test answered) (list_any test begun) passes) [
  | inl here ↦ (subst (λ place. AllByRecursion P (servlets_at place (begun_servlets begun))) (tells answered here) all).0
  | inr behind ↦ of_begun P servlet test tells begun (all_behind P answered.place (begun_servlets begun) all) behind
]

of_ready : (P : ℕ → Type 0) (servlet : ℕ) (begun : List Answered) → AllByRecursion P (begun_servlets begun) → list_any (ready servlet) begun ≡ true → P servlet
of_ready P servlet = of_begun P servlet (ready servlet) (λ answered. ready_tells servlet answered.place answered.answer)

of_out : (P : ℕ → Type 0) (servlet : ℕ) (begun : List Answered) → AllByRecursion P (begun_servlets begun) → list_any (out servlet) begun ≡ true → P servlet
of_out P servlet = of_begun P servlet (out servlet) (λ answered. out_tells servlet answered.place answered.answer)

abbrev HasOneAnswer : ℕ → List Answered → Type 0
HasOneAnswer servlet begun = IsDistinct eqb (begun_servlets begun) → list_any (ready servlet) begun ≡ true → list_any (out servlet) begun ≡ false

one_answer_more : (servlet : ℕ) (place : Place) (answer : Init) (begun : List Answered) → HasOneAnswer servlet begun
    → HasOneAnswer servlet (record { place = place; answer = answer } ∷ begun)
unfolding IsDistinct
one_answer_more servlet (Filter place) answer begun others distinct is = others distinct is
one_answer_more servlet (Servlet place) Failed begun others distinct is = others distinct.1 is
one_answer_more servlet (Servlet place) NoMemory begun others distinct is = others distinct.1 is
one_answer_more servlet (Servlet place) Unavailable begun others distinct is =
    ap₂ (λ here behind. here || behind) (of_ready (λ other. eqb place other ≡ false) servlet begun distinct.0 is) (others distinct.1 is)
one_answer_more servlet (Servlet place) Ready begun others distinct is = elim (or_cases (eqb place servlet) (list_any (ready servlet) begun) is) [
  | inl same ↦ elim (cases_Bool (list_any (out servlet) begun)) [
    | inl twice ↦ not_both (eqb place servlet) same (of_out (λ other. eqb place other ≡ false) servlet begun distinct.0 twice)
    | inr once ↦ once
  ]
  | inr behind ↦ others distinct.1 behind
]

one_answer : (servlet : ℕ) (begun : List Answered) → HasOneAnswer servlet begun
one_answer servlet [] distinct is = refl
one_answer servlet (answered ∷ begun) distinct is = one_answer_more servlet answered.place answered.answer begun (one_answer servlet begun) distinct is

-- ---- The initialized components are therefore in service directly after the start.
-- A test that passes all filters, and all servlets that are ready.
record Passes (test : Place → Bool) (begun : List Answered) : Type 0 where
  filters : (place : ℕ) → test (Filter place) ≡ true
  servlets : (servlet : ℕ) → list_any (ready servlet) begun ≡ true → test (Servlet servlet) ≡ true

passes_behind : (test : Place → Bool) (answered : Answered) (begun : List Answered) → Passes test (answered ∷ begun) → Passes test begun
passes_behind test answered begun passes = record {
  filters = passes.filters;
  servlets = λ servlet is. passes.servlets servlet (or_right (ready servlet answered) (list_any (ready servlet) begun) is);
}

one_passes : (test : Place → Bool) (place : Place) (places : List Place) → test place ≡ true → filter test places ≡ places → filter test (place ∷ places) ≡ place ∷ places
one_passes test place places is all = cond-true (test place) (place ∷ filter test places) (filter test places) is ∙ ap (λ others. place ∷ others) all

all_pass_more : (test : Place → Bool) (place : Place) (answer : Init) (begun : List Answered) → Passes test (record { place = place; answer = answer } ∷ begun)
    → filter test (initialised begun) ≡ initialised begun
    → filter test (initialised (record { place = place; answer = answer } ∷ begun)) ≡ initialised (record { place = place; answer = answer } ∷ begun)
all_pass_more test (Filter place) Ready begun passes all = one_passes test (Filter place) (initialised begun) (passes.filters place) all
all_pass_more test (Servlet place) Ready begun passes all =
    one_passes test (Servlet place) (initialised begun) (passes.servlets place (or_left (eqb place place) (list_any (ready place) begun) (eq-eqb place place refl))) all
all_pass_more test place Unavailable begun passes all = all
all_pass_more test place Failed begun passes all = all
all_pass_more test place NoMemory begun passes all = all

all_pass : (test : Place → Bool) (begun : List Answered) → Passes test begun → filter test (initialised begun) ≡ initialised begun
all_pass test [] passes = refl
all_pass test (answered ∷ begun) passes =
    all_pass_more test answered.place answered.answer begun passes (all_pass test begun (passes_behind test answered begun passes))

all_in_service : {S F L : Type 0} (context : List ℕ) (app : WebApp) (inits : Inits) (live : LiveState S F L) (journal : JournalState)
    → Stands context app inits live journal → in_service live ≡ initialised inits.begun
all_in_service context app inits live journal stands =
    let begun = inits.begun in
    let order = inits.order in
    let each = stands.goes.order.each_once in
    let front : init_order app order ≡ places_of begun =
    stands.goes.front ∙ ap₂ (λ stopper left. places_of (begun ++ option_to_list stopper) ++ left) stands.none_failed stands.none_left
    ∙ append-nil (places_of (begun ++ [])) ∙ ap places_of (append-nil begun) in
    let servlets : order ≡ begun_servlets begun =
    sym (filters_aside (range_with_len 0 (length app.filters)) (map Servlet order) ∙ servlets_alone order) ∙ ap servlets_of front in
    let distinct : IsDistinct eqb (begun_servlets begun) =
    subst (IsDistinct eqb) servlets (IsDistinct-IsPermutation eqb flips (range_with_len 0 (length app.servlets)) order each (range_distinct 0 (length app.servlets))) in
    let below : AllByRecursion (λ place. place < length app.servlets) (begun_servlets begun) =
    subst (AllByRecursion (λ place. place < length app.servlets)) servlets (recursion_from_All (λ place. place < length app.servlets) order
    (All-permutation (λ place. place < length app.servlets) (range_with_len 0 (length app.servlets)) order each (all_below (length app.servlets)))) in
    ap (filter (is_in_service live.standings)) stands.initialised
    ∙ all_pass (is_in_service live.standings) begun (record {
      filters = λ place. refl;
      servlets = λ servlet is.
          ap (λ standing. not (is_gone standing)) (stands.standings servlet (of_ready (λ place. place < length app.servlets) servlet begun below is)
          ∙ ap (λ any. cond any Gone Serving) (one_answer servlet begun distinct is));
    })

-- ---- The mirror of a start.
map_reverse : {X Y : Type 0} (f : X → Y) (xs : List X) → map f (reverse xs) ≡ reverse (map f xs)
map_reverse f [] = refl
map_reverse f (x ∷ xs) =
    ap (map f) (reverse-append (x ∷ []) xs) ∙ map-append f (reverse xs) (x ∷ []) ∙ ap (λ ys. ys ++ f x ∷ []) (map_reverse f xs) ∙ sym (reverse-append (f x ∷ []) (map f xs))

init_answered : (app : WebApp) (place : Place) (answer : Init) (begun : List Answered) → flat_map answered_by (map (inited app) begun) ≡ map destroyed (initialised begun)
    → flat_map answered_by (map (inited app) (record { place = place; answer = answer } ∷ begun)) ≡ map destroyed (initialised (record { place = place; answer = answer } ∷ begun))
init_answered app (Servlet place) Ready begun others = ap (λ calls. destroyed (Servlet place) ∷ calls) others
init_answered app (Filter place) Ready begun others = ap (λ calls. destroyed (Filter place) ∷ calls) others
init_answered app (Servlet place) Unavailable begun others = others
init_answered app (Filter place) Unavailable begun others = others
init_answered app (Servlet place) Failed begun others = others
init_answered app (Filter place) Failed begun others = others
init_answered app (Servlet place) NoMemory begun others = others
init_answered app (Filter place) NoMemory begun others = others

inits_answered : (app : WebApp) (begun : List Answered) → flat_map answered_by (map (inited app) begun) ≡ map destroyed (initialised begun)
inits_answered app [] = refl
inits_answered app (answered ∷ begun) = init_answered app answered.place answered.answer begun (inits_answered app begun)

abbrev hears_end : ℕ → Record
hears_end place = OfListener place ContextDestroyed

tellings_answered : (count : ℕ) → flat_map answered_by (told ContextInitialized count) ≡ map hears_end (range_with_len 0 count)
unfolding told
tellings_answered count =
    flat_map-map answered_by (λ place. OfListener place ContextInitialized) (range_with_len 0 count) ∙ flat_map_single hears_end (range_with_len 0 count)

ends_heard : (count : ℕ) → told ContextDestroyed count ≡ reverse (map hears_end (range_with_len 0 count))
unfolding told
ends_heard count = map_reverse hears_end (range_with_len 0 count)

start_mirrored : (app : WebApp) (begun : List Answered) → stop_calls (length app.listeners) (initialised begun) [] ≡ mirrored (start_calls app begun)
start_mirrored app begun =
    ap₂ (λ ends tellings. ends ++ tellings) (map_reverse destroyed (initialised begun)) (ends_heard (length app.listeners))
    ∙ sym (reverse-append (map hears_end (range_with_len 0 (length app.listeners))) (map destroyed (initialised begun)))
    ∙ ap reverse (sym (flat_map-append answered_by (told ContextInitialized (length app.listeners)) (map (inited app) begun)
    ∙ ap₂ (λ tellings ends. tellings ++ ends) (tellings_answered (length app.listeners)) (inits_answered app begun)))

pub stops_mirror_starts : {S F L : Type 0} (context : List ℕ) (app : WebApp) (inits : Inits) (live : LiveState S F L) (journal : JournalState)
    → Stands context app inits live journal
    → stop_calls (length live.parts.listeners.items) (in_service live) [] ≡ mirrored (calls_of app (Started inits))
stops_mirror_starts context app inits live journal stands =
    ap₂ (λ count places. stop_calls count places []) stands.listeners (all_in_service context app inits live journal stands)
    ∙ start_mirrored app inits.begun

pub undone_starts_mirror : (app : WebApp) (inits : Inits) → calls_of app (Undone inits) ≡ start_calls app (called inits) ++ mirrored (start_calls app (called inits))
undone_starts_mirror app inits = ap (λ calls. start_calls app (called inits) ++ calls) (start_mirrored app (called inits))
