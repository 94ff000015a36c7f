-- Components are destroyed once, by the calls of events and then by those of a stop.
use Rattle.std.proofs.Common.{◌≡◌, ℕ, Bool, true, false, eqb, List, [], ◌∷◌, ◌++◌, map, reverse, refl, sym, ◌∙◌, ap, ap₂, subst, append-nil, arith}
use Rattle.std.specs.Prelude.{◌||◌, ◌&&◌, not, if◌then◌else◌}
use Rattle.std.specs.List.{filter, flat_map, list_any}
use Rattle.std.proofs.Math.Bool.{and-false}
use Rattle.std.proofs.lemmas.Bool.{eqb-true}
use Rattle.std.proofs.lemmas.Bool.Decides.{nat_tests}
use Rattle.std.proofs.lemmas.List.{reverse-append}
use Rattle.sv_component.specs.Call.{Call, Destroyed}
use Rattle.sv_component.specs.Runs.{OfFilter, OfListener, OfServlet, Record}
use Rattle.sv_component.specs.declared.standing.Standing.{Standing}
use Rattle.sv_context.specs.Retiring.{EndsSo, Retires, calls_of, gone_at, is_destroy, is_destroy_of_filter}
use Rattle.sv_session.specs.declared.event.Event.{Event}
use Rattle.sv_session.specs.declared.event.Event.TheVariants.{ContextDestroyed}
use Rattle.sv_live.specs.Calls.{destroyed, stop_calls}
use Rattle.sv_live.specs.SessionEnds.{all_told, by_number, end_events, ends_told}
use Rattle.sv_live.specs.Standing.{is_in_service}
use Rattle.sv_journal.specs.declared.calls.Place.{Place}
use Rattle.sv_journal.specs.declared.calls.Place.TheVariants.{Filter, Servlet}
use Rattle.sv_listeners.specs.Telling.{hearing_order, told}
use Rattle.sv_headline.specs.Ends.{EndsOnce, component_calls, is_at}
use Rattle.sv_session.specs.Calls.{ended}
use Rattle.sv_session.specs.Store.{Session}

-- ---- the calls of a component, part by part
more_calls : (test : Bool) (call : Call) (front back : List Call)
    → (if test then call ∷ (front ++ back) else front ++ back) ≡ (if test then call ∷ front else front) ++ back
more_calls true call front back = refl
more_calls false call front back = refl

calls_append : (place : Place) (front back : List Record) → component_calls place (front ++ back) ≡ component_calls place front ++ component_calls place back
calls_append (Servlet place) [] back = refl
calls_append (Servlet place) (OfServlet other call ∷ front) back =
    ap (λ calls. if eqb other place then call ∷ calls else calls) (calls_append (Servlet place) front back)
    ∙ more_calls (eqb other place) call (component_calls (Servlet place) front) (component_calls (Servlet place) back)
calls_append (Servlet place) (OfFilter other call ∷ front) back = calls_append (Servlet place) front back
calls_append (Servlet place) (OfListener other event ∷ front) back = calls_append (Servlet place) front back
calls_append (Filter place) [] back = refl
calls_append (Filter place) (OfServlet other call ∷ front) back = calls_append (Filter place) front back
calls_append (Filter place) (OfFilter other call ∷ front) back =
    ap (λ calls. if eqb other place then call ∷ calls else calls) (calls_append (Filter place) front back)
    ∙ more_calls (eqb other place) call (component_calls (Filter place) front) (component_calls (Filter place) back)
calls_append (Filter place) (OfListener other event ∷ front) back = calls_append (Filter place) front back

-- notifications call no servlet and no filter
none_told : (place : Place) (event : Event) (places : List ℕ) → component_calls place (map (λ other. OfListener other event) places) ≡ []
none_told (Servlet place) event [] = refl
none_told (Filter place) event [] = refl
none_told (Servlet place) event (other ∷ places) = none_told (Servlet place) event places
none_told (Filter place) event (other ∷ places) = none_told (Filter place) event places

told_calls : (place : Place) (event : Event) (count : ℕ) → component_calls place (told event count) ≡ []
unfolding told
told_calls place event count = none_told place event (hearing_order event count)

none_of_all : {X : Type 0} (place : Place) (records : X → List Record) → ((x : X) → component_calls place (records x) ≡ []) → (xs : List X)
    → component_calls place (flat_map records xs) ≡ []
none_of_all (Servlet place) records none [] = refl
none_of_all (Filter place) records none [] = refl
none_of_all place records none (x ∷ xs) =
    calls_append place (records x) (flat_map records xs) ∙ ap₂ (λ front back. front ++ back) (none x) (none_of_all place records none xs)

ends_calls : (place : Place) (sessions : List Session) (count : ℕ) → component_calls place (ends_told sessions count) ≡ []
ends_calls place sessions count =
    none_of_all place (λ session. all_told (end_events (ended session)) count)
    (λ session. none_of_all place (λ event. told event count) (λ event. told_calls place event count) (end_events (ended session)))
    (by_number sessions)

-- ---- places that are destroyed
abbrev ends_at : Place → List Place → List Call
ends_at place [] = []
ends_at place (other ∷ places) = if is_at place other then Destroyed ∷ ends_at place places else ends_at place places

destroyed_calls : (place : Place) (places : List Place) → component_calls place (map destroyed places) ≡ ends_at place places
destroyed_calls (Servlet place) [] = refl
destroyed_calls (Filter place) [] = refl
destroyed_calls (Servlet place) (Servlet other ∷ places) =
    ap (λ calls. if eqb other place then Destroyed ∷ calls else calls) (destroyed_calls (Servlet place) places)
destroyed_calls (Servlet place) (Filter other ∷ places) = destroyed_calls (Servlet place) places
destroyed_calls (Filter place) (Servlet other ∷ places) = destroyed_calls (Filter place) places
destroyed_calls (Filter place) (Filter other ∷ places) =
    ap (λ calls. if eqb other place then Destroyed ∷ calls else calls) (destroyed_calls (Filter place) places)

ends_append : (place : Place) (front back : List Place) → ends_at place (front ++ back) ≡ ends_at place front ++ ends_at place back
ends_append place [] back = refl
ends_append place (other ∷ front) back =
    ap (λ calls. if is_at place other then Destroyed ∷ calls else calls) (ends_append place front back)
    ∙ more_calls (is_at place other) Destroyed (ends_at place front) (ends_at place back)

-- at most one place in the list passes the test
abbrev pub IsOnce : (Place → Bool) → List Place → Type 0
IsOnce test [] = Unit {0}
IsOnce test (place ∷ places) = (test place ≡ true → list_any test places ≡ false) × IsOnce test places

abbrev ends_if : Bool → List Call
ends_if true = Destroyed ∷ []
ends_if false = []

end_more : (here behind : Bool) (calls : List Call) → calls ≡ ends_if behind → (here ≡ true → behind ≡ false)
    → calls ++ (if here then Destroyed ∷ [] else []) ≡ ends_if (here || behind)
end_more true true calls are once = let no : true ≡ false = once refl in cc
end_more true false calls are once = ap (λ front. front ++ Destroyed ∷ []) are
end_more false behind calls are once = append-nil calls ∙ are

ends_reversed : (place : Place) (places : List Place) → IsOnce (is_at place) places → ends_at place (reverse places) ≡ ends_if (list_any (is_at place) places)
ends_reversed place [] once = refl
ends_reversed place (other ∷ places) once =
    ap (ends_at place) (reverse-append (other ∷ []) places) ∙ ends_append place (reverse places) (other ∷ [])
    ∙ end_more (is_at place other) (list_any (is_at place) places) (ends_at place (reverse places)) (ends_reversed place places once.1) once.0

-- ---- places in service
kept_more : (test : Place → Bool) (place : Place) (places : List Place) (here kept flag any : Bool) → test place ≡ here → (here ≡ true → kept ≡ flag)
    → list_any test places ≡ (any && flag) → list_any test (if kept then place ∷ places else places) ≡ ((here || any) && flag)
kept_more test place places true true flag any is same so_far = ap (λ here. here || list_any test places) is ∙ same refl
kept_more test place places true false flag any is same so_far = so_far ∙ ap (λ yes. any && yes) (sym (same refl)) ∙ and-false any ∙ same refl
kept_more test place places false true flag any is same so_far = ap (λ here. here || list_any test places) is ∙ so_far
kept_more test place places false false flag any is same so_far = so_far

-- a second test keeps all or none of the places that pass the first one
any_kept : (test keeps : Place → Bool) (flag : Bool) → ((place : Place) → test place ≡ true → keeps place ≡ flag) → (places : List Place)
    → list_any test (filter keeps places) ≡ (list_any test places && flag)
any_kept test keeps flag same [] = refl
any_kept test keeps flag same (place ∷ places) =
    kept_more test place (filter keeps places) (test place) (keeps place) flag (list_any test places) refl (same place) (any_kept test keeps flag same places)

pub left_false : (left right : Bool) → (left || right) ≡ false → left ≡ false
left_false true right is = is
left_false false right is = refl

pub right_false : (left right : Bool) → (left || right) ≡ false → right ≡ false
right_false true right is = let no : true ≡ false = is in cc
right_false false right is = is

pub none_more : (test : Place → Bool) (place : Place) (places : List Place) (kept : Bool) → test place ≡ false → list_any test places ≡ false
    → list_any test (if kept then place ∷ places else places) ≡ false
none_more test place places true is none = ap₂ (λ here behind. here || behind) is none
none_more test place places false is none = none

none_kept : (test keeps : Place → Bool) (places : List Place) → list_any test places ≡ false → list_any test (filter keeps places) ≡ false
none_kept test keeps [] none = refl
none_kept test keeps (place ∷ places) none =
    none_more test place (filter keeps places) (keeps place) (left_false (test place) (list_any test places) none)
    (none_kept test keeps places (right_false (test place) (list_any test places) none))

pub once_more : (test : Place → Bool) (place : Place) (places : List Place) (kept : Bool) → (test place ≡ true → list_any test places ≡ false) → IsOnce test places
    → IsOnce test (if kept then place ∷ places else places)
once_more test place places true first others = (first, others)
once_more test place places false first others = others

once_kept : (test keeps : Place → Bool) (places : List Place) → IsOnce test places → IsOnce test (filter keeps places)
once_kept test keeps [] once = tt
once_kept test keeps (place ∷ places) once =
    once_more test place (filter keeps places) (keeps place) (λ is. none_kept test keeps places (once.0 is)) (once_kept test keeps places once.1)

-- ---- the calls of a component by a stop
-- whether a component that was initialized at the place is in service
abbrev serves_at : List Standing → Place → Bool
serves_at standings (Servlet place) = not (gone_at place standings)
serves_at standings (Filter place) = true

serves_same : (standings : List Standing) (place other : Place) → is_at place other ≡ true → is_in_service standings other ≡ serves_at standings place
serves_same standings (Servlet place) (Servlet other) is = ap (λ at. not (gone_at at standings)) (eqb-true other place is)
serves_same standings (Servlet place) (Filter other) is = let no : false ≡ true = is in cc
serves_same standings (Filter place) (Servlet other) is = let no : false ≡ true = is in cc
serves_same standings (Filter place) (Filter other) is = refl

calls_of_stop : (place : Place) (initialised : List Place) (standings : List Standing) (count : ℕ) (sessions : List Session) → IsOnce (is_at place) initialised
    → component_calls place (stop_calls count (filter (is_in_service standings) initialised) sessions)
    ≡ ends_if (list_any (is_at place) initialised && serves_at standings place)
calls_of_stop place initialised standings count sessions once =
    let serving = filter (is_in_service standings) initialised in
    calls_append place (map destroyed (reverse serving)) (ends_told sessions count ++ told ContextDestroyed count)
    ∙ ap (λ calls. component_calls place (map destroyed (reverse serving)) ++ calls)
    (calls_append place (ends_told sessions count) (told ContextDestroyed count)
    ∙ ap₂ (λ front back. front ++ back) (ends_calls place sessions count) (told_calls place ContextDestroyed count))
    ∙ append-nil (component_calls place (map destroyed (reverse serving))) ∙ destroyed_calls place (reverse serving)
    ∙ ends_reversed place serving (once_kept (is_at place) (is_in_service standings) initialised once)
    ∙ ap ends_if (any_kept (is_at place) (is_in_service standings) (serves_at standings place) (serves_same standings place) initialised)

-- ---- the calls of a component by events
pub flips : (one other : ℕ) → eqb one other ≡ eqb other one
flips one other = grind (arith, nat_tests)

same_more : (here : Bool) (call : Call) (calls : List Call) → (if here then call ∷ [] else []) ++ calls ≡ (if here then call ∷ calls else calls)
same_more true call calls = refl
same_more false call calls = refl

same_calls : (place : ℕ) (made : List Record) → calls_of place made ≡ component_calls (Servlet place) made
same_calls place [] = refl
same_calls place (OfServlet other call ∷ made) =
    ap₂ (λ here calls. (if here then call ∷ [] else []) ++ calls) (flips place other) (same_calls place made)
    ∙ same_more (eqb other place) call (component_calls (Servlet place) made)
same_calls place (OfFilter other call ∷ made) = same_calls place made
same_calls place (OfListener other event ∷ made) = same_calls place made

none_at : (here : Bool) (call : Call) (calls : List Call) → is_destroy call ≡ false → list_any is_destroy calls ≡ false
    → list_any is_destroy (if here then call ∷ calls else calls) ≡ false
none_at true call calls is none = ap₂ (λ first behind. first || behind) is none
none_at false call calls is none = none

no_filter_ends : (place : ℕ) (made : List Record) → list_any is_destroy_of_filter made ≡ false → list_any is_destroy (component_calls (Filter place) made) ≡ false
no_filter_ends place [] none = refl
no_filter_ends place (OfServlet other call ∷ made) none = no_filter_ends place made none
no_filter_ends place (OfFilter other call ∷ made) none =
    none_at (eqb other place) call (component_calls (Filter place) made) (left_false (is_destroy call) (list_any is_destroy_of_filter made) none)
    (no_filter_ends place made (right_false (is_destroy call) (list_any is_destroy_of_filter made) none))
no_filter_ends place (OfListener other event ∷ made) none = no_filter_ends place made none

-- ---- the calls by events and by the stop
both_end : (was gone : Bool) (calls stop : List Call) → EndsSo (not was) calls gone → stop ≡ ends_if (was && not gone) → EndsOnce was (calls ++ stop)
both_end false gone calls stop ends is = ap₂ (λ front back. front ++ back) ends.0 is
both_end true true calls stop ends is = record {
  front = ends.0;
  are = ap (λ back. calls ++ back) is ∙ append-nil calls ∙ ends.1;
  not_before = ends.2;
}
both_end true false calls stop ends is = record { front = calls; are = ap (λ back. calls ++ back) is; not_before = ends }

pub servlet_ends : (place : ℕ) (before after : List Standing) (initialised : List Place) (made : List Record) (count : ℕ) (sessions : List Session)
    → IsOnce (is_at (Servlet place)) initialised → gone_at place before ≡ not (list_any (is_at (Servlet place)) initialised)
    → Retires before made after
    → EndsOnce (list_any (is_at (Servlet place)) initialised)
    (component_calls (Servlet place) (made ++ stop_calls count (filter (is_in_service after) initialised) sessions))
servlet_ends place before after initialised made count sessions once stands retires =
    let was = list_any (is_at (Servlet place)) initialised in
    let stop = stop_calls count (filter (is_in_service after) initialised) sessions in
    subst (EndsOnce was) (sym (calls_append (Servlet place) made stop))
    (both_end was (gone_at place after) (component_calls (Servlet place) made) (component_calls (Servlet place) stop)
    (subst (λ calls. EndsSo (not was) calls (gone_at place after)) (same_calls place made)
    (subst (λ gone. EndsSo gone (calls_of place made) (gone_at place after)) stands (retires.servlets place)))
    (calls_of_stop (Servlet place) initialised after count sessions once))

pub filter_ends : (place : ℕ) (before after : List Standing) (initialised : List Place) (made : List Record) (count : ℕ) (sessions : List Session)
    → IsOnce (is_at (Filter place)) initialised → list_any (is_at (Filter place)) initialised ≡ true → Retires before made after
    → EndsOnce (list_any (is_at (Filter place)) initialised)
    (component_calls (Filter place) (made ++ stop_calls count (filter (is_in_service after) initialised) sessions))
filter_ends place before after initialised made count sessions once is retires =
    let stop = stop_calls count (filter (is_in_service after) initialised) sessions in
    subst (EndsOnce (list_any (is_at (Filter place)) initialised)) (sym (calls_append (Filter place) made stop))
    (subst (λ was. EndsOnce was (component_calls (Filter place) made ++ component_calls (Filter place) stop)) (sym is)
    (both_end true false (component_calls (Filter place) made) (component_calls (Filter place) stop) (no_filter_ends place made retires.filters)
    (calls_of_stop (Filter place) initialised after count sessions once ∙ ap (λ was. ends_if (was && true)) is)))
