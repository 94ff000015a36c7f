-- The `init` calls of a start, one after another.
use Rattle.std.proofs.Common.{◌≡◌, ℕ, ◌+◌, ◌<◌, ◌≤◌, Bool, true, false, List, [], ◌∷◌, ◌++◌, length, get_or, map, set, take, drop, inl, inr, Some, None, refl, sym, ◌∙◌, ap, ap₂, subst}
use Rattle.std.specs.Prelude.{◌==◌, ◌||◌, cond}
use Rattle.std.specs.List.{All, filter, list_any}
use Rattle.std.proofs.lemmas.Bool.{cond-false, cond-true}
use Rattle.std.proofs.lemmas.Bool.Decides.{eqb_tells}
use Rattle.std.proofs.lemmas.List.{get_or-set_other, get_or-set_same, map-append, map_push, drop_all, take-append-drop, take_more, take_more_set, append-nil}
use Rattle.std.proofs.lemmas.List.Elements.{All-nil, All-push, filter-append}
use Rattle.std.proofs.lemmas.List.Folds.{list_any-append}
use Rattle.std.proofs.lemmas.Option.{unwrap_or-slice_get}
use Rattle.sv_component.specs.Runs.{Moves, Runs}
use Rattle.sv_component.specs.World.{World}
use Rattle.sv_component.specs.declared.config.Config.{Config}
use Rattle.sv_component.specs.declared.answers.Init.{Init}
use Rattle.sv_component.specs.declared.answers.Init.TheVariants.{Ready, Unavailable, Failed, NoMemory}
use Rattle.sv_descriptor.specs.declared.web_app.WebApp.{WebApp}
use Rattle.sv_component.proofs.Growing.{grows_more, grows_none}
use Rattle.sv_lifecycle.specs.Begins.{Begins, HasStanding, with_answer}
use Rattle.sv_live.specs.Calls.{init_record}
use Rattle.sv_lifecycle.specs.declared.begin.Answered.{Answered}
use Rattle.sv_lifecycle.specs.Calls.{config_at, inited, initialised, is_ready, lets_go_on, places_of}
use Rattle.sv_live.specs.Standing.{standing_at}
use Rattle.sv_lifecycle.specs.Standing.{is_out, standing_after}
use Rattle.sv_live.specs.World.{world}
use Rattle.sv_journal.specs.Journal.{JournalState}
use Rattle.sv_live.specs.declared.live.Parts.{Parts}
use Rattle.sv_lifecycle.specs.declared.plan.Plan.{Plan}
use Rattle.sv_journal.specs.declared.calls.Place.{Place}
use Rattle.sv_journal.specs.declared.calls.Place.TheVariants.{Filter, Servlet}
use Rattle.sv_component.specs.declared.standing.Standing.{Standing}
use Rattle.sv_component.specs.declared.standing.Standing.TheVariants.{Serving, Gone}
use Rattle.sv_component.specs.Steps.{ComponentSteps}

abbrev pub Goes : Answered → Type 0
Goes answered = lets_go_on answered.place answered.answer ≡ true

abbrev ready : Answered → Bool
ready answered = is_ready answered.answer

pub initialised_push : (begun : List Answered) (answered : Answered) → initialised (begun ++ answered ∷ []) ≡ initialised begun ++ initialised (answered ∷ [])
initialised_push begun answered =
    ap places_of (filter-append ready begun (answered ∷ [])) ∙ map-append (λ a. a.place) (filter ready begun) (filter ready (answered ∷ []))

-- The initialized components at the front of the order.
kept_by : (yes : Bool) (order : List Place) (count : ℕ) (answered : Answered) (front : List Place) → is_ready answered.answer ≡ yes → count < length order → take count order ≡ front
    → take (cond yes (count + 1) count) (cond yes (set order count answered.place) order) ≡ front ++ initialised (answered ∷ [])
kept_by true order count answered front is within kept =
    take_more_set order count answered.place within ∙ ap (λ f. f ++ answered.place ∷ []) kept
    ∙ ap (λ b. front ++ places_of (cond b (answered ∷ []) [])) (sym is)
kept_by false order count answered front is within kept =
    kept ∙ sym (append-nil front) ∙ ap (λ b. front ++ places_of (cond b (answered ∷ []) [])) (sym is)

-- The availability of the servlet at an index after one more result.
stands_by : (out : Bool) (any : Bool) → cond (any || (out || false)) Gone Serving ≡ cond out Gone (cond any Gone Serving)
stands_by true true = refl
stands_by true false = refl
stands_by false true = refl
stands_by false false = refl

standing_after_push : (begun : List Answered) (answered : Answered) (place : ℕ)
    → standing_after (begun ++ answered ∷ []) place ≡ cond (is_out place answered.place answered.answer) Gone (standing_after begun place)
standing_after_push begun answered place =
    let out : Answered → Bool = λ a. is_out place a.place a.answer in
    ap (λ b. cond b Gone Serving) (list_any-append out begun (answered ∷ [])) ∙ stands_by (out answered) (list_any out begun)

gone_at : (standings : List Standing) (servlet place : ℕ) → servlet < length standings
    → standing_at (set standings servlet Gone) place ≡ cond (servlet == place) Gone (standing_at standings place)
gone_at standings servlet place within =
    unwrap_or-slice_get (set standings servlet Gone) place Gone
    ∙ elim (eqb_tells servlet place) as (λ _. get_or (set standings servlet Gone) place Gone ≡ cond (servlet == place) Gone (standing_at standings place)) [
      | inl same ↦ ap (λ p. get_or (set standings servlet Gone) p Gone) (sym same.1) ∙ get_or-set_same standings servlet Gone Gone within ∙ sym (cond-true (servlet == place) _ _ same.0)
      | inr other ↦ get_or-set_other standings servlet place Gone Gone (λ same. other.1 (sym same)) ∙ sym (unwrap_or-slice_get standings place Gone) ∙ sym (cond-false (servlet == place) _ _ other.0)
    ]

with_answer_at : (standings : List Standing) (at : Place) (answer : Init) (place : ℕ) → HasStanding (length standings) at
    → standing_at (with_answer standings at answer) place ≡ cond (is_out place at answer) Gone (standing_at standings place)
with_answer_at standings (Servlet servlet) Unavailable place within = gone_at standings servlet place within
with_answer_at standings (Servlet servlet) Ready place within = refl
with_answer_at standings (Servlet servlet) Failed place within = refl
with_answer_at standings (Servlet servlet) NoMemory place within = refl
with_answer_at standings (Filter filter) answer place within = refl

some_is_none : {A P : Type 0} (a : A) → Some a ≡ None → P
some_is_none a same = absurd (cc)

-- The places of the components called so far, with one more.
front_more : (order : List Place) (step : ℕ) (begun : List Answered) (its_place : Place) (its_answer : Init) → step < length order → its_place ≡ get_or order step its_place
    → take step order ≡ places_of begun → take (step + 1) order ≡ places_of (begun ++ record { place = its_place; answer = its_answer } ∷ [])
front_more order step begun its_place its_answer within is front =
    take_more order step its_place within ∙ ap₂ (λ f p. f ++ p ∷ []) front (sym is)
    ∙ sym (map_push (λ a. a.place) begun (record { place = its_place; answer = its_answer }))

module _ {S F L : Type 0} (moving : ComponentSteps S F L) (app : WebApp) where
  -- One more `init`.
  inits_more : (start before after : World S F L) (begun : List Answered) (its_place : Place) (its_answer : Init) (config : Config) → config ≡ config_at app its_place
      → Runs moving start (map (inited app) begun) before → Moves moving before (init_record its_place config its_answer) after
      → Runs moving start (map (inited app) (begun ++ record { place = its_place; answer = its_answer } ∷ [])) after
  inits_more start before after begun its_place its_answer config is so_far moves =
      let answered : Answered = record { place = its_place; answer = its_answer } in
      subst (λ records. Runs moving start records after) (sym (map_push (inited app) begun answered))
      (grows_more moving start before after (map (inited app) begun) (inited app answered) so_far
      (subst (λ c. Moves moving before (init_record its_place c its_answer) after) is moves))

  -- The invariant between two `init` calls.
  pub record SoFar (parts : Parts S F L) (plan : Plan) (noted : JournalState) (step count : ℕ) (now_parts : Parts S F L) (now_plan : Plan) (now_noted : JournalState) : Type 0 where
    pub begun : List Answered
    pub front : take step plan.order.items ≡ places_of begun
    pub goes : All Goes begun
    pub made : Runs moving (world plan.context parts noted) (map (inited app) begun) (world plan.context now_parts now_noted)
    pub kept : take count now_plan.order.items ≡ initialised begun
    pub standings : (place : ℕ) → place < length plan.standings.items → standing_at now_plan.standings.items place ≡ standing_after begun place

  pub so_far_none : (parts : Parts S F L) (plan : Plan) (noted : JournalState)
      → ((place : ℕ) → place < length plan.standings.items → standing_at plan.standings.items place ≡ Serving) → SoFar parts plan noted 0 0 parts plan noted
  so_far_none parts plan noted serve = record {
    begun = [];
    front = refl;
    goes = All-nil Goes;
    made = grows_none moving (world plan.context parts noted);
    kept = refl;
    standings = serve;
  }

  pub so_far_more : (parts : Parts S F L) (plan : Plan) (noted : JournalState) (step count : ℕ) (before : Parts S F L) (plan_before : Plan) (noted_before : JournalState)
      → (at : Place) (config : Config) (answer : Init) (after : Parts S F L) (plan_after : Plan) (noted_after : JournalState)
      → SoFar parts plan noted step count before plan_before noted_before
      → step < length plan.order.items → at ≡ get_or plan.order.items step at → config ≡ config_at app at
      → Moves moving (world plan.context before noted_before) (init_record at config answer) (world plan.context after noted_after)
      → lets_go_on at answer ≡ true → count < length plan_before.order.items
      → plan_after.order.items ≡ cond (is_ready answer) (set plan_before.order.items count at) plan_before.order.items
      → plan_after.standings.items ≡ with_answer plan_before.standings.items at answer
      → HasStanding (length plan_before.standings.items) at
      → SoFar parts plan noted (step + 1) (cond (is_ready answer) (count + 1) count) after plan_after noted_after
  so_far_more parts plan noted step count before plan_before noted_before its_place config its_answer after plan_after noted_after so_far within is is_config moves its_goes room order its_standings there =
      let answered : Answered = record { place = its_place; answer = its_answer } in
      record {
        begun = so_far.begun ++ answered ∷ [];
        front = front_more plan.order.items step so_far.begun its_place its_answer within is so_far.front;
        goes = All-push Goes so_far.begun answered so_far.goes its_goes;
        made = inits_more (world plan.context parts noted) (world plan.context before noted_before) (world plan.context after noted_after) so_far.begun its_place its_answer config is_config so_far.made moves;
        kept = ap (take (cond (is_ready its_answer) (count + 1) count)) order
            ∙ kept_by (is_ready its_answer) plan_before.order.items count answered (initialised so_far.begun) refl room so_far.kept
            ∙ sym (initialised_push so_far.begun answered);
        standings = λ place low.
            ap (λ standings. standing_at standings place) its_standings
            ∙ with_answer_at plan_before.standings.items its_place its_answer place there
            ∙ ap (cond (is_out place its_place its_answer) Gone) (so_far.standings place low)
            ∙ sym (standing_after_push so_far.begun answered place);
      }

  -- The `init` calls end when all are made or the journal is broken.
  pub begins_to_end : (parts : Parts S F L) (plan : Plan) (noted : JournalState) (step count : ℕ) (after : Parts S F L) (plan_after : Plan) (noted_after : JournalState)
      → SoFar parts plan noted step count after plan_after noted_after
      → (noted_after.whole ≡ true → length plan.order.items ≤ step)
      → length plan_after.standings.items ≡ length plan.standings.items → plan_after.context ≡ plan.context
      → Begins moving app parts plan noted (record { initialised = count; stopper = None }) after plan_after noted_after
  begins_to_end parts plan noted step count after plan_after noted_after so_far ends its_rooms its_context =
      let all : so_far.begun ++ [] ≡ so_far.begun = append-nil so_far.begun in
      record {
        begun = so_far.begun;
        left = drop step plan.order.items;
        front = sym (take-append-drop step plan.order.items) ∙ ap (λ f. f ++ drop step plan.order.items) (so_far.front ∙ sym (ap places_of all));
        goes = so_far.goes;
        stops = tt;
        whole = λ _ is_whole. drop_all step plan.order.items (ends is_whole);
        made = subst (λ begun. Runs moving (world plan.context parts noted) (map (inited app) begun) (world plan.context after noted_after)) (sym all) so_far.made;
        kept = so_far.kept;
        standings = so_far.standings;
        rooms = its_rooms;
        context = its_context;
      }

  -- The `init` calls end at a component that stops the start.
  pub begins_to_stop : (parts : Parts S F L) (plan : Plan) (noted : JournalState) (step count : ℕ) (before : Parts S F L) (plan_before : Plan) (noted_before : JournalState)
      → (at : Place) (config : Config) (answer : Init) (after : Parts S F L) (noted_after : JournalState)
      → SoFar parts plan noted step count before plan_before noted_before
      → step < length plan.order.items → at ≡ get_or plan.order.items step at → config ≡ config_at app at
      → Moves moving (world plan.context before noted_before) (init_record at config answer) (world plan.context after noted_after)
      → lets_go_on at answer ≡ false
      → length plan_before.standings.items ≡ length plan.standings.items → plan_before.context ≡ plan.context
      → Begins moving app parts plan noted (record { initialised = count; stopper = Some (record { place = at; answer = answer }) }) after plan_before noted_after
  begins_to_stop parts plan noted step count before plan_before noted_before its_place config its_answer after noted_after so_far within is is_config moves its_stops its_rooms its_context =
      let answered : Answered = record { place = its_place; answer = its_answer } in
      record {
        begun = so_far.begun;
        left = drop (step + 1) plan.order.items;
        front = sym (take-append-drop (step + 1) plan.order.items)
            ∙ ap (λ f. f ++ drop (step + 1) plan.order.items) (front_more plan.order.items step so_far.begun its_place its_answer within is so_far.front);
        goes = so_far.goes;
        stops = its_stops;
        whole = λ none _. some_is_none answered none;
        made = inits_more (world plan.context parts noted) (world plan.context before noted_before) (world plan.context after noted_after) so_far.begun its_place its_answer config is_config so_far.made moves;
        kept = so_far.kept;
        standings = so_far.standings;
        rooms = its_rooms;
        context = its_context;
      }
