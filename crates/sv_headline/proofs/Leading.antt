-- What transitions keep and change of contexts: their paths, their constraints and their components.
use Rattle.std.proofs.Common.{◌≡◌, ◌≢◌, ◌⊎◌, ℕ, ◌+◌, zero, suc, Bool, true, false, cond, inl, inr, List, [], ◌∷◌, ◌++◌, map, Option, None, Some, Result, Ok, Err, refl, sym, ap, ◌∙◌, subst, slice_get, slice_set}
use Rattle.std.specs.List.{AllByRecursion, flat_map, position, position_from}
use Rattle.std.specs.Option.{option_map, option_map_or}
use Rattle.std.specs.Prelude.{◌==◌}
use Rattle.std.proofs.lemmas.Bool.Decides.{eqb_tells}
use Rattle.std.proofs.lemmas.Bool.{cond-true, cond-false}
use Rattle.std.proofs.lemmas.Grind.{fold-append}
use Rattle.std.proofs.lemmas.Iterator.Adapters.{position_from-zero}
use Rattle.std.proofs.lemmas.Option.{slice_get-map}
use Rattle.sv_component.proofs.Running.{runs_join}
use Rattle.sv_component.specs.Runs.{IsRun, Record}
use Rattle.sv_component.specs.Steps.{ComponentSteps}
use Rattle.sv_component.specs.World.{World}
use Rattle.sv_context.specs.Conduct.{unnoted}
use Rattle.sv_context.specs.State.{ContextState, IsSameDeployment, world_of}
use Rattle.sv_headline.specs.Message.{IsLawfulMessage}
use Rattle.sv_headline.specs.Transitions.{Closing, ContextAnswer, Continuation, EditAnswer, Expiries, Expiry, IsExpiry, IsHandledAt, Leads, LeadsThrough, OwnAnswer, Refusal, Transition, calls_at, edits_at, told_of, under}
use Rattle.sv_mapping.specs.Chosen.{is_chosen}
use Rattle.sv_message.specs.declared.message.Target.{Target}
use Rattle.sv_policy.specs.Compiled.{Standing}
use Rattle.sv_policy.specs.Edits.{GivesOutcome, edit_outcome, edited, edited_all, standing_after}
use Rattle.sv_policy.specs.declared.edit.Edit.{Edit}
use Rattle.sv_policy.specs.declared.edit_fault.EditFault.{EditFault}
use Rattle.sv_policy.specs.declared.edit_fault.EditFault.TheVariants as faults
use Rattle.sv_run.proofs.Constraints.{get_apart, get_set}
use Rattle.sv_run.specs.Contexts.{Handling, Theory}
use Rattle.sv_run.specs.Messages.{destination, destination_of, place_for}

-- ---- lists

pub some_is : {X : Type 0} {one other : X} → ◌≡◌ {A = Option X} (Some one) (Some other) → one ≡ other
some_is same = cc

-- if one item of a list changes but its image does not, the images of the list stay the same
pub seen_same : {X Y : Type 0} (f : X → Y) (xs : List X) (place : ℕ) (old new : X) → slice_get xs place ≡ Some old → f new ≡ f old
    → map f (slice_set xs place new) ≡ map f xs
seen_same f [] place old new there same = absurd (cc)
seen_same f (x ∷ xs) zero old new there same = ap (λ first. first ∷ map f xs) (same ∙ ap f (sym (some_is there)))
seen_same f (x ∷ xs) (suc place) old new there same = ap (λ rest. f x ∷ rest) (seen_same f xs place old new there same)

-- the item at a place after another is set
pub after_set : {X : Type 0} (xs : List X) (set place : ℕ) (old new : X) → slice_get xs set ≡ Some old
    → ((set ≡ place) × ((set == place) ≡ true) × (slice_get (slice_set xs set new) place ≡ Some new) × (slice_get xs place ≡ Some old))
    ⊎ (((set == place) ≡ false) × (slice_get (slice_set xs set new) place ≡ slice_get xs place))
after_set {X} xs set place old new there = elim (eqb_tells set place) [
  | inl same ↦
      inl (
        same.1,
        same.0,
        subst (λ its. slice_get (slice_set xs set new) its ≡ Some new) same.1 (get_set xs set old new there),
        subst (λ its. slice_get xs its ≡ Some old) same.1 there,
      )
  | inr apart ↦ inr (apart.0, get_apart xs set place new (λ is. apart.1 (sym is)))
]

-- ---- places by paths

from_map : {X Y : Type 0} (test : Y → Bool) (f : X → Y) (place : ℕ) (xs : List X) → position_from test place (map f xs) ≡ position_from (λ x. test (f x)) place xs
from_map test f place [] = refl
from_map test f place (x ∷ xs) = ap (cond (test (f x)) (Some place)) (from_map test f (place + 1) xs)

by_map : {X Y : Type 0} (test : Y → Bool) (f : X → Y) (xs : List X) → position test (map f xs) ≡ position (λ x. test (f x)) xs
by_map test f xs = position_from-zero test (map f xs) ∙ from_map test f 0 xs ∙ sym (position_from-zero (λ x. test (f x)) xs)

pub same_destination : {Context Words : Type 0} (theory : Theory Context Words) (one other : List Context)
    → map theory.path_of other ≡ map theory.path_of one → (target : Target) → destination theory other target ≡ destination theory one target
same_destination theory one other same target = λ i. destination_of (λ path. same_place path i) target
  where
    same_place : (path : List ℕ) → place_for theory other path ≡ place_for theory one path
    same_place path =
        sym (by_map (is_chosen (map theory.path_of other) path) theory.path_of other)
        ∙ ap (λ paths. position (is_chosen paths path) paths) same
        ∙ by_map (is_chosen (map theory.path_of one) path) theory.path_of one

-- the constraints after an answer other than `NoMemory`
pub stands_after : (old new : Standing) (answer : Result ℕ EditFault) (outcome : Result (ℕ × Standing) EditFault) → GivesOutcome old new answer outcome
    → answer ≢ Err faults.NoMemory → new ≡ standing_after old outcome
stands_after old new answer (Err fault) gives answers = gives.1
stands_after old new (Ok number) (Ok done) gives answers = gives.1
stands_after old new (Err fault) (Ok done) gives answers = absurd (answers (ap Err gives.0))

abbrev pub path_of : {S F L : Type 0} → ContextState S F L → List ℕ
path_of context = context.content.context_path

module _ {S F L : Type 0} (moving : ComponentSteps S F L) where
  stays_in : (handling : Handling (ContextState S F L)) (made : List Record) → IsLawfulMessage moving handling made → IsSameDeployment handling.context handling.after
  stays_in handling made (inl enters) = enters.1.stays
  stays_in handling made (inr out) = out.1.done.stays

  runs_in : (handling : Handling (ContextState S F L)) (made : List Record) → IsLawfulMessage moving handling made
      → IsRun moving (world_of handling.context unnoted) made (world_of handling.after unnoted)
  runs_in handling made (inl enters) = enters.1.moves
  runs_in handling made (inr out) = out.1.done.moves

  -- ---- paths

  expired_paths : (moment : ℕ) (expiries : List (Expiry S F L)) → AllByRecursion (IsExpiry moving moment) expiries
      → map path_of (map (λ (expiry : Expiry S F L). expiry.after) expiries) ≡ map path_of (map (λ (expiry : Expiry S F L). expiry.context) expiries)
  expired_paths moment [] each = refl
  expired_paths moment (expiry ∷ expiries) each =
      let same = each.0.stays.content in
      λ i. (same i).context_path ∷ expired_paths moment expiries each.1 i

  edited_paths : (place : Option ℕ) (edit : Edit) (answer : Result ℕ EditFault) (before after : List (ContextState S F L))
      → Leads moving before (EditAnswer place edit answer) after → map path_of after ≡ map path_of before
  edited_paths None edit answer before after leads = ap (map path_of) leads.1
  edited_paths (Some place) edit answer before after leads =
      ap (map path_of) leads.is_after ∙ seen_same path_of before place leads.context (under leads.constraints leads.context) leads.there refl

  pub leads_paths : (before after : List (ContextState S F L)) (transition : Transition S F L) → Leads moving before transition after
      → map path_of after ≡ map path_of before
  leads_paths before after (Expiries moment expiries) leads =
      ap (map path_of) leads.after_are ∙ expired_paths moment expiries leads.each ∙ sym (ap (map path_of) leads.before_are)
  leads_paths before after Continuation leads = ap (map path_of) leads
  leads_paths before after (Refusal fault text) leads = ap (map path_of) leads
  leads_paths before after (OwnAnswer message entry response text) leads = ap (map path_of) leads
  leads_paths before after (ContextAnswer place handling made text) leads =
      ap (map path_of) leads.is_after
      ∙ seen_same path_of before place handling.context handling.after leads.there (ap (λ its. its.context_path) (stays_in handling made leads.lawful).content)
  leads_paths before after (EditAnswer place edit answer) leads = edited_paths place edit answer before after leads
  leads_paths before after Closing leads = ap (map path_of) leads

  -- ---- transitions one after another

  pub through_all : (before between after : List (ContextState S F L)) (front back : List (Transition S F L))
      → LeadsThrough moving before front between → LeadsThrough moving between back after → LeadsThrough moving before (front ++ back) after
  through_all before between after [] back first later = subst (λ its. LeadsThrough moving its back after) first later
  through_all before between after (transition ∷ front) back first later =
      (first.0, first.1, through_all first.0 between after front back first.2 later)

  pub record Through (before : List (ContextState S F L)) (front back : List (Transition S F L)) (after : List (ContextState S F L)) : Type 0 where
    pub between : List (ContextState S F L)
    pub first : LeadsThrough moving before front between
    pub later : LeadsThrough moving between back after

  pub through_parts : (before after : List (ContextState S F L)) (front back : List (Transition S F L))
      → LeadsThrough moving before (front ++ back) after → Through before front back after
  through_parts before after [] back leads = record { between = before; first = refl; later = leads }
  through_parts before after (transition ∷ front) back leads =
      let rest = through_parts leads.0 after front back leads.2 in
      record { between = rest.between; first = (leads.0, leads.1, rest.first); later = rest.later }

  -- ---- the context at a place: its calls and its constraints

  -- the context at a place goes on by these calls, and its constraints by these edits
  abbrev pub GoesOn : Option (ContextState S F L) → List Record → List Edit → Option (ContextState S F L) → Type 0
  GoesOn None calls edits after = after ≡ None
  GoesOn (Some first) calls edits after =
      (last : ContextState S F L) × (after ≡ Some last) × IsRun moving (world_of first unnoted) calls (world_of last unnoted)
      × (last.policy ≡ edited_all first.policy edits)

  no_calls : (world : World S F L) → IsRun moving world [] world
  unfolding IsRun
  no_calls world = refl

  goes_nowhere : (before after : Option (ContextState S F L)) → after ≡ before → GoesOn before [] [] after
  goes_nowhere None after same = same
  goes_nowhere (Some first) after same = (first, same, no_calls (world_of first unnoted), refl)

  goes_further : (before between after : Option (ContextState S F L)) (calls more : List Record) (edits others : List Edit)
      → GoesOn before calls edits between → GoesOn between more others after → GoesOn before (calls ++ more) (edits ++ others) after
  goes_further None between after calls more edits others first later = subst (λ its. GoesOn its more others after) first later
  goes_further (Some before) between after calls more edits others first later =
      let then = subst (λ its. GoesOn its more others after) first.1 later in (
        then.0,
        then.1,
        runs_join moving (world_of before unnoted) (world_of first.0 unnoted) (world_of then.0 unnoted) calls more first.2 then.2,
        then.3 ∙ ap (λ standing. edited_all standing others) first.3 ∙ sym (fold-append edited before.policy edits others),
      )

  expiries_go : (moment : ℕ) (expiries : List (Expiry S F L)) → AllByRecursion (IsExpiry moving moment) expiries → (place : ℕ)
      → GoesOn (option_map (λ (expiry : Expiry S F L). expiry.context) (slice_get expiries place)) (option_map_or told_of (slice_get expiries place) []) []
      (option_map (λ (expiry : Expiry S F L). expiry.after) (slice_get expiries place))
  expiries_go moment [] each place = refl
  expiries_go moment (expiry ∷ expiries) each zero = (expiry.after, refl, each.0.moves, each.0.stays.policy)
  expiries_go moment (expiry ∷ expiries) each (suc place) = expiries_go moment expiries each.1 place

  handled_goes : (at place : ℕ) (handling : Handling (ContextState S F L)) (made : List Record) (before after : List (ContextState S F L))
      → IsHandledAt moving at handling made before after → GoesOn (slice_get before place) (cond (at == place) made []) [] (slice_get after place)
  handled_goes at place handling made before after leads =
      elim (after_set before at place handling.context handling.after leads.there) [
        | inl here ↦
            subst (λ old. GoesOn old (cond (at == place) made []) [] (slice_get after place)) (sym here.3)
            (subst (λ calls. GoesOn (Some handling.context) calls [] (slice_get after place)) (sym (cond-true (at == place) _ _ here.1)) (
              handling.after,
              ap (λ its. slice_get its place) leads.is_after ∙ here.2,
              runs_in handling made leads.lawful,
              (stays_in handling made leads.lawful).policy,
            ))
        | inr apart ↦
            subst (λ calls. GoesOn (slice_get before place) calls [] (slice_get after place)) (sym (cond-false (at == place) _ _ apart.0))
            (goes_nowhere (slice_get before place) (slice_get after place) (ap (λ its. slice_get its place) leads.is_after ∙ apart.1))
      ]

  edited_goes : (at : Option ℕ) (place : ℕ) (edit : Edit) (answer : Result ℕ EditFault) (before after : List (ContextState S F L))
      → Leads moving before (EditAnswer at edit answer) after
      → GoesOn (slice_get before place) [] (edits_at {S = S} {F = F} {L = L} place (EditAnswer at edit answer)) (slice_get after place)
  edited_goes None place edit answer before after leads =
      goes_nowhere (slice_get before place) (slice_get after place) (ap (λ its. slice_get its place) leads.1)
  edited_goes (Some at) place edit answer before after leads =
      elim (after_set before at place leads.context (under leads.constraints leads.context) leads.there) [
        | inl here ↦
            subst (λ old. GoesOn old [] (cond (at == place) (edit ∷ []) []) (slice_get after place)) (sym here.3)
            (subst (λ edits. GoesOn (Some leads.context) [] edits (slice_get after place)) (sym (cond-true (at == place) _ _ here.1)) (
              under leads.constraints leads.context,
              ap (λ its. slice_get its place) leads.is_after ∙ here.2,
              no_calls (world_of leads.context unnoted),
              stands_after leads.context.policy leads.constraints answer (edit_outcome leads.context.policy edit) leads.outcome leads.answers,
            ))
        | inr apart ↦
            subst (λ edits. GoesOn (slice_get before place) [] edits (slice_get after place)) (sym (cond-false (at == place) _ _ apart.0))
            (goes_nowhere (slice_get before place) (slice_get after place) (ap (λ its. slice_get its place) leads.is_after ∙ apart.1))
      ]

  pub leads_on : (place : ℕ) (before after : List (ContextState S F L)) (transition : Transition S F L) → Leads moving before transition after
      → GoesOn (slice_get before place) (calls_at place transition) (edits_at place transition) (slice_get after place)
  leads_on place before after (Expiries moment expiries) leads =
      let one = slice_get-map (λ (expiry : Expiry S F L). expiry.context) expiries place in
      let other = slice_get-map (λ (expiry : Expiry S F L). expiry.after) expiries place in
      subst (λ old. GoesOn old (option_map_or told_of (slice_get expiries place) []) [] (slice_get after place))
      (sym (ap (λ its. slice_get its place) leads.before_are ∙ one))
      (subst (GoesOn (option_map (λ (expiry : Expiry S F L). expiry.context) (slice_get expiries place)) (option_map_or told_of (slice_get expiries place) []) [])
      (sym (ap (λ its. slice_get its place) leads.after_are ∙ other)) (expiries_go moment expiries leads.each place))
  leads_on place before after Continuation leads = goes_nowhere (slice_get before place) (slice_get after place) (ap (λ its. slice_get its place) leads)
  leads_on place before after (Refusal fault text) leads = goes_nowhere (slice_get before place) (slice_get after place) (ap (λ its. slice_get its place) leads)
  leads_on place before after (OwnAnswer message entry response text) leads =
      goes_nowhere (slice_get before place) (slice_get after place) (ap (λ its. slice_get its place) leads)
  leads_on place before after (ContextAnswer at handling made text) leads = handled_goes at place handling made before after leads
  leads_on place before after (EditAnswer at edit answer) leads = edited_goes at place edit answer before after leads
  leads_on place before after Closing leads = goes_nowhere (slice_get before place) (slice_get after place) (ap (λ its. slice_get its place) leads)

  pub through_on : (place : ℕ) (before after : List (ContextState S F L)) (transitions : List (Transition S F L)) → LeadsThrough moving before transitions after
      → GoesOn (slice_get before place) (flat_map (calls_at place) transitions) (flat_map (edits_at place) transitions) (slice_get after place)
  through_on place before after [] leads = goes_nowhere (slice_get before place) (slice_get after place) (ap (λ its. slice_get its place) leads)
  through_on place before after (transition ∷ transitions) leads =
      goes_further (slice_get before place) (slice_get leads.0 place) (slice_get after place) (calls_at place transition) (flat_map (calls_at place) transitions)
      (edits_at place transition) (flat_map (edits_at place) transitions) (leads_on place before leads.0 transition leads.1)
      (through_on place leads.0 after transitions leads.2)
