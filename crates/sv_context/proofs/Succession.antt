-- Contexts that start and stop one after another.
use Rattle.std.proofs.Common.{◌≡◌, ℕ, suc, ◌+◌, ◌<◌, ◌≤◌, List, [], ◌∷◌, ◌++◌, drop, length, map, slice_index_or, Result, Ok, Err, refl, sym, ap, ◌∙◌, subst, arith, append_assoc, length-append}
use Rattle.std.proofs.lemmas.List.{length-map}
use Rattle.sv_component.specs.Steps.{ComponentSteps}
use Rattle.sv_context.specs.Deployment.{Deploys, Undeploys, deployed}
use Rattle.sv_context.specs.Several.{DeploysAll, UndeploysAll, paths_of}
use Rattle.sv_context.specs.State.{ContextState}
use Rattle.sv_context.specs.declared.deploy_fault.DeployFault.{DeployFault}
use Rattle.sv_lifecycle.specs.declared.deployment.Deployment.{Deployment}
use Rattle.sv_journal.specs.Journal.{JournalState}
use Rattle.sv_live.specs.Standing.{LiveState}
use Rattle.sv_lifecycle.specs.declared.start_fault.StartFault.{StartFault}

module _ {A B : Type 0} (f : A → B) where
  -- The next item is mapped, and moves from one list to the end of another.
  pub one_moved : (done all : List B) (item : A) (waiting rest : List A) → waiting ≡ item ∷ rest → done ++ map f waiting ≡ all
      → (done ++ f item ∷ []) ++ map f rest ≡ all
  one_moved done all item waiting rest is so_far =
      append_assoc done (f item ∷ []) (map f rest) ∙ ap (λ items. done ++ map f items) (sym is) ∙ so_far

module _ {A : Type 0} where
  -- A list that equals itself without its first item is empty.
  pub none_left : (items others : List A) → items ≡ others → others ≡ drop 1 items → items ≡ []
  none_left [] others same rest = refl
  none_left (item ∷ items) others same rest = absurd (omega (arith, ap length (same ∙ rest)))

  pub room_stays : {B : Type 0} (before after : List A) (item : A) (waiting rest : List B) (popped : B) (had has : ℕ)
      → after ≡ before ++ item ∷ [] → waiting ≡ popped ∷ rest → length before + length waiting ≤ had → had ≤ has
      → length after + length rest ≤ has
  room_stays before after item waiting rest popped had has added left fits grows =
      omega (arith, length-append before (item ∷ []), ap length added, ap length left, fits, grows)

module _ {S F L : Type 0} where
  -- The path of a context, or another path if it was not started.
  abbrev path_in : List ℕ → Result (ContextState S F L) (DeployFault S F L) → List ℕ
  path_in other (Ok context) = context.content.context_path
  path_in other (Err fault) = other

  path_started : (deployment : Deployment S F L) (started : Result (LiveState S F L) (StartFault S F L))
      → path_in deployment.path (deployed deployment started) ≡ deployment.path
  path_started deployment (Ok live) = refl
  path_started deployment (Err fault) = refl

module _ {S F L : Type 0} (moving : ComponentSteps S F L) where
  -- One more context starts.
  pub deploys_next : (front : List (Deployment S F L)) (before between after : JournalState) (contexts : List (ContextState S F L))
      (deployment : Deployment S F L) (context : ContextState S F L)
      → DeploysAll moving front before contexts between
      → Deploys moving deployment between (Ok context) after
      → DeploysAll moving (front ++ deployment ∷ []) before (contexts ++ context ∷ []) after
  deploys_next [] before between after contexts deployment context so_far starts = (
    context,
    [],
    after,
    subst (λ (j : JournalState). Deploys moving deployment j (Ok context) after) so_far.1 starts,
    (refl, refl),
    ap (λ cs. cs ++ context ∷ []) so_far.0,
  )
  deploys_next (first ∷ front) before between after contexts deployment context so_far starts = (
    so_far.0,
    so_far.1 ++ context ∷ [],
    so_far.2,
    so_far.3,
    deploys_next front so_far.2 between after so_far.1 deployment context so_far.4 starts,
    ap (λ cs. cs ++ context ∷ []) so_far.5,
  )

  -- One more context stops.
  pub undeploys_next : (front : List (ContextState S F L)) (before between after : JournalState) (back : List (Deployment S F L))
      (context : ContextState S F L) (deployment : Deployment S F L)
      → UndeploysAll moving front before back between
      → Undeploys moving context between deployment after
      → UndeploysAll moving (front ++ context ∷ []) before (back ++ deployment ∷ []) after
  undeploys_next [] before between after back context deployment so_far stops = (
    deployment,
    [],
    after,
    subst (λ (j : JournalState). Undeploys moving context j deployment after) so_far.1 stops,
    (refl, refl),
    ap (λ ds. ds ++ deployment ∷ []) so_far.0,
  )
  undeploys_next (first ∷ front) before between after back context deployment so_far stops = (
    so_far.0,
    so_far.1 ++ deployment ∷ [],
    so_far.2,
    so_far.3,
    undeploys_next front so_far.2 between after so_far.1 context deployment so_far.4 stops,
    ap (λ ds. ds ++ deployment ∷ []) so_far.5,
  )

  -- The number of returned deployments is that of the contexts.
  pub back_counts : (contexts : List (ContextState S F L)) (before after : JournalState) (back : List (Deployment S F L))
      → UndeploysAll moving contexts before back after → length back ≡ length contexts
  back_counts [] before after back stops = ap length stops.0
  back_counts (context ∷ contexts) before after back stops =
      ap length stops.5 ∙ ap suc (back_counts contexts stops.2 after stops.1 stops.4)

  -- As many contexts start as there are deployments, at their paths.
  pub paths_stay : (deployments : List (Deployment S F L)) (before after : JournalState) (contexts : List (ContextState S F L))
      → DeploysAll moving deployments before contexts after
      → map (λ context. context.content.context_path) contexts ≡ paths_of deployments
  paths_stay [] before after contexts starts = ap (map (λ context. context.content.context_path)) starts.0
  paths_stay (deployment ∷ deployments) before after contexts starts =
      ap (map (λ context. context.content.context_path)) starts.5
      ∙ (λ i. (ap (path_in deployment.path) starts.3.is ∙ path_started deployment starts.3.started) i
      ∷ paths_stay deployments starts.2 after starts.1 starts.4 i)

  pub contexts_count : (deployments : List (Deployment S F L)) (before after : JournalState) (contexts : List (ContextState S F L))
      → DeploysAll moving deployments before contexts after → length contexts ≡ length deployments
  contexts_count [] before after contexts starts = ap length starts.0
  contexts_count (deployment ∷ deployments) before after contexts starts =
      ap length starts.5 ∙ ap suc (contexts_count deployments starts.2 after starts.1 starts.4)

-- The path at the index of the failed deployment is its own.
pub failed_path : {S F L : Type 0} (front : List (Deployment S F L)) (failed : Deployment S F L) (rest all : List (Deployment S F L))
    (paths : List (List ℕ)) (count : ℕ) → all ≡ front ++ failed ∷ rest → paths ≡ paths_of all → count ≡ length front
    → slice_index_or paths count [] ≡ failed.path
failed_path {S} {F} {L} front failed rest all paths count are same counts =
    (λ i. slice_index_or ((same ∙ ap paths_of are) i) (counts i) []) ∙ there front
  where
    there : (before : List (Deployment S F L)) → slice_index_or (paths_of (before ++ failed ∷ rest)) (length before) [] ≡ failed.path
    there [] = refl
    there (first ∷ before) = there before

module _ {S F L : Type 0} (front all waiting rest : List (Deployment S F L)) (next : Deployment S F L) where
  -- There is capacity for one more context, and its path is in the list.
  pub fits_next : (count room : ℕ) → all ≡ front ++ waiting → waiting ≡ next ∷ rest → count ≡ length front → length all ≤ room → count < room
  fits_next count room are left counts fits =
      omega (arith, ap length are, length-append front waiting, ap length left, counts, fits)

  pub path_there : (paths : List (List ℕ)) (count : ℕ) → all ≡ front ++ waiting → waiting ≡ next ∷ rest → count ≡ length front → paths ≡ paths_of all
      → count < length paths
  path_there paths count are left counts same =
      fits_next count (length paths) are left counts
      (omega (arith, ap length same, length-map all (λ (d : Deployment S F L). d.path)))
