-- Callers over a restart.
use Rattle.std.proofs.Common.{◌≡◌, ℕ, zero, suc, true, false, List, [], ◌∷◌, Option, None, Some, Result, Ok, Err, refl, sym, ap, ◌∙◌, subst, inl, inr}
use Rattle.std.specs.Prelude.{◌⊎◌, ◌==◌, slice_get}
use Rattle.std.specs.List.{list_any, remove}
use Rattle.std.specs.Option.{option_and_then, option_map_or}
use Rattle.std.specs.Str.{bytes_eq}
use Rattle.std.proofs.lemmas.Bool.{and_from, and_parts, cases_Bool, eq-eqb, eqb-true, or_cases, or_left, or_right}
use Rattle.std.proofs.lemmas.List.Quantifiers.{position-Some}
use Rattle.std.proofs.lemmas.Option.{get_or_from_slice_get}
use Rattle.std.proofs.lemmas.Slice.Eq.{bytes_eq-Decides}
use Rattle.sv_component.specs.Steps.{ComponentSteps}
use Rattle.sv_context.specs.Deployment.{Deploys, content_of, declared_policy, deployed, no_sessions}
use Rattle.sv_context.specs.Resuming.{IsOf, Resumes, ResumesAll, ResumesWith, Takes, TakesAll, TakesAt, TakesWhole, constraints_resumed, keeps_caller, place_of_path, resumed_session, resumed_sessions, resumed_store}
use Rattle.sv_context.specs.Several.{DeploysAll}
use Rattle.sv_context.specs.State.{ContextState, context_of}
use Rattle.sv_context.specs.Suspending.{Remains, SuspendsAll}
use Rattle.sv_context.specs.declared.resumption.Resumption.{Resumption}
use Rattle.sv_descriptor.specs.declared.web_app.WebApp.{WebApp}
use Rattle.sv_headline.specs.Restarts.{CallersGoOn, ContextsGoOn, GoesOnFrom, IsNew}
use Rattle.sv_journal.specs.Journal.{JournalState}
use Rattle.sv_lifecycle.specs.declared.deployment.Deployment.{Deployment}
use Rattle.sv_lifecycle.specs.declared.start_fault.StartFault.{StartFault}
use Rattle.sv_lifecycle.specs.declared.suspended_context.SuspendedContext.{SuspendedContext}
use Rattle.sv_live.specs.Standing.{LiveState}
use Rattle.sv_live.specs.declared.live.Parts.{Parts}
use Rattle.sv_policy.specs.Compiled.{Standing}
use Rattle.sv_policy.specs.Resuming.{resumption}
use Rattle.sv_policy.specs.declared.edit_fault.EditFault.{EditFault}
use Rattle.sv_realm.specs.Realm.{successor}
use Rattle.sv_realm.specs.declared.account.User.{User}
use Rattle.sv_run.specs.State.{State}
use Rattle.sv_session.specs.Calls.{HoldsCaller, is_held_by}
use Rattle.sv_session.specs.Store.{Session, Store}
use Rattle.sv_tree.specs.SiteOfDescriptor.{Content}

-- The item is at a place of the list.
abbrev Among : {A : Type 0} → A → List A → Type 0
Among item items = (place : ℕ) × (slice_get items place ≡ Some item)

later : {A : Type 0} (item first : A) (items : List A) → Among item items → Among item (first ∷ items)
later item first items among = (suc among.0, among.1)

-- What is left after a removal was there before.
among_removed : {A : Type 0} (items : List A) (place : ℕ) (item : A) → Among item (remove items place) → Among item items
among_removed [] zero item among = among
among_removed [] (suc place) item among = among
among_removed (first ∷ items) zero item among = later item first items among
among_removed (first ∷ items) (suc place) item (zero, is) = (zero, is)
among_removed (first ∷ items) (suc place) item (suc at, is) = later item first items (among_removed items place item (at, is))

-- The callers of sessions that go on.
module _ (users earlier : List User) (number caller : ℕ) where
  abbrev HeldBefore : List Session → Type 0
  HeldBefore sessions = (old : ℕ) × (list_any (is_held_by number old) sessions ≡ true) × (successor users earlier old ≡ Some caller)

  held_by : (session : Session) (old : ℕ) → session.caller ≡ Some old → (session.number == number) ≡ true → is_held_by number old session ≡ true
  held_by session old is same =
      and_from (session.number == number) (option_map_or (λ own. own == old) session.caller false) same
      (subst (λ (own : Option ℕ). option_map_or (λ at. at == old) own false ≡ true) (sym is) (eq-eqb old old refl))

  found_before : (session : Session) (old : ℕ) (found : Option ℕ) → session.caller ≡ Some old → (session.number == number) ≡ true
      → successor users earlier old ≡ found → option_map_or (λ own. own == caller) found false ≡ true
      → (is_held_by number old session ≡ true) × (successor users earlier old ≡ Some caller)
  found_before session old None is same found holds = cc
  found_before session old (Some own) is same found holds = (held_by session old is same, found ∙ ap Some (eqb-true own caller holds))

  one_before : (session : Session) (own : Option ℕ) → session.caller ≡ own → (session.number == number) ≡ true
      → option_map_or (λ now. now == caller) (option_and_then (successor users earlier) own) false ≡ true
      → (old : ℕ) × (is_held_by number old session ≡ true) × (successor users earlier old ≡ Some caller)
  one_before session None is same holds = cc
  one_before session (Some old) is same holds =
      let found = found_before session old (successor users earlier old) is same refl holds in (old, found.0, found.1)

  before_it : (session : Session) → is_held_by number caller (resumed_session users earlier session) ≡ true
      → (old : ℕ) × (is_held_by number old session ≡ true) × (successor users earlier old ≡ Some caller)
  before_it session held =
      let parts = and_parts (session.number == number) (option_map_or (λ now. now == caller) (option_and_then (successor users earlier) session.caller) false) held in
      one_before session session.caller refl parts.0 parts.1

  -- A session that holds a caller held it before, as the user who is that caller now.
  pub held_before : (sessions : List Session) → list_any (is_held_by number caller) (resumed_sessions users earlier sessions) ≡ true → HeldBefore sessions
  held_before [] held = cc
  held_before (session ∷ sessions) held = elim (cases_Bool (keeps_caller users earlier session)) [
    | inr ends ↦
        let rest = held_before sessions (rw ends at held) in
        (rest.0, or_right (is_held_by number rest.0 session) (list_any (is_held_by number rest.0) sessions) rest.1, rest.2)
    | inl stays ↦ elim (or_cases (is_held_by number caller (resumed_session users earlier session))
        (list_any (is_held_by number caller) (resumed_sessions users earlier sessions)) (rw stays at held)) [
          | inl here ↦
              let own = before_it session here in
              (own.0, or_left (is_held_by number own.0 session) (list_any (is_held_by number own.0) sessions) own.1, own.2)
          | inr there ↦
              let rest = held_before sessions there in
              (rest.0, or_right (is_held_by number rest.0 session) (list_any (is_held_by number rest.0) sessions) rest.1, rest.2)
        ]
  ]

module _ {S F L : Type 0} (moving : ComponentSteps S F L) where
  -- Each suspended context remains of a context.
  pub record OfContext (suspended : SuspendedContext) (contexts : List (ContextState S F L)) : Type 0 where
    pub place : ℕ
    pub context : ContextState S F L
    pub there : slice_get contexts place ≡ Some context
    pub remains : Remains context suspended

  of_first : (context : ContextState S F L) (contexts : List (ContextState S F L)) (first : SuspendedContext) (rest : List SuspendedContext) → Remains context first
      → ((one : SuspendedContext) → Among one rest → OfContext one contexts)
      → (one : SuspendedContext) → Among one (first ∷ rest) → OfContext one (context ∷ contexts)
  of_first context contexts first rest remains others one (zero, is) =
      let same : first ≡ one = cc in
      record { place = zero; context = context; there = refl; remains = subst (Remains context) same remains }
  of_first context contexts first rest remains others one (suc place, is) =
      let found = others one (place, is) in
      record { place = suc found.place; context = found.context; there = found.there; remains = found.remains }

  of_context : (contexts : List (ContextState S F L)) (before : JournalState) (parts : List (Parts S F L)) (suspended : List SuspendedContext) (after : JournalState)
      → SuspendsAll moving contexts before parts suspended after → (one : SuspendedContext) → Among one suspended → OfContext one contexts
  of_context [] before parts suspended after suspends one among =
      let none : slice_get [] among.0 ≡ Some one = subst (λ (list : List SuspendedContext). slice_get list among.0 ≡ Some one) suspends.1 among.1 in cc
  of_context (context ∷ contexts) before parts suspended after suspends one among =
      of_first context contexts suspends.2 suspends.3 suspends.5.remains (of_context contexts suspends.4 suspends.1 suspends.3 after suspends.6) one
      (subst (Among one) suspends.8 among)

  -- A started context is of its deployment, without sessions.
  pub record OfDeployment (deployments : List (Deployment S F L)) (place : ℕ) (context : ContextState S F L) : Type 0 where
    pub deployment : Deployment S F L
    pub there : slice_get deployments place ≡ Some deployment
    pub content : context.content ≡ content_of deployment
    pub policy : context.policy ≡ declared_policy deployment.descriptor
    pub store : context.store ≡ no_sessions deployment.descriptor

  of_itself : (deployment : Deployment S F L) (deployments : List (Deployment S F L)) (started : Result (LiveState S F L) (StartFault S F L))
      (context : ContextState S F L) → Ok context ≡ deployed deployment started → OfDeployment (deployment ∷ deployments) zero context
  of_itself deployment deployments (Ok live) context is =
      let same : context ≡ context_of (content_of deployment) (declared_policy deployment.descriptor) deployment.users live (no_sessions deployment.descriptor) = cc in
      record {
        deployment = deployment;
        there = refl;
        content = ap (λ (one : ContextState S F L). one.content) same;
        policy = ap (λ (one : ContextState S F L). one.policy) same;
        store = ap (λ (one : ContextState S F L). one.store) same;
      }
  of_itself deployment deployments (Err fault) context is = absurd (cc)

  of_started : (deployment : Deployment S F L) (deployments : List (Deployment S F L)) (first : ContextState S F L) (rest : List (ContextState S F L))
      (before after : JournalState) → Deploys moving deployment before (Ok first) after
      → ((place : ℕ) (context : ContextState S F L) → slice_get rest place ≡ Some context → OfDeployment deployments place context)
      → (place : ℕ) (context : ContextState S F L) → slice_get (first ∷ rest) place ≡ Some context → OfDeployment (deployment ∷ deployments) place context
  of_started deployment deployments first rest before after deploys others zero context is =
      let same : first ≡ context = cc in
      subst (OfDeployment (deployment ∷ deployments) zero) same (of_itself deployment deployments deploys.started first deploys.is)
  of_started deployment deployments first rest before after deploys others (suc place) context is =
      let found = others place context is in
      record { deployment = found.deployment; there = found.there; content = found.content; policy = found.policy; store = found.store }

  of_deployment : (deployments : List (Deployment S F L)) (before : JournalState) (contexts : List (ContextState S F L)) (after : JournalState)
      → DeploysAll moving deployments before contexts after → (place : ℕ) (context : ContextState S F L) → slice_get contexts place ≡ Some context
      → OfDeployment deployments place context
  of_deployment [] before contexts after deploys place context is =
      let none : slice_get [] place ≡ Some context = subst (λ (list : List (ContextState S F L)). slice_get list place ≡ Some context) deploys.0 is in cc
  of_deployment (deployment ∷ deployments) before contexts after deploys place context is =
      of_started deployment deployments deploys.0 deploys.1 before deploys.2 deploys.3 (of_deployment deployments deploys.2 deploys.1 after deploys.4) place context
      (subst (λ (list : List (ContextState S F L)). slice_get list place ≡ Some context) deploys.5 is)

  -- A context that resumes was started, and goes on with what was taken for its deployment, if anything was.
  pub record At (resumptions : List (Option Resumption)) (contexts : List (ContextState S F L)) (place : ℕ) (context : ContextState S F L) : Type 0 where
    pub fresh : ContextState S F L
    pub there : slice_get contexts place ≡ Some fresh
    pub how : (context ≡ fresh) ⊎ ((resumes : Resumption) × (slice_get resumptions place ≡ Some (Some resumes))
        × (noted : JournalState) × (noted_after : JournalState) × ResumesWith moving resumes fresh noted context noted_after)

  at_first : (first : Option Resumption) (resumptions : List (Option Resumption)) (fresh : ContextState S F L) (contexts : List (ContextState S F L)) (noted : JournalState)
      (context : ContextState S F L) (noted_after : JournalState) → Resumes moving first fresh noted context noted_after
      → At (first ∷ resumptions) (fresh ∷ contexts) zero context
  at_first None resumptions fresh contexts noted context noted_after resumes = record { fresh = fresh; there = refl; how = inl resumes.0 }
  at_first (Some resumption) resumptions fresh contexts noted context noted_after resumes =
      record { fresh = fresh; there = refl; how = inr (resumption, refl, noted, noted_after, resumes) }

  at_later : (first : Option Resumption) (resumptions : List (Option Resumption)) (fresh : ContextState S F L) (contexts : List (ContextState S F L)) (noted : JournalState)
      (one : ContextState S F L) (others : List (ContextState S F L)) (noted_after : JournalState) → Resumes moving first fresh noted one noted_after
      → ((place : ℕ) (context : ContextState S F L) → slice_get others place ≡ Some context → At resumptions contexts place context)
      → (place : ℕ) (context : ContextState S F L) → slice_get (one ∷ others) place ≡ Some context → At (first ∷ resumptions) (fresh ∷ contexts) place context
  at_later first resumptions fresh contexts noted one others noted_after resumes rest zero context is =
      let same : one ≡ context = cc in
      subst (At (first ∷ resumptions) (fresh ∷ contexts) zero) same (at_first first resumptions fresh contexts noted one noted_after resumes)
  at_later first resumptions fresh contexts noted one others noted_after resumes rest (suc place) context is =
      let found = rest place context is in record { fresh = found.fresh; there = found.there; how = found.how }

  at_place : (resumptions : List (Option Resumption)) (contexts : List (ContextState S F L)) (noted : JournalState) (resumed : List (ContextState S F L)) (noted_after : JournalState)
      → ResumesAll moving resumptions contexts noted resumed noted_after → (place : ℕ) (context : ContextState S F L) → slice_get resumed place ≡ Some context
      → At resumptions contexts place context
  at_place resumptions [] noted resumed noted_after resumes place context is =
      let none : slice_get [] place ≡ Some context = subst (λ (list : List (ContextState S F L)). slice_get list place ≡ Some context) resumes.0 is in cc
  at_place [] (fresh ∷ contexts) noted resumed noted_after resumes place context is =
      record { fresh = context; there = subst (λ (list : List (ContextState S F L)). slice_get list place ≡ Some context) resumes.0 is; how = inl refl }
  at_place (first ∷ resumptions) (fresh ∷ contexts) noted resumed noted_after resumes place context is =
      at_later first resumptions fresh contexts noted resumes.0 resumes.1 resumes.2 resumes.3 (at_place resumptions contexts resumes.2 resumes.1 noted_after resumes.4) place context
      (subst (λ (list : List (ContextState S F L)). slice_get list place ≡ Some context) resumes.5 is)

-- What was taken for a deployment remains of a context with its path.
pub record Taken (app : WebApp) (path : List ℕ) (suspended : List SuspendedContext) (resumes : Resumption) : Type 0 where
  pub one : SuspendedContext
  pub among : Among one suspended
  pub path_is : one.path ≡ path
  pub policy : Standing
  pub constraints : constraints_resumed app one ≡ Ok policy
  pub of : IsOf one policy resumes

module _ (app : WebApp) (path : List ℕ) (before after : List SuspendedContext) (resumes : Resumption) where
  taken_whole : (one : SuspendedContext) (rest : List SuspendedContext) (outcome : Result Standing EditFault) (result : Option Resumption)
      → constraints_resumed app one ≡ outcome → TakesWhole one outcome result rest before after → result ≡ Some resumes → Among one before → one.path ≡ path
      → Taken app path before resumes
  taken_whole one rest (Ok policy) result resumed takes is among at =
      let same : takes.0 ≡ resumes = let both = sym takes.2 ∙ is in cc in
      record { one = one; among = among; path_is = at; policy = policy; constraints = resumed; of = subst (IsOf one policy) same takes.1 }
  taken_whole one rest (Err fault) result resumed takes is among at = let both = sym takes.0 ∙ is in cc

  taken_place : (place : Option ℕ) (result : Option Resumption) → place_of_path path before ≡ place → TakesAt app place before result after → result ≡ Some resumes
      → Taken app path before resumes
  taken_place None result found takes is = let both = sym takes.0 ∙ is in cc
  taken_place (Some place) result found takes is =
      let passes = (position-Some (λ (one : SuspendedContext). bytes_eq one.path path) before place takes.0 found).1 in
      let same = get_or_from_slice_get before place takes.0 takes.0 takes.1 in
      let equal : bytes_eq takes.0.path path ≡ true = ap (λ (one : SuspendedContext). bytes_eq one.path path) (sym same) ∙ passes in
      taken_whole takes.0 (remove before place) (constraints_resumed app takes.0) result refl takes.2 is (place, takes.1) ((bytes_eq-Decides takes.0.path path).0 equal)

-- Nothing appears in the list.
left_whole : (one : SuspendedContext) (rest before after : List SuspendedContext) (outcome : Result Standing EditFault) (result : Option Resumption)
    → TakesWhole one outcome result rest before after → (item : SuspendedContext) → (Among item rest → Among item before) → Among item after → Among item before
left_whole one rest before after (Ok policy) result takes item fewer among = fewer (subst (Among item) takes.3 among)
left_whole one rest before after (Err fault) result takes item fewer among = subst (Among item) takes.1 among

left_place : (app : WebApp) (place : Option ℕ) (before after : List SuspendedContext) (result : Option Resumption) → TakesAt app place before result after
    → (item : SuspendedContext) → Among item after → Among item before
left_place app None before after result takes item among = subst (Among item) takes.1 among
left_place app (Some place) before after result takes item among =
    left_whole takes.0 (remove before place) before after (constraints_resumed app takes.0) result takes.2 item (among_removed before place item) among

module _ {S F L : Type 0} where
  taken_later : (first : Deployment S F L) (deployments : List (Deployment S F L)) (before between : List SuspendedContext) (one : Option Resumption) (others : List (Option Resumption))
      → Takes first before one between
      → ((place : ℕ) (deployment : Deployment S F L) (resumes : Resumption) → slice_get deployments place ≡ Some deployment → slice_get others place ≡ Some (Some resumes)
      → Taken deployment.descriptor deployment.path between resumes)
      → (place : ℕ) (deployment : Deployment S F L) (resumes : Resumption) → slice_get (first ∷ deployments) place ≡ Some deployment
      → slice_get (one ∷ others) place ≡ Some (Some resumes) → Taken deployment.descriptor deployment.path before resumes
  taken_later first deployments before between one others takes rest zero deployment resumes there is =
      let same : first ≡ deployment = cc in
      let taken : one ≡ Some resumes = cc in
      subst (λ (at : Deployment S F L). Taken at.descriptor at.path before resumes) same
      (taken_place first.descriptor first.path before between resumes (place_of_path first.path before) one refl takes taken)
  taken_later first deployments before between one others takes rest (suc place) deployment resumes there is =
      let found = rest place deployment resumes there is in
      record {
        one = found.one;
        among = left_place first.descriptor (place_of_path first.path before) before between one takes found.one found.among;
        path_is = found.path_is;
        policy = found.policy;
        constraints = found.constraints;
        of = found.of;
      }

  taken_at : (deployments : List (Deployment S F L)) (before : List SuspendedContext) (resumptions : List (Option Resumption)) (after : List SuspendedContext)
      → TakesAll deployments before resumptions after → (place : ℕ) (deployment : Deployment S F L) (resumes : Resumption)
      → slice_get deployments place ≡ Some deployment → slice_get resumptions place ≡ Some (Some resumes) → Taken deployment.descriptor deployment.path before resumes
  taken_at [] before resumptions after takes place deployment resumes there is = cc
  taken_at (first ∷ deployments) before resumptions after takes place deployment resumes there is =
      taken_later first deployments before takes.2 takes.0 takes.1 takes.3 (taken_at deployments takes.2 takes.1 after takes.4) place deployment resumes there
      (subst (λ (list : List (Option Resumption)). slice_get list place ≡ Some (Some resumes)) takes.5 is)

module _ {S F L : Type 0} (moving : ComponentSteps S F L) where
  -- A context that was resumed with what was taken for its deployment goes on.
  goes_on : (deployment : Deployment S F L) (context fresh before : ContextState S F L) (suspended : SuspendedContext) (policy : Standing) (resumes : Resumption)
      (noted noted_after : JournalState) → fresh.content ≡ content_of deployment → suspended.path ≡ deployment.path
      → constraints_resumed deployment.descriptor suspended ≡ Ok policy → Remains before suspended → IsOf suspended policy resumes
      → ResumesWith moving resumes fresh noted context noted_after → GoesOnFrom context before
  goes_on deployment context fresh before suspended policy resumes noted noted_after is path resumed remains of so =
      let content : context.content ≡ content_of deployment = so.stays.content ∙ is in
      let app : context.content.app ≡ deployment.descriptor = ap (λ (one : Content). one.app) content in
      let users : resumes.users ≡ before.users = of.users ∙ remains.users in
      let store : resumes.sessions.store ≡ before.store = ap (λ sessions. sessions.store) of.sessions ∙ remains.store in
      record {
        same_path = sym remains.path ∙ path ∙ sym (ap (λ (one : Content). one.context_path) content);
        store = so.store
            ∙ ap (λ (one : Content). resumed_store one.app fresh.users resumes.users resumes.sessions.store) (sym so.stays.content)
            ∙ ap (λ own. resumed_store context.content.app own resumes.users resumes.sessions.store) (sym so.stays.users)
            ∙ ap (λ earlier. resumed_store context.content.app context.users earlier resumes.sessions.store) users
            ∙ ap (λ sessions. resumed_store context.content.app context.users before.users sessions) store;
        constraints = ap (λ (one : WebApp). resumption one.constraints one.rules before.content.app.constraints before.policy.constraints before.policy.greatest) app
            ∙ ap (λ declared. resumption deployment.descriptor.constraints deployment.descriptor.rules declared before.policy.constraints before.policy.greatest) (sym remains.declared)
            ∙ ap (λ constraints. resumption deployment.descriptor.constraints deployment.descriptor.rules suspended.declared constraints before.policy.greatest) (sym remains.constraints)
            ∙ ap (λ greatest. resumption deployment.descriptor.constraints deployment.descriptor.rules suspended.declared suspended.constraints greatest) (sym remains.greatest)
            ∙ resumed ∙ ap Ok (sym (so.stays.policy ∙ of.policy_is));
      }

  -- A context that was started, and did not resume, is new.
  is_new : (deployment : Deployment S F L) (context : ContextState S F L) → context.content ≡ content_of deployment
      → context.policy ≡ declared_policy deployment.descriptor → context.store ≡ no_sessions deployment.descriptor → IsNew context
  is_new deployment context content policy store =
      let app : deployment.descriptor ≡ context.content.app = sym (ap (λ (one : Content). one.app) content) in
      record { store = store ∙ ap no_sessions app; constraints = policy ∙ ap declared_policy app }

  pub are_new : (deployments : List (Deployment S F L)) (before : JournalState) (contexts : List (ContextState S F L)) (after : JournalState)
      → DeploysAll moving deployments before contexts after → (place : ℕ) (context : ContextState S F L) → slice_get contexts place ≡ Some context → IsNew context
  are_new deployments before contexts after deploys place context there =
      let own = of_deployment moving deployments before contexts after deploys place context there in
      is_new own.deployment context own.content own.policy own.store

  pub contexts_go_on : (W : Type 0) → ContextsGoOn moving W
  contexts_go_on W before parts suspension stopped hands deployments words left noted noted_after container starts place context there =
      let resumed : slice_get starts.resumed place ≡ Some context = sym (ap (λ (at : State (ContextState S F L) W). slice_get at.world.contexts place) starts.state) ∙ there in
      let at = at_place moving starts.resumptions starts.contexts starts.between starts.resumed noted_after starts.resumes place context resumed in
      let own = of_deployment moving deployments noted starts.contexts starts.between starts.deploys place at.fresh at.there in
      elim at.how [
        | inl same ↦ inl (subst IsNew (sym same) (is_new own.deployment at.fresh own.content own.policy own.store))
        | inr went ↦
            let taken = taken_at deployments suspension.contexts.items starts.resumptions left starts.takes place own.deployment went.0 own.there went.1 in
            let first = of_context moving before.world.contexts _ parts suspension.contexts.items stopped hands.contexts taken.one taken.among in
            inr (
              first.place,
              first.context,
              first.there,
              goes_on own.deployment context at.fresh first.context taken.one taken.policy went.0 went.2 went.3 own.content taken.path_is taken.constraints
                  first.remains taken.of went.4,
            )
      ]

-- The caller of a session that went on.
module _ {S F L : Type 0} where
  went_on : (number caller : ℕ) (context before : ContextState S F L) → GoesOnFrom context before → HoldsCaller number caller context.store
      → (old : ℕ) × HoldsCaller number old before.store × (successor context.users before.users old ≡ Some caller)
  went_on number caller context before goes held =
      held_before context.users before.users number caller before.store.sessions (subst (λ (at : Store). HoldsCaller number caller at) goes.store held)

  pub none_held : (number caller : ℕ) (context : ContextState S F L) → IsNew context → HoldsCaller number caller context.store → ⊥
  none_held number caller context new held =
      let empty : list_any (is_held_by number caller) [] ≡ true = subst (λ (at : Store). HoldsCaller number caller at) new.store held in absurd (cc)

pub callers_go_on : {S F L : Type 0} (moving : ComponentSteps S F L) (W : Type 0) → ContextsGoOn moving W → CallersGoOn moving W
callers_go_on {S} {F} {L} moving W law before parts suspension stopped hands deployments words left noted noted_after container starts place number caller context there held =
    elim (law before parts suspension stopped hands deployments words left noted noted_after container starts place context there) [
      | inl new ↦ absurd (none_held number caller context new held)
      | inr from ↦
          let on = went_on number caller context from.1 from.3 held in
          record {
            place = from.0;
            before = from.1;
            there = from.2;
            same_path = from.3.same_path;
            old = on.0;
            held = on.1;
            is_user = on.2;
          }
    ]
