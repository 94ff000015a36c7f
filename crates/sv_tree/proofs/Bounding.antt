-- The calls for a request, with its error page, are bounded.
use Rattle.std.specs.Prelude.{codes, length}
use Rattle.std.proofs.Common.{◌≡◌, inl, ℕ, ◌+◌, ◌≤◌, Bool, true, List, [], Option, None, Some, refl, sym, subst, arith, lit≤, zero-add}
use Rattle.sv_component.specs.Runs.{Record}
use Rattle.sv_exchange.specs.Changing.{SetHeader, SetStatus, Write, answer, left_by}
use Rattle.sv_exchange.specs.Keeping.{broken_off}
use Rattle.sv_mapping.specs.declared.kind.Kind.{Kind}
use Rattle.sv_mapping.specs.declared.kind.Kind.TheVariants as kinds
use Rattle.sv_tree.specs.Does.{Does, ◌>>=◌, ◌>>◌, becomes, makes, wants_memory}
use Rattle.sv_tree.specs.Endings.{keeps}
use Rattle.sv_tree.specs.Laws.{AreWithin, RequestsAreBounded, count_all}
use Rattle.sv_tree.specs.Served as served
use Rattle.sv_tree.specs.Served.{Served, kept_field, plain_text, reset}
use Rattle.sv_tree.specs.Site.{Site}
use Rattle.sv_tree.specs.State.{KeptError, KeptField, State, on_exchange}
use Rattle.sv_tree.specs.Tree.{Tree}
use Rattle.sv_tree.specs.declared.finished.Finished.{Finished}
use Rattle.sv_tree.specs.declared.finished.Finished.TheVariants.{Done, Error, Failed}
use Rattle.sv_tree.specs.declared.limits.TheConstants.{INTERNAL_SERVER_ERROR, MAX_CALLS, MAX_NESTING}
use Rattle.sv_tree.proofs.Changing.{made_account, made_unchanged}
use Rattle.sv_tree.proofs.Counting as counting
use Rattle.sv_tree.proofs.Counting.{Counts, calls_are_counted, none_more}
use Rattle.sv_tree.proofs.Doing.{chosen_then}
use Rattle.sv_tree.proofs.Keeping.{Keeps, Steps, becomes_keeps, came, gives_keeps, keeps_keeps, makes_keeps, then_keeps, tries_keeps, wants_keeps}
use Rattle.sv_tree.proofs.Nesting.{Nests, nests, nests_tree}
use Rattle.sv_uri.specs.declared.path.Canon.{Canon}
use Rattle.sv_message.specs.Phrases.{phrase_of}

module _ (site : Site) (Q : ℕ → State → List Record → State → Bool → Type 0) (room : ℕ) (Own : Option KeptField → Type 0) where
  -- What the container does for an error keeps the property. `Own` is what the property says of the field of the kept
  -- error.
  pub record ErrorSteps : Type 0 where
    pub resets : (x : State) → Q room x [] (on_exchange reset x) true
    pub breaks : (x : State) → Q room x [] (on_exchange broken_off x) true
    pub none : Own None
    pub sets : (x : State) (field : KeptField) → Own (Some field)
        → Q room x [] (on_exchange (λ e. left_by (answer (SetHeader field.name field.value) e) (SetHeader field.name field.value) e) x) true
    pub owns : (x y : State) (r : List Record) (b : Bool) → (Own (kept_field x.exchange.kept) → Q room x r y b) → Q room x r y b

-- A property that says nothing of the field of the kept error.
abbrev pub AnyField : Option KeptField → Type 0
AnyField field = Unit {0}

module _ (site : Site) (Q : ℕ → State → List Record → State → Bool → Type 0) (law : Steps site Q) (room : ℕ)
    (Own : Option KeptField → Type 0) (errors : ErrorSteps site Q room Own)
    (pages : (page : Canon) → Keeps site Q room (Tree site MAX_NESTING kinds.Error page)) where
  sets_keeps : (field : Option KeptField) → Own field → Keeps site Q room (served.sets field)
  sets_keeps None own = gives_keeps site Q law room tt
  sets_keeps (Some field) own =
      tries_keeps site Q law room (on_exchange (λ e. left_by (answer (SetHeader field.name field.value) e) (SetHeader field.name field.value) e))
      (λ x. errors.sets x field own)

  resets_keeps : (status : ℕ) (field : Option KeptField) → Own field → Keeps site Q room (served.Resets status field)
  resets_keeps status field own =
      then_keeps site Q law room (becomes (on_exchange reset)) (λ _. makes (SetStatus status) >> served.sets field)
      (becomes_keeps site Q law room (on_exchange reset) errors.resets)
      (λ _. then_keeps site Q law room (makes (SetStatus status)) (λ _. served.sets field) (makes_keeps site Q law room (SetStatus status) tt) (λ _. sets_keeps field own))

  plain_keeps : (status : ℕ) (field : Option KeptField) → Own field → Keeps site Q room (served.Plain status field)
  plain_keeps status field own =
      let typed = SetHeader (codes "content-type") (codes "text/plain") in
      let written = Write (plain_text status) in
      then_keeps site Q law room (served.Resets status field) (λ _. makes typed >> makes written) (resets_keeps status field own)
      (λ _. then_keeps site Q law room (makes typed) (λ _. makes written) (makes_keeps site Q law room typed (inl refl)) (λ _. makes_keeps site Q law room written tt))

  unless_keeps : (next : Does (Unit {0})) → Keeps site Q room next → Keeps site Q room (served.unless_committed next)
  unless_keeps next h x y r result done =
      chosen_then x.exchange.committed served.breaks next x y r result
      (λ _ broke. becomes_keeps site Q law room (on_exchange broken_off) errors.breaks x y r result broke) (λ _ made. h x y r result made) done

  shown_keeps : (status : ℕ) (field : Option KeptField) → Own field → (finished : Finished) → Keeps site Q room (served.Shown status field finished)
  shown_keeps status field own Done = gives_keeps site Q law room tt
  shown_keeps status field own (Error other text) = unless_keeps (served.Plain status field) (plain_keeps status field own)
  shown_keeps status field own (Failed kind text) = unless_keeps (served.Plain status field) (plain_keeps status field own)

  pages_keep : (status : ℕ) (field : Option KeptField) → Own field → (page : Option Canon) → Keeps site Q room (served.Pages site status field page)
  pages_keep status field own None = plain_keeps status field own
  pages_keep status field own (Some page) =
      then_keeps site Q law room (served.Resets status field) (λ _. Tree site MAX_NESTING kinds.Error page >>= served.Shown status field) (resets_keeps status field own)
      (λ _. then_keeps site Q law room (Tree site MAX_NESTING kinds.Error page) (served.Shown status field) (pages page) (shown_keeps status field own))

  shows_keep : (status : ℕ) (kind : Option (List ℕ)) → Keeps site Q room (served.Shows site status kind)
  shows_keep status kind =
      let next = (λ (state : State). served.Pages site status (kept_field state.exchange.kept) (site.page status kind) state) in
      unless_keeps (wants_memory >> next)
      (then_keeps site Q law room wants_memory (λ _. next) (wants_keeps site Q law room)
      (λ _ x y r result h. errors.owns x y r (came result)
      (λ own. pages_keep status (kept_field x.exchange.kept) own (site.page status kind) x y r result h)))

  settled_keeps : (finished : Finished) → Keeps site Q room (served.Settled site finished)
  settled_keeps Done = gives_keeps site Q law room tt
  settled_keeps (Error status text) = shows_keep status None
  settled_keeps (Failed kind text) = shows_keep INTERNAL_SERVER_ERROR (Some kind)

  pub served_keeps : (kind : Kind) (canon : Canon) → Keeps site Q room (Tree site MAX_NESTING kind canon) → Keeps site Q room (Served site kind canon)
  served_keeps kind canon tree = then_keeps site Q law room (Tree site MAX_NESTING kind canon) (served.Settled site) tree settled_keeps

  pub error_keeps : (status : ℕ) (page : Option Canon) → Keeps site Q room (served.ShowsError site status page)
  error_keeps status page =
      let kept : KeptError = record { status = status; text = phrase_of status; servlet = None; field = None } in
      let paged = served.Pages site status None page in
      then_keeps site Q law room (keeps kept) (λ _. served.unless_committed paged) (keeps_keeps site Q law room kept tt)
      (λ _. unless_keeps paged (pages_keep status None errors.none page))

counts_errors : (site : Site) → ErrorSteps site Counts MAX_NESTING AnyField
counts_errors site = record {
  resets = λ x. (sym (zero-add x.exchange.calls), λ below. below);
  breaks = λ x. (sym (zero-add x.exchange.calls), λ below. below);
  none = tt;
  sets = λ x field own. none_more _ x.exchange.calls (made_account (SetHeader field.name field.value) x.exchange).0;
  owns = λ x y r b kept. kept tt;
}

nests_errors : (site : Site) → ErrorSteps site Nests MAX_NESTING AnyField
nests_errors site = record {
  resets = λ x. (λ came. refl, tt);
  breaks = λ x. (λ came. refl, tt);
  none = tt;
  sets = λ x field own. (λ came. (made_unchanged (SetHeader field.name field.value) x.exchange).0.dispatches, tt);
  owns = λ x y r b kept. kept tt;
}

pub requests_are_bounded : (site : Site) → RequestsAreBounded site
requests_are_bounded site kind canon x y r result fresh outermost h =
    let counted = served_keeps site Counts (counting.law site) MAX_NESTING AnyField (counts_errors site)
    (λ page. calls_are_counted site MAX_NESTING kinds.Error page) kind canon (calls_are_counted site MAX_NESTING kind canon) x y r result h in
    let nested = served_keeps site Nests (nests site) MAX_NESTING AnyField (nests_errors site)
    (λ page. nests_tree site MAX_NESTING kinds.Error page) kind canon (nests_tree site MAX_NESTING kind canon) x y r result h in
    let sum : y.exchange.calls ≡ count_all r + x.exchange.calls = counted.0 in
    let below : y.exchange.calls ≤ MAX_CALLS = counted.1 (subst (λ n. n ≤ MAX_CALLS) (sym fresh) (lit≤ tt)) in (
      omega (arith, sum, below, fresh),
      subst (λ dispatches. AreWithin (length dispatches + MAX_NESTING) r) outermost nested.1,
    )
