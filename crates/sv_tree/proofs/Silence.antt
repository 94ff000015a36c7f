-- Programs that call no component.
use Rattle.std.specs.Prelude.{codes, length}
use Rattle.std.proofs.Common.{◌≡◌, inl, inr, ℕ, List, [], ◌++◌, Option, None, Some, ap, ◌∙◌}
use Rattle.sv_component.specs.Runs.{Record}
use Rattle.sv_exchange.specs.Changing.{Change, SetHeader, SetStatus, Write, has_room}
use Rattle.sv_exchange.specs.Dispatches.{is_within_include}
use Rattle.sv_mapping.specs.declared.kind.Kind.{Kind}
use Rattle.sv_mapping.specs.declared.kind.Kind.TheVariants as kinds
use Rattle.sv_tree.specs.Does.{Does, ◌>>=◌, ◌>>◌, becomes, choose, gives, makes, tries}
use Rattle.sv_tree.specs.Endings as endings
use Rattle.sv_tree.specs.Faults.{fault_name}
use Rattle.sv_tree.specs.Files as files
use Rattle.sv_tree.specs.Filters as filters
use Rattle.sv_tree.specs.Site.{Resource, Files, FileAnswer, File, Redirect, Missing, NotAllowed, Site, name_of}
use Rattle.sv_tree.specs.State.{KeptError, KeptField, State, on_exchange, with_kept}
use Rattle.sv_tree.specs.Tree.{last}
use Rattle.sv_tree.specs.declared.finished.DispatchFault.{DispatchFault}
use Rattle.sv_tree.specs.declared.finished.DispatchFault.TheVariants.{MissingInclude, TooLarge}
use Rattle.sv_tree.specs.declared.finished.Finished.{Finished}
use Rattle.sv_tree.specs.declared.finished.Finished.TheVariants.{Done, Error, Failed}
use Rattle.sv_tree.specs.declared.limits.TheConstants.{FOUND, INTERNAL_SERVER_ERROR, METHOD_NOT_ALLOWED, NOT_FOUND}
use Rattle.sv_tree.proofs.Doing.{chosen_then}
use Rattle.sv_message.specs.Phrases.{phrase_of}

abbrev pub Silent : {A : Type 0} → Does A → Type 0
Silent {A} does = (x y : State) (r : List Record) (result : Option A) → does x r y result → r ≡ []

pub gives_silent : {A : Type 0} (value : A) → Silent (gives value)
gives_silent value x y r result h = h.0

pub then_silent : {A B : Type 0} (first : Does A) (next : A → Does B) → Silent first → ((value : A) → Silent (next value)) → Silent (first >>= next)
then_silent first next one two x y r result (inl t) =
    t.is_joined ∙ ap (λ s. t.front ++ s) (two t.given t.between y t.back result t.goes_on) ∙ ap (λ s. s ++ []) (one x t.between t.front (Some t.given) t.begins)
then_silent first next one two x y r result (inr t) = one x y r None t.0

tries_silent : (change : State → State) → Silent (tries change)
tries_silent change x y r result h = h.0

pub fails_silent : (site : Site) (resource : Resource) (kind text : List ℕ) → Silent (endings.fails site resource kind text)
fails_silent site resource kind text =
    let kept : KeptError = record { status = INTERNAL_SERVER_ERROR; text = text; servlet = Some (name_of site resource); field = None } in
    then_silent (endings.keeps kept) (λ _. gives (Failed kind text)) (tries_silent (with_kept kept)) (λ _. gives_silent (Failed kind text))

pub faults_silent : (site : Site) (resource : Resource) (fault : DispatchFault) → Silent (endings.faults site resource fault)
faults_silent site resource fault = fails_silent site resource (fault_name fault) (fault_name fault)

pub errs_silent : (site : Site) (resource : Resource) (status : ℕ) (text : List ℕ) (field : Option KeptField)
    → Silent (endings.errs site resource status text field)
errs_silent site resource status text field x y r result h =
    let kept : KeptError = record { status = status; text = text; servlet = Some (name_of site resource); field = field } in
    chosen_then (is_within_include x.exchange) (gives Done) (endings.keeps kept >> gives (Error status text)) x y r result
    (λ _ done. done.0)
    (λ _ done. then_silent (endings.keeps kept) (λ _. gives (Error status text)) (tries_silent (with_kept kept)) (λ _. gives_silent (Error status text)) x y r result done)
    h

pub behind_silent : (passed : List ℕ) (ending : Does Finished) → Silent ending → Silent (filters.ends_behind passed ending)
behind_silent passed ending h =
    then_silent ending (λ result. gives record { passed = passed; ended = Some result }) h (λ result. gives_silent record { passed = passed; ended = Some result })

pub last_silent : (ending : Does Finished) → Silent ending → Silent (last ending)
last_silent ending h = then_silent ending (λ result. gives (Some result)) h (λ result. gives_silent (Some result))

pub makes_silent : (change : Change) → Silent (makes change)
makes_silent change x y r result h = h.0

sends_silent : (site : Site) (content_type bytes : List ℕ) → Silent (files.Sends site content_type bytes)
sends_silent site content_type bytes =
    let typed = SetHeader (codes "content-type") content_type in
    then_silent (makes typed) (λ _ state. choose (has_room (length bytes) state.exchange) (makes (Write bytes) >> gives Done) (endings.faults site Files TooLarge) state)
    (makes_silent typed)
    (λ _ x y r result h. chosen_then (has_room (length bytes) x.exchange) (makes (Write bytes) >> gives Done) (endings.faults site Files TooLarge) x y r result
    (λ _ done. then_silent (makes (Write bytes)) (λ _. gives Done) (makes_silent (Write bytes)) (λ _. gives_silent Done) x y r result done)
    (λ _ done. faults_silent site Files TooLarge x y r result done) h)

sends_to_silent : (site : Site) (location : List ℕ) → Silent (files.SendsTo site location)
sends_to_silent site location =
    let found = SetStatus FOUND in
    let located = SetHeader (codes "location") location in
    then_silent (becomes (on_exchange files.emptied)) (λ _. makes found >> (makes located >> gives Done)) (λ x y r result h. h.0)
    (λ _. then_silent (makes found) (λ _. makes located >> gives Done) (makes_silent found)
    (λ _. then_silent (makes located) (λ _. gives Done) (makes_silent located) (λ _. gives_silent Done)))

misses_silent : (site : Site) (kind : Kind) → Silent (files.Misses site kind)
misses_silent site kinds.Include = faults_silent site Files MissingInclude
misses_silent site kinds.Request = errs_silent site Files NOT_FOUND (phrase_of NOT_FOUND) None
misses_silent site kinds.Forward = errs_silent site Files NOT_FOUND (phrase_of NOT_FOUND) None
misses_silent site kinds.Error = errs_silent site Files NOT_FOUND (phrase_of NOT_FOUND) None

pub filed_silent : (site : Site) (kind : Kind) (answer : FileAnswer) → Silent (files.Filed site kind answer)
filed_silent site kind (File content_type bytes) = sends_silent site content_type bytes
filed_silent site kind (Redirect location) = sends_to_silent site location
filed_silent site kind Missing = misses_silent site kind
filed_silent site kind NotAllowed = errs_silent site Files METHOD_NOT_ALLOWED (phrase_of METHOD_NOT_ALLOWED) (Some record { name = codes "allow"; value = codes "GET, HEAD" })
