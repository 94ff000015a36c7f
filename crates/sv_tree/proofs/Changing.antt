-- What changing calls leave unchanged.
use Rattle.std.proofs.Common.{◌≡◌, ◌||◌, Bool, true, false, List, [], ◌∷◌, ◌++◌, refl, sym, ap, ◌∙◌, if◌then◌else◌}
use Rattle.std.specs.List.{list_any}
use Rattle.std.proofs.lemmas.List.Folds.{list_any-append}
use Rattle.sv_exchange.specs.Changing.{Change, Reaches, answer, left_by}
use Rattle.sv_exchange.specs.Dispatches.{Leaves, entered, error_in, is_include, is_include_kind, is_within_include}
use Rattle.sv_exchange.specs.Keeping as keeping
use Rattle.sv_exchange.specs.Keeping.{SameHead, counted}
use Rattle.sv_exchange.proofs.Including.{changes_keep_head, made_head}
use Rattle.sv_exchange.proofs.Keeping.{changes_keep, made_request}
use Rattle.sv_mapping.specs.declared.kind.Kind.{Kind}
use Rattle.sv_mapping.specs.declared.kind.Kind.TheVariants as kinds
use Rattle.sv_tree.specs.Asking.{without_events}
use Rattle.sv_tree.specs.Files.{emptied}
use Rattle.sv_tree.specs.Laws.{KeepsRequest, is_included}
use Rattle.sv_tree.specs.Site.{Site, begun, emptied_for, paths_in}
use Rattle.sv_tree.specs.State.{Exchange}
use Rattle.sv_uri.specs.declared.path.Canon.{Canon}

-- The request is the same. Within an include, so are the status and the header fields.
abbrev pub Unchanged : Exchange → Exchange → Type 0
Unchanged x y = KeepsRequest x y × (is_within_include x ≡ true → SameHead x y)

pub same_request : (x y : Exchange) → y ≡ x → KeepsRequest x y
same_request x y same = record {
  method = ap (λ e. e.method) same;
  context_path = ap (λ e. e.context_path) same;
  cookie_settings = ap (λ e. e.cookie_settings) same;
  request_fields = ap (λ e. e.request_fields) same;
  body = ap (λ e. e.body) same;
  moment = ap (λ e. e.moment) same;
  reads_chunks = ap (λ e. e.reads_chunks) same;
  client = ap (λ e. e.client) same;
  dispatches = ap (λ e. e.dispatches) same;
}

pub request_then : (x y z : Exchange) → KeepsRequest x y → KeepsRequest y z → KeepsRequest x z
request_then x y z one two = record {
  method = two.method ∙ one.method;
  context_path = two.context_path ∙ one.context_path;
  cookie_settings = two.cookie_settings ∙ one.cookie_settings;
  request_fields = two.request_fields ∙ one.request_fields;
  body = two.body ∙ one.body;
  moment = two.moment ∙ one.moment;
  reads_chunks = two.reads_chunks ∙ one.reads_chunks;
  client = two.client ∙ one.client;
  dispatches = two.dispatches ∙ one.dispatches;
}

pub still_within : (x y : Exchange) → y.dispatches ≡ x.dispatches → is_within_include x ≡ true → is_within_include y ≡ true
still_within x y same h = ap (λ dispatches. list_any is_include dispatches) same ∙ h

pub unchanged_same : (x : Exchange) → Unchanged x x
unchanged_same x = (same_request x x refl, λ h. (refl, refl))

-- The same request, once the listeners are notified.
request_by : (x y : Exchange) → keeping.SameRequest x y → KeepsRequest x (without_events y)
request_by x y same = record {
  method = same.method;
  context_path = same.context_path;
  cookie_settings = same.cookie_settings;
  request_fields = same.request_fields;
  body = same.body;
  moment = same.moment;
  reads_chunks = same.reads_chunks;
  client = same.client;
  dispatches = same.dispatches;
}

pub made_unchanged : (change : Change) (x : Exchange) → Unchanged x (left_by (answer change x) change x)
made_unchanged change x =
    let same = made_request change x in (
      record {
        method = same.method;
        context_path = same.context_path;
        cookie_settings = same.cookie_settings;
        request_fields = same.request_fields;
        body = same.body;
        moment = same.moment;
        reads_chunks = same.reads_chunks;
        client = same.client;
        dispatches = same.dispatches;
      },
      made_head change x,
    )

-- A component leaves the exchange unchanged in this sense, once the listeners are notified.
pub unchanged : (x y : Exchange) → Reaches x y → Unchanged x (without_events y)
unchanged x y changing = (request_by x y (changes_keep x y changing), changes_keep_head x y changing)

-- The same for a counted call of a component.
pub called_unchanged : (x y : Exchange) → Reaches (counted x) y → Unchanged x (without_events y)
called_unchanged x y changing =
    let same = changes_keep (counted x) y changing in (
      record {
        method = same.method;
        context_path = same.context_path;
        cookie_settings = same.cookie_settings;
        request_fields = same.request_fields;
        body = same.body;
        moment = same.moment;
        reads_chunks = same.reads_chunks;
        client = same.client;
        dispatches = same.dispatches;
      },
      changes_keep_head (counted x) y changing,
    )

-- The count of calls and the kept error are the same.
abbrev pub SameAccount : Exchange → Exchange → Type 0
SameAccount x y = (y.calls ≡ x.calls) × (y.kept ≡ x.kept)

pub changes_account : (x y : Exchange) → Reaches x y → SameAccount x y
changes_account x y changing = let same = changes_keep x y changing in (same.calls, same.kept)

pub made_account : (change : Change) (x : Exchange) → SameAccount x (left_by (answer change x) change x)
made_account change x = let same = made_request change x in (same.calls, same.kept)

unless_account : (committed : Bool) (x : Exchange) → SameAccount x (if committed then x else record x { buffer = [] })
unless_account true x = (refl, refl)
unless_account false x = (refl, refl)

pub emptied_account : (x : Exchange) → SameAccount x (emptied x)
emptied_account x = unless_account x.committed x

pub begun_account : (site : Site) (kind : Kind) (canon : Canon) (x : Exchange) → SameAccount x (begun site kind canon x)
begun_account site kinds.Request canon x = (refl, refl)
begun_account site kinds.Forward canon x = (refl, refl)
begun_account site kinds.Include canon x = (refl, refl)
begun_account site kinds.Error canon x = (refl, refl)

pub left_account : (y z : Exchange) → Leaves y z → SameAccount y z
left_account y z left = (sym (ap (λ e. e.calls) left.1), sym (ap (λ e. e.kept) left.1))

-- What the beginning and the end of a dispatch leave unchanged.
pub emptied_request : (kind : Kind) (x : Exchange) → KeepsRequest x (emptied_for kind x)
emptied_request kinds.Request x = same_request x x refl
emptied_request kinds.Forward x = record { method = refl; context_path = refl; cookie_settings = refl; request_fields = refl; body = refl; moment = refl; reads_chunks = refl; client = refl; dispatches = refl }
emptied_request kinds.Include x = same_request x x refl
emptied_request kinds.Error x = same_request x x refl

pub emptied_head : (kind : Kind) (x : Exchange) → SameHead x (emptied_for kind x)
emptied_head kinds.Request x = (refl, refl)
emptied_head kinds.Forward x = (refl, refl)
emptied_head kinds.Include x = (refl, refl)
emptied_head kinds.Error x = (refl, refl)

unless : (committed : Bool) (x : Exchange) → Unchanged x (if committed then x else record x { buffer = [] })
unless true x = unchanged_same x
unless false x =
    (record { method = refl; context_path = refl; cookie_settings = refl; request_fields = refl; body = refl; moment = refl; reads_chunks = refl; client = refl; dispatches = refl }, λ h. (refl, refl))

pub emptied_unchanged : (x : Exchange) → Unchanged x (emptied x)
emptied_unchanged x = unless x.committed x

-- The current dispatches after one of this kind has begun.
pub begun_dispatches : (site : Site) (kind : Kind) (canon : Canon) (x : Exchange)
    → (begun site kind canon x).dispatches ≡ x.dispatches ++ (record { kind = kind; paths = paths_in site canon x; error = error_in kind x.kept }) ∷ []
begun_dispatches site kind canon x = (emptied_request kind (entered kind (paths_in site canon x) x)).dispatches

pub left_dispatches : (y z : Exchange) (left : Leaves y z) → y.dispatches ≡ z.dispatches ++ left.0 ∷ []
left_dispatches y z left = ap (λ e. e.dispatches) left.1

pub without_last : {A : Type 0} → List A → List A
without_last [] = []
without_last (x ∷ []) = []
without_last (x ∷ (x' ∷ xs)) = x ∷ without_last (x' ∷ xs)

pub without_added : {A : Type 0} (xs : List A) (a : A) → without_last (xs ++ a ∷ []) ≡ xs
unfolding without_last
without_added [] a = refl
without_added (x ∷ []) a = refl
without_added (x ∷ (x' ∷ xs)) a = ap (λ ys. x ∷ ys) (without_added (x' ∷ xs) a)

pub same_front : {A : Type 0} (xs ys : List A) (a b : A) → xs ++ a ∷ [] ≡ ys ++ b ∷ [] → xs ≡ ys
same_front xs ys a b h = sym (without_added xs a) ∙ ap without_last h ∙ without_added ys b

-- The current dispatches are the same before and after a dispatch.
pub same_dispatches : (site : Site) (kind : Kind) (canon : Canon) (x y z : Exchange) → y.dispatches ≡ (begun site kind canon x).dispatches → Leaves y z
    → z.dispatches ≡ x.dispatches
same_dispatches site kind canon x y z same left =
    same_front z.dispatches x.dispatches left.0 (record { kind = kind; paths = paths_in site canon x; error = error_in kind x.kept })
    (sym (left_dispatches y z left) ∙ same ∙ begun_dispatches site kind canon x)

-- An include is under way throughout an include and the dispatches nested in it.
or_first : (a b : Bool) → b ≡ true → (b || a) ≡ true
or_first a true h = refl
or_first a false h = cc

or_second : (a b : Bool) → b ≡ true → (a || b) ≡ true
or_second true b h = refl
or_second false b h = h

either_within : (outer kind : Bool) → (kind || outer) ≡ true → (outer || (kind || false)) ≡ true
either_within true kind h = refl
either_within false true h = refl
either_within false false h = cc

pub within_begun : (site : Site) (kind : Kind) (canon : Canon) (x : Exchange) → is_included kind x ≡ true → is_within_include (begun site kind canon x) ≡ true
within_begun site kind canon x h =
    ap (list_any is_include) (begun_dispatches site kind canon x)
    ∙ list_any-append is_include x.dispatches ((record { kind = kind; paths = paths_in site canon x; error = error_in kind x.kept }) ∷ [])
    ∙ either_within (is_within_include x) (is_include_kind kind) h

pub within_inner : (kind : Kind) (x : Exchange) → is_within_include x ≡ true → is_included kind x ≡ true
within_inner kind x h = or_second (is_include_kind kind) (is_within_include x) h

-- An include around a dispatch is also around everything nested in it.
pub within_left : (y z : Exchange) → Leaves y z → is_within_include z ≡ true → is_within_include y ≡ true
within_left y z left h =
    ap (list_any is_include) (left_dispatches y z left)
    ∙ list_any-append is_include z.dispatches (left.0 ∷ [])
    ∙ or_first (list_any is_include (left.0 ∷ [])) (is_within_include z) h
