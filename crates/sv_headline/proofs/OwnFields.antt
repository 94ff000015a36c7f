-- The fields that a proxy reads, while requests are handed over: each is unset, or the request's own.
use Rattle.std.proofs.Common.{◌≡◌, ◌⊎◌, inl, inr, ℕ, Bool, true, false, not, ◌&&◌, List, [], ◌∷◌, ◌++◌, Option, None, Some, Result, Ok, Err, refl, sym, ap, ◌∙◌, subst, if◌then◌else◌}
use Rattle.std.specs.List.{AllByRecursion}
use Rattle.std.specs.Option.{option_map}
use Rattle.std.specs.Prelude.{codes}
use Rattle.sv_application.specs.HandingOver.{IsCut, Makes, all_fields, caller_fields, cookie_fields, first_answer, request_fields}
use Rattle.sv_application.specs.declared.handing_over.CallerNames.{CallerNames}
use Rattle.sv_application.specs.declared.handing_over.HandedOver.{HandedOver}
use Rattle.sv_exchange.specs.Changing.{Change, SetHeader, SetStatus, AddHeader, Write, SetAttribute, Flush, SessionOpen, SessionSet, SessionRemove, SessionEnd, Logout, after_all, answer, is_open, left_by}
use Rattle.sv_exchange.specs.Fields.{is_field, is_reserved_field, set_field}
use Rattle.sv_exchange.specs.State.{State}
use Rattle.sv_exchange.specs.declared.exchange_fault.ExchangeFault.{ExchangeFault}
use Rattle.sv_exchange.specs.declared.exchange_fault.ExchangeFault.TheVariants as faults
use Rattle.sv_message.specs.declared.field.Field.{Field}
use Rattle.sv_text.specs.Steps.{◌>>=◌}
use Rattle.sv_application.specs.ProxyFields.{ProxyFields, proxy_fields}
use Rattle.sv_headline.proofs.ProxyFields.{caller_set, cookies_set, internal_set, roles_set, target_set}

-- ---- lists

head_of : {A : Type 0} {x y : A} {xs ys : List A} → x ∷ xs ≡ y ∷ ys → x ≡ y
head_of same = cc

tail_of : {A : Type 0} {x y : A} {xs ys : List A} → x ∷ xs ≡ y ∷ ys → xs ≡ ys
tail_of same = cc

no_more : {A : Type 0} (made : List A) (next : A) (others : List A) → [] ≡ made ++ next ∷ others → ⊥
no_more [] next others same = cc
no_more (one ∷ made) next others same = cc

-- ---- setting a field

-- a call that sets a field of this kind leaves the fields, or sets it
set_or_left : (said : Result Bool ExchangeFault) (name value : List ℕ) (x : State)
    → (left_by said (SetHeader name value) x ≡ x) ⊎ (left_by said (SetHeader name value) x ≡ record x { fields = set_field name value x.fields })
set_or_left (Ok true) name value x = inr refl
set_or_left (Ok false) name value x = inl refl
set_or_left (Err fault) name value x = inl refl

abbrev pub SetsField : Change → Type 0
SetsField (SetHeader name value) = is_reserved_field name ≡ false
SetsField change = ⊥

-- the fields after they were all set
put_all : List Change → List Field → List Field
put_all [] fields = fields
put_all (SetHeader name value ∷ changes) fields = put_all changes (set_field name value fields)
put_all (change ∷ changes) fields = put_all changes fields

put_both : (first second : List Change) (fields : List Field) → put_all (first ++ second) fields ≡ put_all second (put_all first fields)
unfolding put_all
put_both [] second fields = refl
put_both (SetHeader name value ∷ first) second fields = put_both first second (set_field name value fields)
put_both (SetStatus status ∷ first) second fields = put_both first second fields
put_both (AddHeader name value ∷ first) second fields = put_both first second fields
put_both (Write bytes ∷ first) second fields = put_both first second fields
put_both (SetAttribute name value ∷ first) second fields = put_both first second fields
put_both (Flush ∷ first) second fields = put_both first second fields
put_both (SessionOpen ∷ first) second fields = put_both first second fields
put_both (SessionSet name value ∷ first) second fields = put_both first second fields
put_both (SessionRemove name ∷ first) second fields = put_both first second fields
put_both (SessionEnd ∷ first) second fields = put_both first second fields
put_both (Logout ∷ first) second fields = put_both first second fields

-- nothing is set once the response is committed, or within an include
closed_one : (name value : List ℕ) (x : State) → is_open x ≡ false → left_by (answer (SetHeader name value) x) (SetHeader name value) x ≡ x
closed_one name value x closed =
    ap (λ open_is. left_by (if (open_is && not (is_reserved_field name)) then (if is_field name value then Ok true else Err faults.BadHeader) else Ok false) (SetHeader name value) x) closed

all_closed : (changes : List Change) (x : State) → AllByRecursion SetsField changes → is_open x ≡ false → after_all changes x ≡ x
all_closed [] x sets closed = refl
all_closed (SetHeader name value ∷ changes) x sets closed =
    ap (after_all changes) (closed_one name value x closed) ∙ all_closed changes x sets.1 closed
all_closed (SetStatus status ∷ changes) x sets closed = absurd sets.0
all_closed (AddHeader name value ∷ changes) x sets closed = absurd sets.0
all_closed (Write bytes ∷ changes) x sets closed = absurd sets.0
all_closed (SetAttribute name value ∷ changes) x sets closed = absurd sets.0
all_closed (Flush ∷ changes) x sets closed = absurd sets.0
all_closed (SessionOpen ∷ changes) x sets closed = absurd sets.0
all_closed (SessionSet name value ∷ changes) x sets closed = absurd sets.0
all_closed (SessionRemove name ∷ changes) x sets closed = absurd sets.0
all_closed (SessionEnd ∷ changes) x sets closed = absurd sets.0
all_closed (Logout ∷ changes) x sets closed = absurd sets.0

free_answer : (open_is reserved valid : Bool) → open_is ≡ true → reserved ≡ false
    → (if (open_is && not reserved) then (if valid then Ok true else Err faults.BadHeader) else Ok false) ≡ (if valid then Ok true else Err faults.BadHeader)
free_answer true false valid one two = refl
free_answer true true valid one two = cc
free_answer false reserved valid one two = cc

passed_then : (said : Result Bool ExchangeFault) (later : Result (Unit {0}) ExchangeFault) → said ≡ Ok true → said >>= (λ _. later) ≡ Ok tt → later ≡ Ok tt
passed_then said later is passed = sym (ap (λ it. it >>= (λ _. later)) is) ∙ passed

refused_then : {P : Type 0} (said : Result Bool ExchangeFault) (later : Result (Unit {0}) ExchangeFault) → said ≡ Err faults.BadHeader
    → said >>= (λ _. later) ≡ Ok tt → P
refused_then said later is passed = let no : Err faults.BadHeader ≡ Ok tt = sym (ap (λ it. it >>= (λ _. later)) is) ∙ passed in cc

-- else a field is set if it is valid
open_one : (name value : List ℕ) (later : List Change) (x : State) → is_reserved_field name ≡ false → is_open x ≡ true
    → first_answer (SetHeader name value ∷ later) x ≡ Ok tt
    → (left_by (answer (SetHeader name value) x) (SetHeader name value) x ≡ record x { fields = set_field name value x.fields })
    × (first_answer later (record x { fields = set_field name value x.fields }) ≡ Ok tt)
open_one name value later x free open_is passed =
    by (is_field name value) (free_answer (is_open x) (is_reserved_field name) (is_field name value) open_is free)
  where
    by : (valid : Bool) → answer (SetHeader name value) x ≡ (if valid then Ok true else Err faults.BadHeader)
        → (left_by (answer (SetHeader name value) x) (SetHeader name value) x ≡ record x { fields = set_field name value x.fields })
        × (first_answer later (record x { fields = set_field name value x.fields }) ≡ Ok tt)
    by true is =
        let set : left_by (answer (SetHeader name value) x) (SetHeader name value) x ≡ record x { fields = set_field name value x.fields } =
        ap (λ said. left_by said (SetHeader name value) x) is in (
          set,
          sym (ap (first_answer later) set)
              ∙ passed_then (answer (SetHeader name value) x) (first_answer later (left_by (answer (SetHeader name value) x) (SetHeader name value) x)) is passed,
        )
    by false is =
        refused_then (answer (SetHeader name value) x) (first_answer later (left_by (answer (SetHeader name value) x) (SetHeader name value) x)) is passed

all_open : (changes : List Change) (x : State) → AllByRecursion SetsField changes → is_open x ≡ true → first_answer changes x ≡ Ok tt
    → after_all changes x ≡ record x { fields = put_all changes x.fields }
unfolding put_all
all_open [] x sets open_is passed = refl
all_open (SetHeader name value ∷ changes) x sets open_is passed =
    let one = open_one name value changes x sets.0 open_is passed in
    ap (after_all changes) one.0 ∙ all_open changes (record x { fields = set_field name value x.fields }) sets.1 open_is one.1
all_open (SetStatus status ∷ changes) x sets open_is passed = absurd sets.0
all_open (AddHeader name value ∷ changes) x sets open_is passed = absurd sets.0
all_open (Write bytes ∷ changes) x sets open_is passed = absurd sets.0
all_open (SetAttribute name value ∷ changes) x sets open_is passed = absurd sets.0
all_open (Flush ∷ changes) x sets open_is passed = absurd sets.0
all_open (SessionOpen ∷ changes) x sets open_is passed = absurd sets.0
all_open (SessionSet name value ∷ changes) x sets open_is passed = absurd sets.0
all_open (SessionRemove name ∷ changes) x sets open_is passed = absurd sets.0
all_open (SessionEnd ∷ changes) x sets open_is passed = absurd sets.0
all_open (Logout ∷ changes) x sets open_is passed = absurd sets.0

-- ---- the fields of a request that is handed over

caller_sets : (caller : Option CallerNames) → AllByRecursion SetsField (caller_fields caller)
caller_sets None = tt
caller_sets (Some names) = (refl, (refl, tt))

both_set : (first second : List Change) → AllByRecursion SetsField first → AllByRecursion SetsField second → AllByRecursion SetsField (first ++ second)
both_set [] second one two = two
both_set (change ∷ first) second one two = (one.0, both_set first second one.1 two)

cookies_sets : (cookies : Option (List ℕ)) → AllByRecursion SetsField (cookie_fields cookies)
cookies_sets None = tt
cookies_sets (Some text) = (refl, tt)

request_sets : (request : HandedOver) → AllByRecursion SetsField (request_fields request)
request_sets request =
    (refl, both_set (caller_fields request.caller) (cookie_fields request.cookies) (caller_sets request.caller) (cookies_sets request.cookies))

all_sets : (request : HandedOver) (internal : List ℕ) → AllByRecursion SetsField (all_fields request internal)
all_sets request internal = both_set (request_fields request) (SetHeader (codes "x-accel-redirect") internal ∷ []) (request_sets request) (refl, tt)

abbrev with_caller : Option CallerNames → ProxyFields → ProxyFields
with_caller None shown = shown
with_caller (Some names) shown = record shown { caller = Some names.name; roles = Some names.roles }

abbrev with_cookies : Option (List ℕ) → ProxyFields → ProxyFields
with_cookies None shown = shown
with_cookies (Some text) shown = record shown { cookies = Some text }

caller_put : (caller : Option CallerNames) (fields : List Field) → proxy_fields (put_all (caller_fields caller) fields) ≡ with_caller caller (proxy_fields fields)
unfolding put_all
caller_put None fields = refl
caller_put (Some names) fields =
    roles_set names.roles (set_field (codes "x-application-caller") names.name fields)
    ∙ ap (λ (shown : ProxyFields). record shown { roles = Some names.roles }) (caller_set names.name fields)

cookies_put : (cookies : Option (List ℕ)) (fields : List Field) → proxy_fields (put_all (cookie_fields cookies) fields) ≡ with_cookies cookies (proxy_fields fields)
unfolding put_all
cookies_put None fields = refl
cookies_put (Some text) fields = cookies_set text fields

-- the fields after all were set
all_put : (request : HandedOver) (internal : List ℕ) (fields : List Field)
    → proxy_fields (put_all (all_fields request internal) fields)
    ≡ record (with_cookies request.cookies (with_caller request.caller (record (proxy_fields fields) { target = Some request.target }))) { internal = Some internal }
unfolding put_all
all_put request internal fields =
    let first = set_field (codes "x-application-target") request.target fields in
    let called = put_all (caller_fields request.caller) first in
    ap proxy_fields (put_both (request_fields request) (SetHeader (codes "x-accel-redirect") internal ∷ []) fields)
    ∙ internal_set internal (put_all (request_fields request) fields)
    ∙ ap (λ (shown : ProxyFields). record shown { internal = Some internal })
    (ap proxy_fields (put_both (caller_fields request.caller) (cookie_fields request.cookies) first)
    ∙ cookies_put request.cookies called
    ∙ ap (with_cookies request.cookies)
    (caller_put request.caller first ∙ ap (with_caller request.caller) (target_set request.target fields)))

-- ---- each field is unset, or the request's own

abbrev IsUnsetOr : Option (List ℕ) → Option (List ℕ) → Type 0
IsUnsetOr its found = (found ≡ None) ⊎ (found ≡ its)

abbrev pub own_caller : HandedOver → Option (List ℕ)
own_caller request = option_map (λ names. names.name) request.caller

abbrev pub own_roles : HandedOver → Option (List ℕ)
own_roles request = option_map (λ names. names.roles) request.caller

-- `Known internal`: a call hands the request over to the internal location. `Stays`: no call undoes the login.
module _ (own : HandedOver) (Stays : Type 0) (Known : List ℕ → Type 0) where
  pub record AreAll (shown : ProxyFields) (internal : List ℕ) : Type 0 where
    pub known : Known internal
    pub target : shown.target ≡ Some own.target
    pub cookies : shown.cookies ≡ own.cookies
    pub caller : Stays → shown.caller ≡ own_caller own
    pub roles : Stays → shown.roles ≡ own_roles own

  pub record AreOwn (shown : ProxyFields) : Type 0 where
    pub target : IsUnsetOr (Some own.target) shown.target
    pub cookies : IsUnsetOr own.cookies shown.cookies
    pub caller : Stays → IsUnsetOr (own_caller own) shown.caller
    pub roles : Stays → IsUnsetOr (own_roles own) shown.roles
    pub redirect : (shown.internal ≡ None) ⊎ ((internal : List ℕ) × (shown.internal ≡ Some internal) × AreAll shown internal)

  pub none_are_own : AreOwn (proxy_fields [])
  none_are_own = record { target = inl refl; cookies = inl refl; caller = λ stays. inl refl; roles = λ stays. inl refl; redirect = inl refl }

  -- the request's own target and cookies, and its own caller unless a call undoes the login
  pub record IsOwnRequest (request : HandedOver) : Type 0 where
    pub target : request.target ≡ own.target
    pub cookies : request.cookies ≡ own.cookies
    pub caller : Stays → request.caller ≡ own.caller

  module _ (request : HandedOver) (its : IsOwnRequest request) where
    -- ---- one field after another

    still_all : (shown after : ProxyFields) → after.internal ≡ shown.internal
        → ((internal : List ℕ) → AreAll shown internal → AreAll after internal)
        → (shown.internal ≡ None) ⊎ ((internal : List ℕ) × (shown.internal ≡ Some internal) × AreAll shown internal)
        → (after.internal ≡ None) ⊎ ((internal : List ℕ) × (after.internal ≡ Some internal) × AreAll after internal)
    still_all shown after same keeps (inl none) = inl (same ∙ none)
    still_all shown after same keeps (inr some) = inr (some.0, same ∙ some.1, keeps some.0 some.2)

    target_own : (shown : ProxyFields) → AreOwn shown → AreOwn (record shown { target = Some request.target })
    target_own shown are =
        let is : Some request.target ≡ Some own.target = ap Some its.target in
        record {
          target = inr is;
          cookies = are.cookies;
          caller = are.caller;
          roles = are.roles;
          redirect = still_all shown (record shown { target = Some request.target }) refl
              (λ internal all. record { known = all.known; target = is; cookies = all.cookies; caller = all.caller; roles = all.roles }) are.redirect;
        }

    cookies_own : (text : List ℕ) → request.cookies ≡ Some text → (shown : ProxyFields) → AreOwn shown → AreOwn (record shown { cookies = Some text })
    cookies_own text same shown are =
        let is : Some text ≡ own.cookies = sym same ∙ its.cookies in
        record {
          target = are.target;
          cookies = inr is;
          caller = are.caller;
          roles = are.roles;
          redirect = still_all shown (record shown { cookies = Some text }) refl
              (λ internal all. record { known = all.known; target = all.target; cookies = is; caller = all.caller; roles = all.roles }) are.redirect;
        }

    caller_own : (names : CallerNames) → request.caller ≡ Some names → (shown : ProxyFields) → AreOwn shown → AreOwn (record shown { caller = Some names.name })
    caller_own names same shown are =
        let is : Stays → Some names.name ≡ own_caller own = λ stays. ap (λ caller. option_map (λ (it : CallerNames). it.name) caller) (sym same ∙ its.caller stays) in
        record {
          target = are.target;
          cookies = are.cookies;
          caller = λ stays. inr (is stays);
          roles = are.roles;
          redirect = still_all shown (record shown { caller = Some names.name }) refl
              (λ internal all. record { known = all.known; target = all.target; cookies = all.cookies; caller = is; roles = all.roles }) are.redirect;
        }

    roles_own : (names : CallerNames) → request.caller ≡ Some names → (shown : ProxyFields) → AreOwn shown → AreOwn (record shown { roles = Some names.roles })
    roles_own names same shown are =
        let is : Stays → Some names.roles ≡ own_roles own = λ stays. ap (λ caller. option_map (λ (it : CallerNames). it.roles) caller) (sym same ∙ its.caller stays) in
        record {
          target = are.target;
          cookies = are.cookies;
          caller = are.caller;
          roles = λ stays. inr (is stays);
          redirect = still_all shown (record shown { roles = Some names.roles }) refl
              (λ internal all. record { known = all.known; target = all.target; cookies = all.cookies; caller = all.caller; roles = is }) are.redirect;
        }

    -- a call keeps the fields the request's own, and all else
    abbrev Keeps : Change → Type 0
    Keeps change =
        (x : State) → AreOwn (proxy_fields x.fields)
        → AreOwn (proxy_fields (left_by (answer change x) change x).fields) × ((left_by (answer change x) change x).caller ≡ x.caller)

    keeps_by : (name value : List ℕ)
        → ((fields : List Field) → AreOwn (proxy_fields fields) → AreOwn (proxy_fields (set_field name value fields)))
        → Keeps (SetHeader name value)
    keeps_by name value keeps x are =
        elim (set_or_left (answer (SetHeader name value) x) name value x) [
          | inl same ↦ (subst (λ (y : State). AreOwn (proxy_fields y.fields)) (sym same) are, ap (λ (y : State). y.caller) same)
          | inr set ↦ (subst (λ (y : State). AreOwn (proxy_fields y.fields)) (sym set) (keeps x.fields are), ap (λ (y : State). y.caller) set)
        ]

    caller_keeps : (caller : Option CallerNames) → request.caller ≡ caller → AllByRecursion Keeps (caller_fields caller)
    caller_keeps None same = tt
    caller_keeps (Some names) same = (
      keeps_by (codes "x-application-caller") names.name
          (λ fields are. subst AreOwn (sym (caller_set names.name fields)) (caller_own names same (proxy_fields fields) are)),
      (
        keeps_by (codes "x-application-roles") names.roles
            (λ fields are. subst AreOwn (sym (roles_set names.roles fields)) (roles_own names same (proxy_fields fields) are)),
        tt,
      ),
    )

    cookies_keep : (cookies : Option (List ℕ)) → request.cookies ≡ cookies → AllByRecursion Keeps (cookie_fields cookies)
    cookies_keep None same = tt
    cookies_keep (Some text) same = (
      keeps_by (codes "x-application-cookie") text
          (λ fields are. subst AreOwn (sym (cookies_set text fields)) (cookies_own text same (proxy_fields fields) are)),
      tt,
    )

    both_keep : (first second : List Change) → AllByRecursion Keeps first → AllByRecursion Keeps second → AllByRecursion Keeps (first ++ second)
    both_keep [] second one two = two
    both_keep (change ∷ first) second one two = (one.0, both_keep first second one.1 two)

    request_keeps : AllByRecursion Keeps (request_fields request)
    request_keeps = (
      keeps_by (codes "x-application-target") request.target
          (λ fields are. subst AreOwn (sym (target_set request.target fields)) (target_own (proxy_fields fields) are)),
      both_keep (caller_fields request.caller) (cookie_fields request.cookies) (caller_keeps request.caller refl) (cookies_keep request.cookies refl),
    )

    -- ---- calls up to one that is refused

    some_keep : (changes : List Change) (x : State) → AllByRecursion Keeps changes → AreOwn (proxy_fields x.fields)
        → AreOwn (proxy_fields (after_all changes x).fields) × ((after_all changes x).caller ≡ x.caller)
    some_keep [] x keep are = (are, refl)
    some_keep (change ∷ changes) x keep are =
        let y = left_by (answer change x) change x in
        let one = keep.0 x are in
        let rest = some_keep changes y keep.1 one.0 in
        (rest.0, rest.1 ∙ one.1)

    -- those before the last one
    before_last : (first : List Change) (last : Change) (made : List Change) (next : Change) (others : List Change)
        → first ++ last ∷ [] ≡ made ++ next ∷ others → AllByRecursion Keeps first → AllByRecursion Keeps made
    before_last first last [] next others same keep = tt
    before_last [] last (one ∷ made) next others same keep = absurd (no_more made next others (tail_of same))
    before_last (change ∷ first) last (one ∷ made) next others same keep =
        (subst Keeps (head_of same) keep.0, before_last first last made next others (tail_of same) keep.1)

    cut_own : (internal : List ℕ) (fault : ExchangeFault) (x y : State) → IsCut (all_fields request internal) fault x y → AreOwn (proxy_fields x.fields)
        → AreOwn (proxy_fields y.fields) × (y.caller ≡ x.caller)
    cut_own internal fault x y cut are =
        let keep = before_last (request_fields request) (SetHeader (codes "x-accel-redirect") internal) cut.made cut.next cut.others cut.are request_keeps in
        let some = some_keep cut.made x keep are in
        (subst (λ (z : State). AreOwn (proxy_fields z.fields)) (sym cut.left) some.0, ap (λ (z : State). z.caller) cut.left ∙ some.1)

    -- ---- all calls

    caller_all : (caller : Option CallerNames) (shown : ProxyFields)
        → IsUnsetOr (option_map (λ (names : CallerNames). names.name) caller) shown.caller → (with_caller caller shown).caller ≡ option_map (λ (names : CallerNames). names.name) caller
    caller_all None shown (inl none) = none
    caller_all None shown (inr same) = same
    caller_all (Some names) shown are = refl

    roles_all : (caller : Option CallerNames) (shown : ProxyFields)
        → IsUnsetOr (option_map (λ (names : CallerNames). names.roles) caller) shown.roles → (with_caller caller shown).roles ≡ option_map (λ (names : CallerNames). names.roles) caller
    roles_all None shown (inl none) = none
    roles_all None shown (inr same) = same
    roles_all (Some names) shown are = refl

    cookies_all : (cookies : Option (List ℕ)) (shown : ProxyFields) → IsUnsetOr cookies shown.cookies → (with_cookies cookies shown).cookies ≡ cookies
    cookies_all None shown (inl none) = none
    cookies_all None shown (inr same) = same
    cookies_all (Some text) shown are = refl

    -- the other fields stay
    beside_cookies : (cookies : Option (List ℕ)) (shown : ProxyFields)
        → ((with_cookies cookies shown).target ≡ shown.target) × (((with_cookies cookies shown).caller ≡ shown.caller) × ((with_cookies cookies shown).roles ≡ shown.roles))
    beside_cookies None shown = (refl, (refl, refl))
    beside_cookies (Some text) shown = (refl, (refl, refl))

    beside_caller : (caller : Option CallerNames) (shown : ProxyFields)
        → ((with_caller caller shown).target ≡ shown.target) × ((with_caller caller shown).cookies ≡ shown.cookies)
    beside_caller None shown = (refl, refl)
    beside_caller (Some names) shown = (refl, refl)

    all_own : (internal : List ℕ) → Known internal → (shown : ProxyFields) → AreOwn shown
        → AreOwn (record (with_cookies request.cookies (with_caller request.caller (record shown { target = Some request.target }))) { internal = Some internal })
    all_own internal known shown are =
        let targeted = record shown { target = Some request.target } in
        let called = with_caller request.caller targeted in
        let beside = beside_cookies request.cookies called in
        let target : (with_cookies request.cookies called).target ≡ Some own.target =
        beside.0 ∙ (beside_caller request.caller targeted).0 ∙ ap Some its.target in
        let cookies : (with_cookies request.cookies called).cookies ≡ own.cookies =
        cookies_all request.cookies called
        (subst (λ its_cookies. IsUnsetOr its_cookies called.cookies) (sym its.cookies)
        (subst (IsUnsetOr own.cookies) (sym (beside_caller request.caller targeted).1) are.cookies)) ∙ its.cookies in
        let caller : Stays → (with_cookies request.cookies called).caller ≡ own_caller own =
        λ stays. beside.1.0 ∙ caller_all request.caller targeted
        (subst (λ its_caller. IsUnsetOr (option_map (λ (names : CallerNames). names.name) its_caller) shown.caller) (sym (its.caller stays)) (are.caller stays))
        ∙ ap (option_map (λ (names : CallerNames). names.name)) (its.caller stays) in
        let roles : Stays → (with_cookies request.cookies called).roles ≡ own_roles own =
        λ stays. beside.1.1 ∙ roles_all request.caller targeted
        (subst (λ its_caller. IsUnsetOr (option_map (λ (names : CallerNames). names.roles) its_caller) shown.roles) (sym (its.caller stays)) (are.roles stays))
        ∙ ap (option_map (λ (names : CallerNames). names.roles)) (its.caller stays) in
        record {
          target = inr target;
          cookies = inr cookies;
          caller = λ stays. inr (caller stays);
          roles = λ stays. inr (roles stays);
          redirect = inr (internal, refl, record { known = known; target = target; cookies = cookies; caller = caller; roles = roles });
        }

    all_made : (internal : List ℕ) → Known internal → (x y : State) → y ≡ after_all (all_fields request internal) x
        → first_answer (all_fields request internal) x ≡ Ok tt → AreOwn (proxy_fields x.fields)
        → AreOwn (proxy_fields y.fields) × (y.caller ≡ x.caller)
    all_made internal known x y same passed are = by (is_open x) refl
      where
        by : (open_is : Bool) → is_open x ≡ open_is → AreOwn (proxy_fields y.fields) × (y.caller ≡ x.caller)
        by false closed =
            let stays : y ≡ x = same ∙ all_closed (all_fields request internal) x (all_sets request internal) closed in
            (subst (λ (z : State). AreOwn (proxy_fields z.fields)) (sym stays) are, ap (λ (z : State). z.caller) stays)
        by true opened =
            let put : y ≡ record x { fields = put_all (all_fields request internal) x.fields } =
            same ∙ all_open (all_fields request internal) x (all_sets request internal) opened passed in (
              subst (λ (z : State). AreOwn (proxy_fields z.fields)) (sym put)
                  (subst AreOwn (sym (all_put request internal x.fields)) (all_own internal known (proxy_fields x.fields) are)),
              ap (λ (z : State). z.caller) put,
            )

    -- the request is handed over, or that is refused
    pub makes_own : (internal : List ℕ) → Known internal → (x y : State) (done : Result (Unit {0}) ExchangeFault)
        → Makes (all_fields request internal) x done y → AreOwn (proxy_fields x.fields) → AreOwn (proxy_fields y.fields) × (y.caller ≡ x.caller)
    makes_own internal known x y (Ok value) makes are = all_made internal known x y makes.all makes.refusal are
    makes_own internal known x y (Err fault) makes are = cut_own internal fault x y makes.cut are
