use Rattle.std.proofs.Common.{◌≡◌, ◌≢◌, ℕ, ◌+◌, ◌<◌, Bool, true, false, List, length, take, get_or, Option, Some, None, refl, sym, ap, subst, inl, inr, ◌∙◌, arith}
use Rattle.std.specs.Prelude.{All, IsTrue, option_and_then, slice_get}
use Rattle.std.specs.Bool.{then_some}
use Rattle.std.specs.List.{enumerate_from, position_or_len}
use Rattle.std.specs.Option.{option_map}
use Rattle.std.specs.Str.{bytes_eq}
use Rattle.std.proofs.lemmas.Bool.{both_ways, cases_lt}
use Rattle.std.proofs.lemmas.List.{get_or-take, length-take}
use Rattle.std.proofs.lemmas.List.Folds.{find_at}
use Rattle.std.proofs.lemmas.List.FromFn.{get_or-enumerate_from, length-enumerate_from}
use Rattle.std.proofs.lemmas.List.Sums.{fails_before_first, passes_at_first}
use Rattle.std.proofs.lemmas.Option.{get_or_from_slice_get, none-some, option_and_then_some, same_Some, slice_get-get_or, slice_get_within}
use Rattle.std.proofs.lemmas.Slice.Eq.{bytes_eq-Decides}
use Rattle.sv_realm.specs.declared.caller.Caller.{Caller}
use Rattle.sv_realm.specs.declared.account.User.{User}
use Rattle.sv_realm.specs.Laws.{ChecksTheNamed, FindsTheFirst, MissesNone}
use Rattle.sv_realm.specs.Realm.{caller_at, caller_checked, caller_named, caller_of, user_named}
use Rattle.sv_realm.specs.User.{fits}
use Rattle.sv_realm.proofs.Numbered.{slice_get-enumerate_from}

option_map_some : {A B : Type 0} (f : A → B) (o : Option A) (y : B) → option_map f o ≡ Some y
    → (x : A) × (o ≡ Some x) × (f x ≡ y)
option_map_some f None y e = absurd (none-some y e)
option_map_some f (Some x) y e = (x, refl, same_Some (f x) y e)

then_some_some : {A : Type 0} (b : Bool) (x y : A) → then_some b x ≡ Some y → (b ≡ true) × (x ≡ y)
then_some_some true x y e = (refl, same_Some x y e)
then_some_some false x y e = absurd (none-some y e)

-- Whether a user of a numbered list has the name.
abbrev has_name : List ℕ → ℕ × User → Bool
has_name name member = bytes_eq member.1.name name

-- The position of the first user with a name, or the number of users if none has it.
abbrev first_place : List User → List ℕ → ℕ
first_place users name = position_or_len (has_name name) (enumerate_from 0 users)

-- No user before the first one with a name has it.
earlier_differs : (users : List User) (name : List ℕ) (place : ℕ) (d : User)
    → place < length users → place < first_place users name → (get_or users place d).name ≢ name
earlier_differs users name place d inside before same =
    let members = enumerate_from 0 users in
    let fails = fails_before_first (has_name name) members place (0, d) before in
    let member = get_or-enumerate_from 0 users place (0, d) inside in
    let other : bytes_eq (get_or users place d).name name ≡ false = sym (ap (has_name name) member) ∙ fails in
    both_ways _ other ((bytes_eq-Decides (get_or users place d).name name).1 same)

pub record IsFirst (users : List User) (name : List ℕ) (member : ℕ × User) : Type 0 where
  pub stands : slice_get users member.0 ≡ Some member.1
  pub named : member.1.name ≡ name
  pub first : All (λ user. user.name ≢ name) (take member.0 users)

-- The user found by a name has it and is found again by their number, and no earlier user has it.
named_is_first : (users : List User) (name : List ℕ) (member : ℕ × User) → user_named users name ≡ Some member
    → IsFirst users name member
named_is_first users name member e =
    let members = enumerate_from 0 users in
    let place = first_place users name in
    let found : slice_get members place ≡ Some member = sym (find_at (has_name name) members) ∙ e in
    let user = option_map_some (λ one. (0 + place, one)) (slice_get users place) member (sym (slice_get-enumerate_from 0 users place) ∙ found) in
    let number : place ≡ member.0 = omega (arith, ap (λ one. one.0) user.2) in
    let passes = passes_at_first (has_name name) members member (slice_get_within members place member found) in
    let is_member = get_or_from_slice_get members place member member found in
    let has = ap (has_name name) (sym is_member) ∙ passes in
    record {
      stands = ap (slice_get users) (sym number) ∙ user.1 ∙ ap (λ one. Some one.1) user.2;
      named = (bytes_eq-Decides member.1.name name).0 has;
      first = λ k d inside same.
          let before : k < member.0 = omega (arith, length-take member.0 users, inside) in
          let within : k < length users = omega (arith, length-take member.0 users, inside) in
          earlier_differs users name k d within (omega arith) (ap (λ one. one.name) (sym (get_or-take member.0 users k d before)) ∙ same);
    }

pub finds_the_first : FindsTheFirst
finds_the_first users name caller e =
    let found = option_map_some caller_of (user_named users name) caller e in
    let member = found.0 in
    let first = named_is_first users name member found.1 in
    let P : Caller → Type 0 = λ one. (one.name ≡ name) × (caller_at users one.number ≡ Some one) × All (λ user. user.name ≢ name) (take one.number users) in
    subst P found.2 (first.named, ap (option_map (λ user. caller_of (member.0, user))) first.stands, first.first)

pub misses_none : MissesNone
misses_none users name e k d inside same =
    let members = enumerate_from 0 users in
    let place = first_place users name in
    let as_many = length-enumerate_from 0 users in
    elim (cases_lt place (length members)) [
      | inl h ↦ none-some (caller_of (get_or members place (0, d)))
          (sym e ∙ ap (option_map caller_of) (find_at (has_name name) members ∙ slice_get-get_or members place (0, d) h))
      | inr h ↦ earlier_differs users name k d inside (omega arith) same
    ]

passes_as_named : (users : List User) (name password : List ℕ) (caller : Caller)
    → caller_checked users name password ≡ Some caller
    → (caller_named users name ≡ Some caller)
    × ((user : User) × (slice_get users caller.number ≡ Some user) × IsTrue (fits user password))
passes_as_named users name password caller e =
    option_and_then_some (λ member. then_some (fits member.1 password) (caller_of member)) (user_named users name) caller e
    (λ member found passed.
    let parts = then_some_some _ _ _ passed in
    let first = named_is_first users name member found in (
      ap (option_map caller_of) found ∙ ap Some parts.1,
      (member.1, ap (λ one. slice_get users one.number) (sym parts.1) ∙ first.stands, parts.0),
    ))

named_passes : (users : List User) (name password : List ℕ) (caller : Caller) (user : User)
    → caller_named users name ≡ Some caller → slice_get users caller.number ≡ Some user → IsTrue (fits user password)
    → caller_checked users name password ≡ Some caller
named_passes users name password caller user e stands fit =
    let found = option_map_some caller_of (user_named users name) caller e in
    let member = found.0 in
    let first = named_is_first users name member found.1 in
    let same : member.1 ≡ user =
    same_Some _ _ (sym first.stands ∙ ap (λ one. slice_get users one.number) found.2 ∙ stands) in
    ap (option_and_then (λ one. then_some (fits one.1 password) (caller_of one))) found.1
    ∙ ap (λ passed. then_some passed (caller_of member)) (ap (λ one. fits one password) same ∙ fit)
    ∙ ap Some found.2

pub checks_the_named : ChecksTheNamed
checks_the_named users name password caller = (
  passes_as_named users name password caller,
  λ (e, (user, stands, fit)). named_passes users name password caller user e stands fit,
)
