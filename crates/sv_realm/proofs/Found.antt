use Rattle.std.proofs.Common.{◌≡◌, ℕ, ◌+◌, Bool, true, false, cond, List, [], ◌∷◌, map, Option, Some, None, refl, ap, ◌∙◌, zero-add}
use Rattle.std.specs.Prelude.{find, slice_get, option_and_then}
use Rattle.std.specs.Bool.{then_some}
use Rattle.std.specs.List.{enumerate_from}
use Rattle.std.specs.Option.{option_map}
use Rattle.std.specs.Str.{bytes_eq}
use Rattle.std.proofs.lemmas.Option.{slice_get-map}
use Rattle.sv_realm.specs.declared.account.Account.{Account}
use Rattle.sv_realm.specs.declared.account.User.{User}
use Rattle.sv_realm.specs.Account.{AreNumbered, account_of, user_of}
use Rattle.sv_realm.specs.Realm.{caller_at, caller_checked, caller_named, caller_of, user_named}
use Rattle.sv_realm.specs.User.{fits}
use Rattle.sv_realm.proofs.Numbered.{slice_get-enumerate_from}

find-map : {A B : Type 0} (f : A → B) (p : B → Bool) (xs : List A)
    → find p (map f xs) ≡ option_map f (find (λ x. p (f x)) xs)
find-map f p [] = refl
find-map f p (x ∷ xs) =
    elim (p (f x)) as (λ b. cond b (Some (f x)) (find p (map f xs)) ≡ option_map f (cond b (Some x) (find (λ y. p (f y)) xs))) [
      | true ↦ refl
      | false ↦ find-map f p xs
    ]

-- The first account with a name is the account of the first user with that name.
account_found : (accounts : List Account) (users : List User) (name : List ℕ)
    → AreNumbered accounts → map user_of accounts ≡ users
    → find (λ account. bytes_eq account.caller.name name) accounts ≡ option_map account_of (user_named users name)
account_found accounts users name numbered viewed =
    ap (find (λ account. bytes_eq account.caller.name name)) numbered
    ∙ find-map account_of (λ account. bytes_eq account.caller.name name) (enumerate_from 0 (map user_of accounts))
    ∙ ap (λ all. option_map account_of (user_named all name)) viewed

numbered_account : (place : ℕ) (found : Option User)
    → option_map account_of (option_map (λ user. (0 + place, user)) found) ≡ option_map (λ user. account_of (place, user)) found
numbered_account place None = refl
numbered_account place (Some user) = ap (λ number. Some (account_of (number, user))) (zero-add place)

-- The account at a position is the account of the user at that position.
account_at : (accounts : List Account) (users : List User) (place : ℕ)
    → AreNumbered accounts → map user_of accounts ≡ users
    → slice_get accounts place ≡ option_map (λ user. account_of (place, user)) (slice_get users place)
account_at accounts users place numbered viewed =
    ap (λ all. slice_get all place) numbered
    ∙ slice_get-map account_of (enumerate_from 0 (map user_of accounts)) place
    ∙ ap (option_map account_of) (slice_get-enumerate_from 0 (map user_of accounts) place)
    ∙ numbered_account place (slice_get (map user_of accounts) place)
    ∙ ap (λ all. option_map (λ user. account_of (place, user)) (slice_get all place)) viewed

their_caller : (member : Option (ℕ × User))
    → option_map (λ account. account.caller) (option_map account_of member) ≡ option_map caller_of member
their_caller None = refl
their_caller (Some member) = refl

their_check : (password : List ℕ) (member : Option (ℕ × User))
    → option_and_then (λ account. then_some (fits (user_of account) password) account.caller) (option_map account_of member)
    ≡ option_and_then (λ of. then_some (fits of.1 password) (caller_of of)) member
their_check password None = refl
their_check password (Some member) = refl

at_their_place : (place : ℕ) (user : Option User)
    → option_map (λ account. account.caller) (option_map (λ one. account_of (place, one)) user)
    ≡ option_map (λ one. caller_of (place, one)) user
at_their_place place None = refl
at_their_place place (Some user) = refl

pub named_caller : (accounts shown : List Account) (users : List User) (name : List ℕ) (found : Option Account)
    → AreNumbered accounts → map user_of accounts ≡ users → shown ≡ accounts
    → found ≡ find (λ account. bytes_eq account.caller.name name) shown
    → option_map (λ account. account.caller) found ≡ caller_named users name
named_caller accounts shown users name found numbered viewed same e =
    ap (option_map (λ account. account.caller))
    (e ∙ ap (find (λ account. bytes_eq account.caller.name name)) same ∙ account_found accounts users name numbered viewed)
    ∙ their_caller (user_named users name)

pub checked_caller : (accounts shown : List Account) (users : List User) (name password : List ℕ) (found : Option Account)
    → AreNumbered accounts → map user_of accounts ≡ users → shown ≡ accounts
    → found ≡ find (λ account. bytes_eq account.caller.name name) shown
    → option_and_then (λ account. then_some (fits (user_of account) password) account.caller) found
    ≡ caller_checked users name password
checked_caller accounts shown users name password found numbered viewed same e =
    ap (option_and_then (λ account. then_some (fits (user_of account) password) account.caller))
    (e ∙ ap (find (λ account. bytes_eq account.caller.name name)) same ∙ account_found accounts users name numbered viewed)
    ∙ their_check password (user_named users name)

pub placed_caller : (accounts : List Account) (users : List User) (place : ℕ) (found : Option Account)
    → AreNumbered accounts → map user_of accounts ≡ users → found ≡ slice_get accounts place
    → option_map (λ account. account.caller) found ≡ caller_at users place
placed_caller accounts users place found numbered viewed e =
    ap (option_map (λ account. account.caller)) (e ∙ account_at accounts users place numbered viewed)
    ∙ at_their_place place (slice_get users place)
