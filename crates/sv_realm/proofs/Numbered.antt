use Rattle.std.proofs.Common.{◌≡◌, ℕ, zero, suc, ◌+◌, List, [], ◌∷◌, ◌++◌, length, map, Some, refl, sym, ap, ◌∙◌, arith, add-zero}
use Rattle.std.specs.Prelude.{slice_get}
use Rattle.std.specs.List.{enumerate_from}
use Rattle.std.specs.Option.{option_map}
use Rattle.std.proofs.lemmas.List.{map-append}
use Rattle.sv_realm.specs.declared.account.Account.{Account}
use Rattle.sv_realm.specs.declared.account.User.{User}
use Rattle.sv_realm.specs.Account.{AreNumbered, account_of, user_of}

pub enumerate_more : {X : Type 0} (n : ℕ) (xs : List X) (x : X)
    → enumerate_from n (xs ++ x ∷ []) ≡ enumerate_from n xs ++ (n + length xs, x) ∷ []
enumerate_more n [] x = ap (λ k. (k, x) ∷ []) (sym (add-zero n))
enumerate_more n (y ∷ ys) x = ap (λ zs. (n, y) ∷ zs) (enumerate_more (n + 1) ys x
    ∙ ap (λ k. enumerate_from (n + 1) ys ++ (k, x) ∷ []) (omega arith))

-- Each item of an enumerated list is paired with its position, counted from `n`.
pub slice_get-enumerate_from : {X : Type 0} (n : ℕ) (xs : List X) (i : ℕ)
    → slice_get (enumerate_from n xs) i ≡ option_map (λ x. (n + i, x)) (slice_get xs i)
slice_get-enumerate_from n [] i = refl
slice_get-enumerate_from n (x ∷ xs) zero = ap (λ k. Some (k, x)) (sym (add-zero n))
slice_get-enumerate_from n (x ∷ xs) (suc i) = slice_get-enumerate_from (n + 1) xs i
    ∙ ap (λ k. option_map (λ x. (k, x)) (slice_get xs i)) (omega arith)

-- The users of the accounts made from a list of users are these users.
pub users_of_accounts : (n : ℕ) (users : List User) → map user_of (map account_of (enumerate_from n users)) ≡ users
users_of_accounts n [] = refl
users_of_accounts n (user ∷ users) = ap (λ others. user ∷ others) (users_of_accounts (n + 1) users)

-- Appending the account of the next user gives the accounts of all users so far.
pub accounts_more : (accounts : List Account) (account : Account) (users : List User) (user : User) (number : ℕ)
    → accounts ≡ map account_of (enumerate_from 0 users) → account ≡ account_of (number, user) → number ≡ length users
    → accounts ++ account ∷ [] ≡ map account_of (enumerate_from 0 (users ++ user ∷ []))
accounts_more accounts account users user number all one place =
    ap (λ front. front ++ account ∷ []) all
    ∙ ap (λ last. map account_of (enumerate_from 0 users) ++ last ∷ []) one
    ∙ ap (λ n. map account_of (enumerate_from 0 users) ++ account_of (n, user) ∷ []) (let here : number ≡ 0 + length users = omega arith in here)
    ∙ sym (map-append account_of (enumerate_from 0 users) ((0 + length users, user) ∷ []))
    ∙ ap (map account_of) (sym (enumerate_more 0 users user))

-- Accounts made from numbered users have these users, and are numbered as a realm requires.
pub users_of_all : (accounts : List Account) (users : List User)
    → accounts ≡ map account_of (enumerate_from 0 users) → map user_of accounts ≡ users
users_of_all accounts users e = ap (map user_of) e ∙ users_of_accounts 0 users

pub all_numbered : (accounts : List Account) (users : List User)
    → accounts ≡ map account_of (enumerate_from 0 users) → AreNumbered accounts
all_numbered accounts users e = e ∙ ap (λ all. map account_of (enumerate_from 0 all)) (sym (users_of_all accounts users e))
