-- The roles of the first users.
use Rattle.std.proofs.Common.{◌≡◌, ◌∙◌, ℕ, zero, suc, ◌+◌, List, [], ◌∷◌, ◌++◌, take, add-one, append_assoc, append-nil, ap, refl, sym, Option, Some, None}
use Rattle.std.specs.List.{flat_map}
use Rattle.std.specs.Option.{option_map, option_map_or}
use Rattle.std.specs.Prelude.{slice_get}
use Rattle.sv_realm.specs.Realm.{caller_of}
use Rattle.sv_realm.specs.declared.account.User.{User}
use Rattle.sv_audited_contexts.specs.Held.{roles_at}

abbrev roles_of : User → List (List ℕ)
roles_of user = user.roles

abbrev roles_in : Option User → List (List ℕ)
roles_in found = option_map_or roles_of found []

are_its_own : (found : Option User) (number : ℕ) → option_map_or (λ caller. caller.roles) (option_map (λ user. caller_of (number, user)) found) [] ≡ roles_in found
are_its_own None number = refl
are_its_own (Some user) number = refl

one_more : (users : List User) (number : ℕ) → flat_map roles_of (take (suc number) users) ≡ flat_map roles_of (take number users) ++ roles_in (slice_get users number)
one_more [] zero = refl
one_more [] (suc number) = refl
one_more (user ∷ users) zero = append-nil user.roles
one_more (user ∷ users) (suc number) =
    ap (λ roles. user.roles ++ roles) (one_more users number)
    ∙ sym (append_assoc user.roles (flat_map roles_of (take number users)) (roles_in (slice_get users number)))

pub roles_more : (users : List User) (number : ℕ) (roles next : List (List ℕ)) → roles ≡ flat_map (λ user. user.roles) (take number users)
    → next ≡ roles ++ roles_at users number → next ≡ flat_map (λ user. user.roles) (take (number + 1) users)
roles_more users number roles next known pushed =
    pushed ∙ ap (λ front. front ++ roles_at users number) known
    ∙ ap (λ back. flat_map roles_of (take number users) ++ back) (are_its_own (slice_get users number) number)
    ∙ rw add-one (sym (one_more users number))
