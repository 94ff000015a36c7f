-- The words of options and their meaning.
use Rattle.std.proofs.Common.{◌≡◌, ℕ, ◌≤◌, ◌⊎◌, inl, inr, List, [], ◌∷◌, Option, Some, None, length, refl, sym, subst, arith, is_some}
use denote.Ref.{Bor}
use Rattle.std.proofs.lemmas.Bool.{false≢true}
use Rattle.std.specs.Option.{unwrap_or}
use Rattle.sv_arguments.specs.AuditOptions.{IsViewer}
use Rattle.sv_arguments.specs.Given.{IsFirst}
use Rattle.sv_arguments.specs.Values.{Finds, IsGiven, IsName, Says, SaysOr}
use Rattle.sv_audit_command.specs.declared.access_options.Asked.TheVariants.{User, Role}

pub says_first : (words : List (List ℕ)) (found : Option (Bor (List ℕ))) → length words ≤ 1 → IsFirst words found → Says IsName words found
says_first [] None once is = tt
says_first [] (Some value) once is = absurd is
says_first (word ∷ []) (Some value) once is = is
says_first (word ∷ []) None once is = absurd is
says_first (word ∷ second ∷ words) found once is = absurd (omega arith)

pub given_first : (words : List (List ℕ)) (found : Option (Bor (List ℕ))) → length words ≤ 1 → IsFirst words found → IsGiven words (is_some found)
given_first [] None once is = tt
given_first [] (Some value) once is = absurd is
given_first (word ∷ []) (Some value) once is = tt
given_first (word ∷ []) None once is = absurd is
given_first (word ∷ second ∷ words) found once is = absurd (omega arith)

module _ {A : Type 0} (means : List ℕ → A → Type 0) where
  pub says_none : (words : List (List ℕ)) → Says IsName words None → Says means words None
  says_none [] is = tt
  says_none (word ∷ []) is = absurd is
  says_none (word ∷ second ∷ words) is = absurd is

  found_one : (word : List ℕ) (value : Bor (List ℕ)) (found : Option A) → value.now ≡ word → (a : A) → means word a → Finds (means value.now) found → Says means (word ∷ []) found
  found_one word value None is a means_it finds =
      let Means : List ℕ → Type 0 = λ text. means text a in absurd (false≢true (finds.1 a (subst Means (sym is) means_it)))
  found_one word value (Some b) is a means_it finds = let Means : List ℕ → Type 0 = λ text. means text b in subst Means is finds.0

  pub says_found : (words : List (List ℕ)) (value : Bor (List ℕ)) (found : Option A) → Says IsName words (Some value)
      → ((word : List ℕ) → words ≡ word ∷ [] → (a : A) × means word a) → Finds (means value.now) found → Says means words found
  says_found [] value found is some finds = absurd is
  says_found (word ∷ []) value found is some finds = let it = some word refl in found_one word value found is it.0 it.1 finds
  says_found (word ∷ second ∷ words) value found is some finds = absurd is

  pub usual_none : (usual : A) (words : List (List ℕ)) → Says IsName words None → SaysOr usual means words usual
  usual_none usual [] is = refl
  usual_none usual (word ∷ []) is = absurd is
  usual_none usual (word ∷ second ∷ words) is = absurd is

  pub usual_found : (usual : A) (words : List (List ℕ)) (found : Option A) → Says means words found → SaysOr usual means words (unwrap_or found usual)
  usual_found usual [] None is = refl
  usual_found usual [] (Some a) is = absurd is
  usual_found usual (word ∷ []) None is = absurd is
  usual_found usual (word ∷ []) (Some a) is = is
  usual_found usual (word ∷ second ∷ words) None is = absurd is
  usual_found usual (word ∷ second ∷ words) (Some a) is = absurd is

none_word : (word : List ℕ) (words : List (List ℕ)) → word ∷ words ≡ [] → ⊥
none_word word words same = cc

pub viewer_user : (users roles : List (List ℕ)) (name : Bor (List ℕ)) → Says IsName users (Some name) → (users ≡ []) ⊎ (roles ≡ [])
    → IsViewer users roles (Some (User name))
viewer_user [] roles name is either = absurd is
viewer_user (user ∷ []) [] name is either = is
viewer_user (user ∷ []) (role ∷ roles) name is (inl none) = absurd (none_word user [] none)
viewer_user (user ∷ []) (role ∷ roles) name is (inr none) = absurd (none_word role roles none)
viewer_user (user ∷ second ∷ users) roles name is either = absurd is

pub viewer_role : (users roles : List (List ℕ)) (name : Bor (List ℕ)) → Says IsName users None → Says IsName roles (Some name)
    → IsViewer users roles (Some (Role name))
viewer_role [] [] name none is = absurd is
viewer_role [] (role ∷ []) name none is = is
viewer_role [] (role ∷ second ∷ roles) name none is = absurd is
viewer_role (user ∷ []) roles name none is = absurd none
viewer_role (user ∷ second ∷ users) roles name none is = absurd none

pub viewer_none : (users roles : List (List ℕ)) → Says IsName users None → Says IsName roles None → IsViewer users roles None
viewer_none [] [] none is = tt
viewer_none [] (role ∷ []) none is = absurd is
viewer_none [] (role ∷ second ∷ roles) none is = absurd is
viewer_none (user ∷ []) roles none is = absurd none
viewer_none (user ∷ second ∷ users) roles none is = absurd none
