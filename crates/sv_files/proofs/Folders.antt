-- The folders above a path, from the innermost outward.
use Rattle.std.proofs.Common.{ℕ, ◌≡◌, Bool, true, false, not, ◌&&◌, ◌||◌, cond, eqb, List, [], ◌∷◌, Option, None, Some, sym, refl, ap, ◌∙◌, ⊎_elim}
use Rattle.std.specs.Str.{bytes_eq}
use Rattle.std.proofs.lemmas.Bool.{and_from, and_parts, and_right, both_ways, cases_Bool, cond-true, cond-false, eqb-true, not_from_true, not_from_false, or_cases, or_left, or_right}
use Rattle.std.proofs.lemmas.Slice.Eq.{bytes_eq-Decides}
use Rattle.sv_files.specs.Below.{IsClosed, is_at_or_above, lies_below}
use Rattle.sv_files.specs.Files.{is_folder}
use Rattle.sv_files.specs.declared.files.File.{File}

and_true : (b : Bool) → (b && true) ≡ b
and_true true = refl
and_true false = refl

-- No path is below itself.
below-self : (path : List ℕ) → lies_below path path ≡ false
below-self [] = refl
below-self (b ∷ path) = and_right (eqb b b) (lies_below path path) (below-self path)

-- A path below a folder is below every folder above that folder.
below-trans : (outer folder path : List ℕ) → lies_below outer folder ≡ true → lies_below folder path ≡ true → lies_below outer path ≡ true
below-trans [] [] path up down = cc
below-trans [] (y ∷ folder) [] up down = cc
below-trans [] (y ∷ folder) (z ∷ path) up down =
    let same = eqb-true y z (and_parts (eqb y z) (lies_below folder path) down).0 in
    ap (λ n. eqb 47 n && true) (sym same) ∙ up
below-trans (x ∷ outer) [] path up down = cc
below-trans (x ∷ outer) (y ∷ folder) [] up down = cc
below-trans (x ∷ outer) (y ∷ folder) (z ∷ path) up down =
    let first = and_parts (eqb x y) (lies_below outer folder) up in
    let second = and_parts (eqb y z) (lies_below folder path) down in
    and_from (eqb x z) (lies_below outer path) (ap (λ n. eqb x n) (sym (eqb-true y z second.0)) ∙ first.0) (below-trans outer folder path first.1 second.1)

-- The folders of a list of files are closed under `lies_below`.
pub folders_closed : (files : List File) → IsClosed (is_folder files)
folders_closed [] folder outer is up = cc
folders_closed (file ∷ files) folder outer is up =
    ⊎_elim
    (λ here. or_left (lies_below outer file.path) (is_folder files outer) (below-trans outer folder file.path up here))
    (λ later. or_right (lies_below outer file.path) (is_folder files outer) (folders_closed files folder outer later up))
    (or_cases (lies_below folder file.path) (is_folder files folder) is)

-- ---- the known folders while those of a path are entered; `rest` and the folders above it are not entered yet
abbrev pub entered : (List ℕ → Bool) → List ℕ → Option (List ℕ) → List ℕ → Bool
entered known path rest folder = known folder || (lies_below folder path && not (is_at_or_above folder rest))

pub entered-none : (known : List ℕ → Bool) (path folder : List ℕ) (rest : Option (List ℕ)) → lies_below folder path ≡ is_at_or_above folder rest → known folder ≡ entered known path rest folder
entered-none known path folder rest same = still (known folder) (lies_below folder path) ∙ ap (λ b. known folder || (lies_below folder path && not b)) same
  where
    still : (known below : Bool) → known ≡ (known || (below && not below))
    still true below = refl
    still false true = refl
    still false false = refl

apart_from : (known : List ℕ → Bool) (path folder : List ℕ) (rest : Option (List ℕ)) → is_at_or_above folder rest ≡ false → entered known path rest folder ≡ (known folder || lies_below folder path)
apart_from known path folder rest apart = ap (λ b. known folder || (lies_below folder path && not b)) apart ∙ ap (λ b. known folder || b) (and_true (lies_below folder path))

pub entered-all : (known : List ℕ → Bool) (path folder : List ℕ) (rest : Option (List ℕ)) → rest ≡ None → entered known path rest folder ≡ (known folder || lies_below folder path)
entered-all known path folder rest ended = apart_from known path folder rest (ap (is_at_or_above folder) ended)

at_itself : (folder : List ℕ) → is_at_or_above folder (Some folder) ≡ true
at_itself folder = or_left (bytes_eq folder folder) (lies_below folder folder) ((bytes_eq-Decides folder folder).1 refl)

-- If the first folder not yet entered is in the set, it was known before.
was_known : (known : List ℕ → Bool) (path first : List ℕ) → entered known path (Some first) first ≡ true → known first ≡ true
was_known known path first found =
    let apart : (lies_below first path && not (is_at_or_above first (Some first))) ≡ false = and_right (lies_below first path) (not (is_at_or_above first (Some first))) (not_from_true _ (at_itself first)) in
    ⊎_elim (λ is. is) (λ late. absurd (both_ways (lies_below first path && not (is_at_or_above first (Some first))) apart late)) (or_cases (known first) (lies_below first path && not (is_at_or_above first (Some first))) found)

-- If the first folder not yet entered is in the set, all folders are.
pub entered-known : (known : List ℕ → Bool) (path first folder : List ℕ) → IsClosed known → entered known path (Some first) first ≡ true → entered known path (Some first) folder ≡ (known folder || lies_below folder path)
entered-known known path first folder closed found =
    let is = was_known known path first found in
    ⊎_elim
    (λ to_come.
    let its : known folder ≡ true = ⊎_elim (λ same. ap known (sym ((bytes_eq-Decides first folder).0 same)) ∙ is) (λ outer. closed first folder is outer) (or_cases (bytes_eq first folder) (lies_below folder first) to_come) in
    or_left (known folder) (lies_below folder path && not (is_at_or_above folder (Some first))) its ∙ sym (or_left (known folder) (lies_below folder path) its))
    (λ apart. apart_from known path folder (Some first) apart)
    (cases_Bool (is_at_or_above folder (Some first)))

-- One more folder.
pub entered-more : (known : List ℕ → Bool) (path first folder : List ℕ) (rest : Option (List ℕ)) → lies_below folder first ≡ is_at_or_above folder rest → (is_at_or_above folder (Some first) ≡ true → lies_below folder path ≡ true) → cond (bytes_eq first folder) true (entered known path (Some first) folder) ≡ entered known path rest folder
entered-more known path first folder rest up within =
    ⊎_elim
    (λ same.
    let it = (bytes_eq-Decides first folder).0 same in
    let below : lies_below folder path ≡ true = within (or_left (bytes_eq first folder) (lies_below folder first) same) in
    let apart : is_at_or_above folder rest ≡ false = sym up ∙ (ap (lies_below folder) it ∙ below-self folder) in
    cond-true _ _ _ same ∙ sym (or_right (known folder) (lies_below folder path && not (is_at_or_above folder rest)) (and_from (lies_below folder path) (not (is_at_or_above folder rest)) below (not_from_false _ apart))))
    (λ other. cond-false _ _ _ other ∙ ap (λ b. known folder || (lies_below folder path && not b)) (ap (λ b. b || lies_below folder first) other ∙ up))
    (cases_Bool (bytes_eq first folder))

pub within-up : (path first outer : List ℕ) (rest : Option (List ℕ)) → lies_below outer first ≡ is_at_or_above outer rest → (is_at_or_above outer (Some first) ≡ true → lies_below outer path ≡ true) → is_at_or_above outer rest ≡ true → lies_below outer path ≡ true
within-up path first outer rest up within to_come = within (or_right (bytes_eq first outer) (lies_below outer first) (up ∙ to_come))
