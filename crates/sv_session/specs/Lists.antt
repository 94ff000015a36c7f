-- Lists whose first item that passes a test is changed or removed.
use Rattle.std.specs.Prelude.{Bool, List, [], ◌∷◌, if◌then◌else◌}

abbrev pub on_first : {A : Type 0} → (A → Bool) → (A → A) → List A → List A
on_first test change [] = []
on_first test change (item ∷ items) = if test item then change item ∷ items else item ∷ on_first test change items

abbrev pub without_first : {A : Type 0} → (A → Bool) → List A → List A
without_first test [] = []
without_first test (item ∷ items) = if test item then items else item ∷ without_first test items
