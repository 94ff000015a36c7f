-- Readings of folders in sequence.
use Rattle.std.proofs.Common.{◌≡◌, ℕ, List, [], ◌∷◌, ◌++◌, flat_map, append-nil, subst}
use Rattle.std.proofs.lemmas.Grind.{flat_map-append}
use Rattle.sv_deployments.specs.Folders.{AreFound, FolderGiving, FolderReading, context_readings}
use Rattle.sv_deployments.specs.declared.folders.FoundContext.{FoundContext}

found_behind : {S : Type 0} (gives : FolderGiving S) (front back : List FolderReading) (a b c : S)
    → AreFound gives a front b → AreFound gives b back c → AreFound gives a (front ++ back) c
found_behind gives [] back a b c first second = let P : _ → Type 0 = λ s. AreFound gives s back c in subst P first second
found_behind gives (reading ∷ rest) back a b c first second =
    (first.0, first.1, found_behind gives rest back first.0 b c first.2 second)

-- the folder of one more context
pub one_folder_more : {S : Type 0} (gives : FolderGiving S) (config : List ℕ) (found next : List FoundContext) (last : FoundContext) (a b c : S)
    → next ≡ found ++ last ∷ []
    → AreFound gives a (flat_map (context_readings config) found) b
    → AreFound gives b (context_readings config last) c
    → AreFound gives a (flat_map (context_readings config) next) c
one_folder_more gives config found next last a b c pushed before here =
    rw (pushed, flat_map-append, append-nil) (found_behind gives (flat_map (context_readings config) found) (context_readings config last) a b c before here)
