-- Readings in sequence.
use Rattle.std.proofs.Common.{◌≡◌, ℕ, List, [], ◌∷◌, ◌++◌, flat_map, append-nil, subst}
use Rattle.std.proofs.lemmas.Grind.{flat_map-append}
use Rattle.sv_program.specs.ConfigurationFiles.{context_readings}
use Rattle.sv_program.specs.FileStore.{AreRead, Giving, Reading}
use Rattle.sv_program.specs.declared.configuration.ContextTexts.{ContextTexts}

read_behind : {S : Type 0} (gives : Giving S) (front back : List Reading) (a b c : S)
    → AreRead gives a front b → AreRead gives b back c → AreRead gives a (front ++ back) c
read_behind gives [] back a b c first second = let P : _ → Type 0 = λ s. AreRead gives s back c in subst P first second
read_behind gives (reading ∷ rest) back a b c first second =
    (first.0, first.1, read_behind gives rest back first.0 b c first.2 second)

-- the files of one more context
pub one_context_more : {S : Type 0} (gives : Giving S) (config : List ℕ) (texts next : List ContextTexts) (last : ContextTexts) (a b c : S)
    → next ≡ texts ++ last ∷ []
    → AreRead gives a (flat_map (context_readings config) texts) b
    → AreRead gives b (context_readings config last) c
    → AreRead gives a (flat_map (context_readings config) next) c
one_context_more gives config texts next last a b c pushed before here =
    rw (pushed, flat_map-append, append-nil) (read_behind gives (flat_map (context_readings config) texts) (context_readings config last) a b c before here)
