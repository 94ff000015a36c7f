-- The arguments of the command `serve`.
use Rattle.std.specs.Prelude.{ℕ, List, [], ◌∷◌}
use Rattle.sv_arguments.specs.declared.count.Count.{Count}
use Rattle.sv_arguments.specs.declared.service.Service.{Service}

abbrev pub count_words : Count → List (List ℕ)
count_words count = count.text.now ∷ []

abbrev pub service_words : Service → List (List ℕ)
service_words service = service.config.now ∷ count_words service.connections
