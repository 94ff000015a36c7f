use Rattle.std.proofs.Common.{◌≡◌, ◌++◌, map, flat_map}
use Rattle.std.specs.Vec.Iter.{into_iter_items}
use Rattle.sv_program.specs.ConfigurationFiles.{context_readings}
use Rattle.sv_program.specs.FileStore.{AreRead}
use Rattle.sv_program.proofs.configuration_files.read_contexts.Given as goal

-- the texts read so far belong to the contexts passed so far, and the store gave them
abbrev pub invariant-loop-context : goal.invariant-loop-context
invariant-loop-context g l =
    (map (λ text. text.context) l.texts.items ≡ l.yielded) × (l.yielded ++ into_iter_items l.context-iterator ≡ l.fn.contexts)
    × AreRead g.S.FileStore.gives_text l.fn.store (flat_map (context_readings l.config) l.texts.items) l.store
