use Rattle.std.proofs.Common.{◌≡◌, ◌++◌, map, flat_map}
use Rattle.std.specs.Vec.Iter.{into_iter_items}
use Rattle.sv_deployments.specs.Folders.{AreFound, context_readings}
use Rattle.sv_deployments.proofs.folders.read_folders.Given as goal

-- the contexts found so far have the texts passed so far, and the store gave their folders
abbrev pub invariant-loop-texts : goal.invariant-loop-texts
invariant-loop-texts g l =
    (map (λ context. context.texts) l.found.items ≡ l.yielded) × (l.yielded ++ into_iter_items l.texts-iterator ≡ l.fn.contexts)
    × AreFound g.S.FolderStore.gives_files l.fn.store (flat_map (context_readings l.config) l.found.items) l.store
