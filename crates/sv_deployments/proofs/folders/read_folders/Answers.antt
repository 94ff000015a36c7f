use Rattle.std.proofs.Common.{arith}
use Rattle.std.proofs.lemmas.Grind.{common_steps}
use Rattle.sv_deployments.proofs.FolderReadings.{one_folder_more}
use Rattle.sv_deployments.proofs.folders.read_folders.Goals as goal

pub loop-texts-preserved : goal.loop-texts-preserved
loop-texts-preserved g c = (
  grind (arith, common_steps),
  grind (arith, common_steps),
  one_folder_more g.S.FolderStore.gives_files c.args.config.now c.loop-texts.found.items c.push.new.self.items (record { texts = c.in-Some.texts; files = c.in_ok-files.files }) c.args.store.now c.loop-texts.store c.read_folder.new.store
      c.in_ok-push.ensures.items c.loop-texts.invariant.2 (rw c.as_str.ensures at c.in_ok-files.ensures),
)
