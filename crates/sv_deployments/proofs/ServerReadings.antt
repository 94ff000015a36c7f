-- The check of a server, from the files and folders that were read.
use Rattle.std.proofs.Common.{◌≡◌, ℕ, List, Ok, refl, ap}
use Rattle.sv_descriptor.specs.declared.server.Server.{Server}
use Rattle.sv_program.specs.Configuration.{server_in}
use Rattle.sv_program.specs.ConfigurationFiles.{ReadsContexts, ReadsServer}
use Rattle.sv_program.specs.FileStore.{Giving}
use Rattle.sv_program.specs.declared.configuration.ContextTexts.{ContextTexts}
use Rattle.sv_deployments.specs.Check.{FindsChecked, checked_server}
use Rattle.sv_deployments.specs.Folders.{FolderGiving, ReadsFolders}
use Rattle.sv_deployments.specs.declared.check.CheckedServer.{CheckedServer}
use Rattle.sv_deployments.specs.declared.folders.FoundContext.{FoundContext}
use Rattle.sv_deployments.proofs.Finding.{are_given}

pub is_checked : {S : Type 0} (gives_text : Giving S) (gives_files : FolderGiving S) (config : List ℕ) (result : CheckedServer)
    (server : Server) (texts : List ContextTexts) (found : List FoundContext) (a b c d : S)
    → ReadsServer gives_text config a (Ok server) b
    → ReadsContexts gives_text config server.contexts b texts c → ReadsFolders gives_files config texts c found d
    → result ≡ checked_server found → FindsChecked gives_text gives_files config (Ok result) a d
is_checked gives_text gives_files config result server texts found a b c d first read walked same =
    let is_server : server_in config first.0 ≡ Ok server = first.2 in
    (Ok result, (first.0, found, are_given gives_text gives_files config first.0 server texts found a b c d first.1 is_server read walked, rw is_server (ap Ok same)), refl)
