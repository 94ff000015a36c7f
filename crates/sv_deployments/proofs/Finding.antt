-- The configuration of a server, from the results of its parts.
use Rattle.std.proofs.Common.{◌≡◌, ℕ, List, [], ◌∷◌, map, Option, Some, None, MatchOption, Result, Ok, Err, IsErrAnd, refl, ap}
use Rattle.sv_descriptor.specs.declared.server.Server.{Server}
use Rattle.sv_program.specs.CommandFault.{command_fault}
use Rattle.sv_program.specs.Configuration.{Step, each, server_in}
use Rattle.sv_program.specs.ConfigurationFiles.{ReadsContexts, ReadsServer}
use Rattle.sv_program.specs.FileStore.{FileText, Giving}
use Rattle.sv_program.specs.declared.command_fault.CommandFault.{CommandFault}
use Rattle.sv_program.specs.declared.configuration.ContextTexts.{ContextTexts}
use Rattle.sv_deployments.specs.Configuration.{AreGiven, Configured, FindsConfiguration, IsConfiguration, configured}
use Rattle.sv_deployments.specs.Deployments.{Deployed, deployment_of}
use Rattle.sv_deployments.specs.Folders.{FolderGiving, ReadsFolders}
use Rattle.sv_deployments.specs.declared.configuration.Configuration as declared
use Rattle.sv_deployments.specs.declared.folders.FoundContext.{FoundContext}

contexts_kept : (found : List FoundContext) → map (λ context. context.texts.context) found ≡ map (λ text. text.context) (map (λ context. context.texts) found)
contexts_kept [] = refl
contexts_kept (context ∷ rest) = ap (λ others. context.texts.context ∷ others) (contexts_kept rest)

module _ {S : Type 0} (gives_text : Giving S) (gives_files : FolderGiving S) (config : List ℕ) where
  -- a fault of the server file ends the reading before any other file is read
  pub without_server : (fault : CommandFault) (result : Result declared.Configuration CommandFault) (before after : S)
      → ReadsServer gives_text config before (Err fault) after → IsErrAnd result (λ e. e ≡ fault)
      → FindsConfiguration gives_text gives_files config result before after
  without_server fault (Ok done) before after read same = absurd same
  without_server fault (Err e) before after read same = rw same (at (command_fault fault) read)
    where
      at : (seen : Option CommandFault)
          → MatchOption seen (Unit {0}) (λ _. (file : FileText) × gives_text before config file after × MatchOption seen (Unit {0}) (λ f. server_in config file ≡ Err f))
          → MatchOption seen (Unit {0}) (λ _. (configuration : Step Configured) × IsConfiguration gives_text gives_files config configuration before after × MatchOption seen (Unit {0}) (λ f. configuration ≡ Err f))
      at None h = tt
      at (Some f) h =
          let failed : server_in config h.0 ≡ Err f = h.2 in
          (Err f, (h.0, [], (after, rw failed refl, (after, h.1, refl), refl), rw failed refl), refl)

  -- the files were read in order
  pub are_given : (file : FileText) (server : Server) (texts : List ContextTexts) (found : List FoundContext) (a b c d : S)
      → gives_text a config file b → server_in config file ≡ Ok server
      → ReadsContexts gives_text config server.contexts b texts c → ReadsFolders gives_files config texts c found d
      → AreGiven gives_text gives_files config file found a d
  are_given file server texts found a b c d gave is_server read walked =
      let same : map (λ context. context.texts) found ≡ texts = walked.0 in
      (c, rw (is_server, contexts_kept, same) read.0, rw same (b, gave, read.1), walked.1)

  -- a fault of a context ends the reading
  pub fault_ends : (fault : CommandFault) (result : Result declared.Configuration CommandFault) (server : Server) (texts : List ContextTexts) (found : List FoundContext) (a b c d : S)
      → ReadsServer gives_text config a (Ok server) b
      → ReadsContexts gives_text config server.contexts b texts c → ReadsFolders gives_files config texts c found d
      → MatchOption (command_fault fault) (Unit {0}) (λ f. each deployment_of found ≡ Err f) → IsErrAnd result (λ e. e ≡ fault)
      → FindsConfiguration gives_text gives_files config result a d
  fault_ends fault (Ok done) server texts found a b c d first read walked failed same = absurd same
  fault_ends fault (Err e) server texts found a b c d first read walked failed same =
      rw same (at (command_fault fault) failed)
    where
      at : (seen : Option CommandFault) → MatchOption seen (Unit {0}) (λ f. each deployment_of found ≡ Err f)
          → MatchOption seen (Unit {0}) (λ _. (configuration : Step Configured) × IsConfiguration gives_text gives_files config configuration a d × MatchOption seen (Unit {0}) (λ f. configuration ≡ Err f))
      at None h = tt
      at (Some f) h =
          let is_server : server_in config first.0 ≡ Ok server = first.2 in
          let is_fault : each deployment_of found ≡ Err f = h in
          (Err f, (first.0, found, are_given first.0 server texts found a b c d first.1 is_server read walked, rw (is_server, is_fault) refl), refl)

  -- without a fault, the configuration is the one that was read
  pub is_configured : (given : declared.Configuration) (server : Server) (texts : List ContextTexts) (found : List FoundContext) (made : List Deployed) (a b c d : S)
      → ReadsServer gives_text config a (Ok server) b
      → ReadsContexts gives_text config server.contexts b texts c → ReadsFolders gives_files config texts c found d
      → each deployment_of found ≡ Ok made → configured given ≡ record { port = server.port; seed = server.seed; deployments = made }
      → FindsConfiguration gives_text gives_files config (Ok given) a d
  is_configured given server texts found made a b c d first read walked all same =
      let is_server : server_in config first.0 ≡ Ok server = first.2 in
      (Ok (configured given), (first.0, found, are_given first.0 server texts found a b c d first.1 is_server read walked, rw (is_server, all) (ap Ok same)), refl)
