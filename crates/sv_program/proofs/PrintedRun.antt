-- A command's run, given the text that it prints.
use Rattle.std.proofs.Common.{◌≡◌, ℕ, List, Option, Some, None, MatchOption, Result, Ok, Err, IsErrAnd}
use Rattle.sv_program.specs.CommandFault.{command_fault}
use Rattle.sv_program.specs.Configuration.{Step}
use Rattle.sv_program.specs.Printed.{EndsBy, FindsText, Printing, Prints}
use Rattle.sv_program.specs.declared.command_fault.CommandFault.{CommandFault}
use Rattle.sv_program.specs.declared.command_fault.CommandFault.TheVariants.{Input, Output, File, Folder, Server, Descriptor, Users, Class, Files, Start, Socket, Script, User, Role, Method, Refused, NoMemory, Findings, Faults}
use Rattle.sv_program.proofs.Faults.{FaultsAreAsked}

-- a fault of the text ends the run
ends : (fault : CommandFault) (text : Step (List ℕ)) (old : Option (List ℕ)) → FaultsAreAsked text → MatchOption (command_fault fault) (Unit {0}) (λ f. text ≡ Err f)
    → MatchOption (command_fault fault) (Unit {0}) (λ _. EndsBy text (Err fault) old old)
ends Input text old asked h = absurd (asked Input h)
ends Output text old asked h = absurd (asked Output h)
ends (File name why) text old asked h = h
ends (Folder name entry) text old asked h = h
ends (Server faulty) text old asked h = h
ends (Descriptor context faulty) text old asked h = h
ends (Users context faulty) text old asked h = h
ends (Class name place known) text old asked h = h
ends (Files context found path) text old asked h = h
ends (Start code context) text old asked h = h
ends (Socket found) text old asked h = h
ends (Script at) text old asked h = h
ends (User shown) text old asked h = h
ends (Role shown) text old asked h = h
ends (Method shown) text old asked h = h
ends (Refused refusal) text old asked h = h
ends NoMemory text old asked h = tt
ends (Findings count) text old asked h = h
ends (Faults count) text old asked h = h

module _ {S : Type 0} (Is : Printing S) (are_asked : (text : Step (List ℕ)) (before after : S) → Is text before after → FaultsAreAsked text) where
  -- if the text has a fault, the run ends with that fault
  pub fault_prints : (fault : CommandFault) (result : Result (Unit {0}) CommandFault) (before after : S) (old : Option (List ℕ))
      → FindsText Is (Err fault) before after → IsErrAnd result (λ e. e ≡ fault)
      → Prints Is result before after old old
  fault_prints fault (Ok done) before after old found same = absurd same
  fault_prints fault (Err e) before after old found same = rw same (at (command_fault fault) found (λ text asked. ends fault text old asked))
    where
      at : (seen : Option CommandFault)
          → MatchOption seen (Unit {0}) (λ _. (text : Step (List ℕ)) × Is text before after × MatchOption seen (Unit {0}) (λ f. text ≡ Err f))
          → ((text : Step (List ℕ)) → FaultsAreAsked text → MatchOption seen (Unit {0}) (λ f. text ≡ Err f) → MatchOption seen (Unit {0}) (λ _. EndsBy text (Err fault) old old))
          → MatchOption seen (Unit {0}) (λ _. (text : Step (List ℕ)) × Is text before after × EndsBy text (Err fault) old old)
      at None h end = tt
      at (Some f) h end = (h.0, h.1, end h.0 (are_asked h.0 before after h.1) h.2)
