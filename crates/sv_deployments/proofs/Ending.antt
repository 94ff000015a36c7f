-- The fault of a part is the fault of the whole.
use Rattle.std.proofs.Common.{◌≡◌, ℕ, List, Option, Some, None, MatchOption, Result, Ok, Err, IsErrAnd, refl}
use Rattle.sv_text.specs.Gives.{Gives}
use Rattle.sv_files.specs.Fault.{bad_path, files_of, large_path}
use Rattle.sv_files.specs.declared.fault.FilesFault.{FilesFault}
use Rattle.sv_files.specs.declared.files.File.{File}
use Rattle.sv_deployments.specs.Parts.{seen}
use Rattle.sv_program.specs.CommandFault.{command_fault}
use Rattle.sv_program.specs.Configuration.{Step}
use Rattle.sv_program.specs.declared.command_fault.CommandFault.{CommandFault}
use Rattle.sv_program.specs.declared.command_fault.CommandFault.TheVariants as fault
use Rattle.sv_deployments.specs.FilesFault.{refusal, served_files}
use Rattle.sv_deployments.specs.Results.{both}

-- if the whole fails with the fault of a part, a fault of that part is its result
pub ends : {A B X : Type 0} (view : A → B) (fault : CommandFault) (result : Result A CommandFault) (part : Step X) (whole : Step B)
    → ((found : CommandFault) → part ≡ Err found → whole ≡ Err found)
    → MatchOption (command_fault fault) (Unit {0}) (λ found. part ≡ Err found) → IsErrAnd result (λ e. e ≡ fault)
    → Gives command_fault (seen view result) whole
ends view fault (Ok done) part whole comes failed same = absurd same
ends {B = B} {X = X} view fault (Err e) part whole comes failed same = rw same (at (command_fault fault) failed)
  where
    at : (found : Option CommandFault) → MatchOption found (Unit {0}) (λ f. part ≡ Err f) → MatchOption found (Unit {0}) (λ f. whole ≡ Err f)
    at None h = tt
    at (Some f) h = comes f h

-- the result for a list of files that is refused
pub refused_files : (path : List ℕ) (listed : List File) (bad large : Option (List ℕ)) (found : Option FilesFault) (result : Step (List File))
    → bad ≡ bad_path listed → large ≡ large_path listed
    → MatchOption found (Unit {0}) (λ f. files_of listed ≡ Err f)
    → MatchOption found (result ≡ Err fault.NoMemory) (λ f. Gives command_fault result (Err (refusal path bad large f)))
    → Gives command_fault result (served_files path listed)
refused_files path listed bad large None result is_bad is_large h said = rw said tt
refused_files path listed bad large (Some f) result is_bad is_large h said = rw h (rw (is_bad, is_large) at said)

-- the result is both readings, or the first fault
pub both_given : {A B : Type 0} (one : Result A CommandFault) (other : Result B CommandFault) (first : Step A) (second : Step B)
    → Gives command_fault one first → Gives command_fault other second → Gives command_fault (both one other) (both first second)
both_given (Ok a) (Ok b) first second given then = rw (given, then) refl
both_given {A} {B} (Ok a) (Err e) first second given then = at (command_fault e) then
  where
    at : (found : Option CommandFault) → MatchOption found (Unit {0}) (λ f. second ≡ Err f) → MatchOption found (Unit {0}) (λ f. both first second ≡ Err f)
    at None h = tt
    at (Some f) h = rw (given, h) refl
both_given {A} {B} (Err e) other first second given then = at (command_fault e) given
  where
    at : (found : Option CommandFault) → MatchOption found (Unit {0}) (λ f. first ≡ Err f) → MatchOption found (Unit {0}) (λ f. both first second ≡ Err f)
    at None h = tt
    at (Some f) h = rw h refl
