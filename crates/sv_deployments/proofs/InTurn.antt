-- The deployment of a context, from its readings in order.
use Rattle.std.proofs.Common.{◌≡◌, Ok, Err, refl}
use Rattle.sv_text.specs.Steps.{◌>>=◌}
use Rattle.sv_deployments.specs.Results.{both}
use Rattle.sv_program.specs.Configuration.{Step, descriptor_in, users_in}
use Rattle.sv_program.specs.declared.command_fault.CommandFault.{CommandFault}
use Rattle.sv_program.specs.declared.configuration.ContextTexts.{ContextTexts}
use Rattle.sv_deployments.specs.Deployments.{components_in, deployment_for, read_of}
use Rattle.sv_deployments.specs.Files.{files_in}
use Rattle.sv_deployments.specs.Folders.{FolderFiles}

in_turn : {A B C D : Type 0} (one : Step A) (other : Step B) (last : Step C) (next : A → B → C → Step D)
    → (one >>= λ a. other >>= λ b. last >>= λ c. next a b c) ≡ (both (both one other) last >>= λ read. next read.0.0 read.0.1 read.1)
in_turn (Ok a) (Ok b) (Ok c) next = refl
in_turn (Ok a) (Ok b) (Err fault) next = refl
in_turn (Ok a) (Err fault) last next = refl
in_turn (Err fault) other last next = refl

-- the deployment consists of the readings and the components made from them
pub as_read : (texts : ContextTexts) (found : FolderFiles)
    → deployment_for texts found ≡ (read_of texts found >>= λ read. components_in texts read.0.0 >>= λ parts.
    Ok (record { path = texts.context.path; descriptor = read.0.0; files = read.1; users = read.0.1; parts = parts }))
as_read texts found =
    in_turn (descriptor_in texts) (users_in texts) (files_in texts.context found) (λ descriptor users files. components_in texts descriptor >>= λ parts.
    Ok (record { path = texts.context.path; descriptor = descriptor; files = files; users = users; parts = parts }))

-- if the first part was read, a fault is one of the other part
pub fault_beside : {A B : Type 0} (read : A) (other : Step B) (fault : CommandFault) → Err fault ≡ both (Ok read) other → other ≡ Err fault
fault_beside read (Ok b) fault same = cc
fault_beside read (Err f) fault same = cc

-- if the first part was read, the result is that part and the other
pub given_beside : {A B : Type 0} (read : A) (other : Step B) (pair : A × B) → Ok pair ≡ both (Ok read) other → (pair.0 ≡ read) × (other ≡ Ok pair.1)
given_beside read (Ok b) pair same = let is : pair ≡ (read, b) = cc in rw is (refl, refl)
given_beside read (Err f) pair same = cc
