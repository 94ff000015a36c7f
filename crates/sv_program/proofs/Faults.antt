-- The faults that the texts of files can have.
use Rattle.std.proofs.Common.{◌≡◌, ℕ, List, [], ◌∷◌, Ok, Err, refl, subst}
use Rattle.sv_descriptor.specs.Fault.{Located}
use Rattle.sv_text.specs.Steps.{◌>>=◌}
use Rattle.sv_program.specs.Configuration.{Step, each, read_from, text_of}
use Rattle.sv_program.specs.FileStore.{FileText}
use Rattle.sv_program.specs.declared.command_fault.CommandFault.{CommandFault}
use Rattle.sv_program.specs.declared.command_fault.CommandFault.TheVariants.{Input, Output, File, Descriptor}
use Rattle.sv_program.specs.declared.command_fault.CommandFault.TheVariants as command

-- faults of standard streams are excluded
abbrev pub IsAsked : CommandFault → Type 0
IsAsked Input = ⊥
IsAsked Output = ⊥
IsAsked other = Unit {0}

abbrev pub FaultsAreAsked : {A : Type 0} → Step A → Type 0
FaultsAreAsked step = (fault : CommandFault) → step ≡ Err fault → IsAsked fault

abbrev failed : {A : Type 0} → CommandFault → Step A
failed fault = Err fault

only : {A : Type 0} (one fault : CommandFault) → IsAsked one → failed {A = A} one ≡ failed fault → IsAsked fault
only one fault asked h = let same : one ≡ fault = cc in subst IsAsked same asked

pub then : {A B : Type 0} (step : Step A) (next : A → Step B) → FaultsAreAsked step → ((a : A) → FaultsAreAsked (next a)) → FaultsAreAsked (step >>= next)
then (Ok a) next first second = second a
then (Err one) next first second = λ fault h. only one fault (first one refl) h

pub done : {A : Type 0} (a : A) → FaultsAreAsked (Ok a)
done a = λ fault h. cc

pub text_asked : (name : List ℕ) (text : FileText) → FaultsAreAsked (text_of name text)
text_asked name (Ok text) = done text
text_asked name (Err why) = λ fault h. only (File name why) fault tt h

pub descriptor_asked : (path name text : List ℕ) {A : Type 0} (read : Located A) → FaultsAreAsked (read_from (Descriptor path) name text read)
descriptor_asked path name text (Ok a) = done a
descriptor_asked path name text (Err found) = λ fault h. only (Descriptor path (record { file = name; text = text; found = found })) fault tt h

pub each_asked : {A B : Type 0} (step : A → Step B) → ((a : A) → FaultsAreAsked (step a)) → (items : List A) → FaultsAreAsked (each step items)
each_asked step asked [] = done []
each_asked step asked (a ∷ rest) = then (step a) _ (asked a) (λ b. then (each step rest) _ (each_asked step asked rest) (λ bs. done (b ∷ bs)))

pub server_asked : (name text : List ℕ) {A : Type 0} (read : Located A) → FaultsAreAsked (read_from command.Server name text read)
server_asked name text (Ok a) = done a
server_asked name text (Err found) = λ fault h. only (command.Server (record { file = name; text = text; found = found })) fault tt h
