-- The seed of a start.
use Rattle.std.specs.Prelude.{◌≡◌, ℕ, List, length, Result, Ok, Err}
use Rattle.sv_program.specs.declared.command_fault.CommandFault.{CommandFault}
use Rattle.sv_program.specs.declared.command_fault.CommandFault.TheVariants.{File, NoMemory}
use Rattle.sv_listening.specs.declared.seed.Seeding.{Seeding}
use Rattle.sv_listening.specs.declared.seed.Seeding.TheVariants.{Configured, Fresh}
use Rattle.sv_listening.specs.declared.seed.TheConstants.{RANDOM_SOURCE}

-- The system's random source failed, or memory ran out.
abbrev pub IsRandomFault : CommandFault → Type 0
IsRandomFault (File name why) = name ≡ RANDOM_SOURCE.now
IsRandomFault NoMemory = Unit {0}
IsRandomFault other = ⊥

-- A fresh seed is any 32 bytes, unless the system's random source failed or memory ran out. A configured one is that of
-- the server file.
abbrev pub GivesSeed : Seeding → List ℕ → Result (List ℕ) CommandFault → Type 0
GivesSeed Fresh configured (Ok seed) = length seed ≡ 32
GivesSeed Fresh configured (Err fault) = IsRandomFault fault
GivesSeed Configured configured result = result ≡ Ok configured

abbrev pub HasSeedLength : Result (List ℕ) CommandFault → Type 0
HasSeedLength (Ok seed) = length seed ≡ 32
HasSeedLength (Err fault) = Unit {0}
