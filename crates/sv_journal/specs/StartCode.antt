-- The numbers and names of the reasons why a context or a container did not start.
use Rattle.std.specs.Prelude.{ℕ, ◌+◌, List, codes}
use Rattle.sv_journal.specs.declared.start_code.NewCode.{NewCode}
use Rattle.sv_journal.specs.declared.start_code.NewCode.TheVariants.{DuplicateContext, TooManyContexts, Start}
use Rattle.sv_journal.specs.declared.start_code.StartCode.{StartCode}
use Rattle.sv_journal.specs.declared.start_code.StartCode.TheVariants.{PartsMismatch, InitFailed, NoMemory}

abbrev pub start_code_number : StartCode → ℕ
start_code_number PartsMismatch = 1
start_code_number (InitFailed place) = 2
start_code_number NoMemory = 3

abbrev pub start_code_name : StartCode → List ℕ
start_code_name PartsMismatch = codes "PartsMismatch"
start_code_name (InitFailed place) = codes "InitFailed"
start_code_name NoMemory = codes "NoMemory"

abbrev pub new_code_number : NewCode → ℕ
new_code_number DuplicateContext = 1
new_code_number TooManyContexts = 2
new_code_number (Start code) = 10 + start_code_number code

abbrev pub new_code_name : NewCode → List ℕ
new_code_name DuplicateContext = codes "DuplicateContext"
new_code_name TooManyContexts = codes "TooManyContexts"
new_code_name (Start code) = start_code_name code
