-- The texts of the calls of components, and of their answers (Jakarta Servlet 6.0, chapters 2 and 6).
use Rattle.std.specs.Prelude.{ℕ, List, ◌++◌, codes, Some, None}
use Rattle.std.specs.Fmt.{decimal}
use Rattle.sv_journal.specs.declared.answer.Answer.{Answer}
use Rattle.sv_journal.specs.declared.answer.Answer.TheVariants.{Ready, Pass, Stop, Done, Forward, Include, Error, Failed, Unavailable, NoMemory}
use Rattle.sv_journal.specs.declared.calls.CallName.{CallName}
use Rattle.sv_journal.specs.declared.calls.CallName.TheVariants.{Init, Service, Before, After, Destroy}
use Rattle.sv_journal.specs.declared.calls.Component.{Component}
use Rattle.sv_journal.specs.declared.calls.Component.TheVariants.{Servlet, Filter}

abbrev pub component_text : Component → List ℕ
component_text (Servlet name) = codes "servlet " ++ name
component_text (Filter name) = codes "filter " ++ name

abbrev pub call_text : CallName → List ℕ
call_text Init = codes "init"
call_text (Service turn) = codes "service " ++ decimal turn
call_text Before = codes "before"
call_text After = codes "after"
call_text Destroy = codes "destroy"

abbrev pub answer_text : Answer → List ℕ
answer_text Ready = codes "Ready"
answer_text Pass = codes "Pass"
answer_text Stop = codes "Stop"
answer_text Done = codes "Done"
answer_text (Forward path) = codes "Forward " ++ path
answer_text (Include path) = codes "Include " ++ path
answer_text (Error code) = codes "Error " ++ decimal code
answer_text (Failed (Some kind)) = codes "Failed " ++ kind
answer_text (Failed None) = codes "Failed"
answer_text Unavailable = codes "Unavailable"
answer_text NoMemory = codes "NoMemory"
