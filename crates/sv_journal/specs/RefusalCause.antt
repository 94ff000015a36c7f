-- The causes of messages that the container itself answers: their numbers, names and texts.
use Rattle.std.specs.Prelude.{ℕ, ◌+◌, List, ◌++◌, codes}
use Rattle.sv_constraints.specs.Decision.{why_text}
use Rattle.sv_uri.specs.Fault.{fault_name as path_name, fault_number as path_number}
use Rattle.sv_wire.specs.WireFault.{fault_name as wire_name, fault_number as wire_number}
use Rattle.sv_journal.specs.declared.refusal_cause.RefusalCause.{RefusalCause}
use Rattle.sv_journal.specs.declared.refusal_cause.RefusalCause.TheVariants.{Wire, Path, Star, NoContext, Protected, LoggedIn, LoginFailed, NoSession, Denied, NoLogin}

abbrev pub cause_number : RefusalCause → ℕ
cause_number (Wire fault) = wire_number fault
cause_number (Path fault) = 10 + path_number fault
cause_number Star = 21
cause_number NoContext = 22
cause_number Protected = 23
cause_number LoggedIn = 24
cause_number LoginFailed = 25
cause_number NoSession = 26
cause_number (Denied why) = 27
cause_number (NoLogin why) = 28

-- The name, followed by the reason if there is one.
abbrev pub cause_text : RefusalCause → List ℕ
cause_text (Wire fault) = wire_name fault
cause_text (Path fault) = path_name fault
cause_text Star = codes "Star"
cause_text NoContext = codes "NoContext"
cause_text Protected = codes "Protected"
cause_text LoggedIn = codes "LoggedIn"
cause_text LoginFailed = codes "LoginFailed"
cause_text NoSession = codes "NoSession"
cause_text (Denied why) = codes "Denied " ++ why_text why
cause_text (NoLogin why) = codes "NoLogin " ++ why_text why
