-- The text of an explanation.
use Rattle.std.specs.Prelude.{ℕ, List, ◌++◌, codes}
use Rattle.sv_uri.specs.ContextPath.{shown_context}
use Rattle.sv_uri.specs.Fault.{fault_name}
use Rattle.sv_constraints.specs.Decision.{why_of, why_text, word}
use Rattle.sv_policy.specs.declared.explanation.Explanation.{Explanation}
use Rattle.sv_policy.specs.declared.explanation.Explanation.TheVariants.{Refused, Hidden, Decided}
use Rattle.sv_policy.specs.declared.explanation.HiddenCause.{HiddenCause}
use Rattle.sv_policy.specs.declared.explanation.HiddenCause.TheVariants.{NoContext, Protected}

abbrev pub hidden_name : HiddenCause → List ℕ
hidden_name NoContext = codes "NoContext"
hidden_name Protected = codes "Protected"

abbrev pub explanation_text : Explanation → List ℕ
explanation_text (Refused fault) = codes "refused cause=" ++ fault_name fault
explanation_text (Hidden cause) = codes "hidden cause=" ++ hidden_name cause
explanation_text (Decided context path decision) =
    word decision ++ codes " context=" ++ shown_context context ++ codes " path=" ++ path ++ codes " " ++ why_text (why_of decision)
