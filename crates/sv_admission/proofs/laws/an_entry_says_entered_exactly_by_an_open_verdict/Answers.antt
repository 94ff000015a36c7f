use Rattle.std.proofs.Common.{ap}
use Rattle.sv_admission.specs.Admission.{outcome_in}
use Rattle.sv_login.specs.OutcomeEntry.{outcome_entry}
use Rattle.sv_admission.specs.Laws.{message_findings}
use Rattle.sv_admission.proofs.Entering.{entered_by}
use Rattle.sv_admission.proofs.laws.an_entry_says_entered_exactly_by_an_open_verdict.Goals as goal

pub returns : goal.returns
returns c = λ content standing users asked store.
    let law = c.a_message_enters_exactly_by_an_open_verdict.ensures (message_findings content standing users asked store) in (
      (λ h. law.0 (entered_by content.context_path asked.canon.path (outcome_in content standing users asked store) h)),
      (λ open_verdict. ap (outcome_entry content.context_path asked.canon.path) (law.1 open_verdict)),
    )
