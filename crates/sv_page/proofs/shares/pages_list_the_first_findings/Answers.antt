use Rattle.sv_page.specs.declared.shares.TheConstants.{MAX_LISTED_FINDINGS}
use Rattle.sv_page.proofs.ShareLemmas as lemmas
use Rattle.sv_page.proofs.shares.pages_list_the_first_findings.Goals as goal

pub returns-clause-few : goal.returns-clause-few
returns-clause-few c = lemmas.few (λ context. context.findings) MAX_LISTED_FINDINGS

pub returns-clause-first : goal.returns-clause-first
returns-clause-first c = lemmas.first (λ context. context.findings) MAX_LISTED_FINDINGS

pub returns-clause-all : goal.returns-clause-all
returns-clause-all c = lemmas.all (λ context. context.findings) MAX_LISTED_FINDINGS
