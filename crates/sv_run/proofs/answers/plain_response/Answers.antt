use Rattle.std.proofs.Common.{codes, refl}
use Rattle.http_header.proofs.TokenLemmas.{IsFieldName-from_test}
use Rattle.sv_run.proofs.answers.plain_response.Goals as goal

pub copy_of-requires-clause-name : goal.copy_of-requires-clause-name
copy_of-requires-clause-name c = IsFieldName-from_test (codes "content-type") refl
