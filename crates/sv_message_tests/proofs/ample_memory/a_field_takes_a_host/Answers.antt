use Rattle.std.proofs.Common.{codes, refl}
use Rattle.http_header.proofs.TokenLemmas.{IsFieldName-from_test}
use Rattle.sv_message_tests.proofs.ample_memory.a_field_takes_a_host.Goals as goal

pub copy_of-requires-clause-name : goal.copy_of-requires-clause-name
copy_of-requires-clause-name g c = IsFieldName-from_test (codes "HOST") refl
