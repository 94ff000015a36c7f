use Rattle.std.proofs.Common.{codes, refl}
use Rattle.http_header.proofs.TokenLemmas.{IsFieldName-from_test}
use Rattle.sv_message_tests.proofs.ample_memory.a_field_is_copied.Goals as goal

pub copy_of-field-requires-clause-name : goal.copy_of-field-requires-clause-name
copy_of-field-requires-clause-name g c = IsFieldName-from_test (codes "HOST") refl
