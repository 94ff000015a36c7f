-- The tests of `http_header` for a name and a value agree with the field test of this crate.
use Rattle.std.proofs.Common.{◌≡◌, ℕ, ◌&&◌, List, refl}
use Rattle.std.specs.List.{list_all}
use Rattle.http_header.specs.FieldName.{is_field_name}
use Rattle.http_header.specs.Token.{is_token_byte, is_value_byte}
use Rattle.sv_exchange.specs.Fields.{is_field}

pub tests_field : (name value : List ℕ) → (is_field_name name && list_all is_value_byte value) ≡ is_field name value
unfolding is_token_byte
tests_field name value = refl
