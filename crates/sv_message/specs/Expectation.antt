-- The Expect field (RFC 9110, section 10.1.1).
use Rattle.std.specs.Prelude.{ℕ, Bool, ◌&&◌, List, length, ◌==◌, bytes_eq, codes}
use Rattle.std.specs.List.{list_all}
use Rattle.http_header.specs.Token.{lowercase}
use Rattle.sv_message.specs.declared.field.Field.{Field}
use Rattle.sv_message.specs.Fields.{values_of}

-- The only known expectation, in any case.
abbrev pub is_continue : List ℕ → Bool
is_continue value = bytes_eq (lowercase value) (codes "100-continue")

-- Whether there is exactly one expectation, and it is `100-continue`.
abbrev pub asks_to_continue : List Field → Bool
asks_to_continue fields = length (values_of (codes "expect") fields) == 1 && list_all is_continue (values_of (codes "expect") fields)
