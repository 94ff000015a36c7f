-- The Host field (RFC 9112, section 3.2, and RFC 3986, section 3.2.2). The allowed bytes and the limit are this
-- server's own.
use Rattle.std.specs.Prelude.{ℕ, Bool, ◌&&◌, ◌||◌, List, length, map, ◌==◌, nat_le, codes, if◌then◌else◌}
use Rattle.std.specs.List.{list_all, list_any}
use Rattle.std.specs.Char.{is_ascii_alphanumeric}
use Rattle.http_header.specs.FieldValue.{plain_value}
use Rattle.sv_message.specs.declared.field.Field.{Field}
use Rattle.sv_message.specs.declared.limits.TheConstants.{MAX_HOST_LEN}
use Rattle.sv_message.specs.Fields.{is_named}

-- A letter, a digit, or one of the marks of a host and a port.
abbrev pub is_host_byte : ℕ → Bool
is_host_byte b = is_ascii_alphanumeric b || list_any (λ mark. mark == b) (codes "-._~%!$&'()*+,;=:[]")

-- Whether the value of a Host field is valid. An empty value is valid.
abbrev pub is_host : List ℕ → Bool
is_host value = nat_le (length value) MAX_HOST_LEN && list_all is_host_byte value

-- Whether a request with the minor version may have these Host fields: exactly one in 1.1, at most one in 1.0.
abbrev pub accepts_hosts : ℕ → List (List ℕ) → Bool
accepts_hosts minor hosts =
    list_all is_host hosts && (if minor == 1 then length hosts == 1 else nat_le (length hosts) 1)

-- The field with the host as its value, if it is a Host field.
abbrev pub with_host : List ℕ → Field → Field
with_host host field =
    if is_named (codes "host") field then record { name = field.name; value = plain_value host } else field

-- The fields, with the host as the value of every Host field.
abbrev pub with_hosts : List ℕ → List Field → List Field
with_hosts host fields = map (with_host host) fields
