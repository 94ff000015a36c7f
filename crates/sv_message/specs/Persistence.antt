-- Whether a connection stays open after a request (RFC 9112, section 9.3, and RFC 9110, section 7.6.1).
use Rattle.std.specs.Prelude.{ℕ, Bool, ◌&&◌, not, List, ◌==◌, codes}
use Rattle.std.specs.List.{list_any}
use Rattle.sv_message.specs.declared.field.Field.{Field}
use Rattle.sv_message.specs.Fields.{values_of, has_member}

-- A 1.1 request keeps the connection open unless it asks to close it. A 1.0 request never does, which is this server's
-- own rule.
abbrev pub keeps : ℕ → List Field → Bool
keeps minor fields = minor == 1 && not (list_any (has_member (codes "close")) (values_of (codes "connection") fields))
