-- Heads that are too long for their limit (RFC 9112, sections 2.2 and 3).
use Rattle.std.specs.Prelude.{ℕ, Bool, List, ◌++◌, codes, length, nat_lt}
use Rattle.sv_wire.specs.declared.limits.TheConstants.{MAX_HEAD_LEN}

-- The shortest head with this method and this target. HTTP/1.0 needs no field, and lines may end in LF.
abbrev pub shortest_head : List ℕ → List ℕ → List ℕ
shortest_head method target = method ++ codes " " ++ target ++ codes " HTTP/1.0\n\n"

-- Whether no head with this method and this target ends within its limit.
abbrev pub is_too_long : List ℕ → List ℕ → Bool
is_too_long method target = nat_lt MAX_HEAD_LEN (length (shortest_head method target))
