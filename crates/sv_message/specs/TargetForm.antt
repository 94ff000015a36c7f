-- The forms of a request target (RFC 9112, section 3.2).
use Rattle.std.specs.Prelude.{◌≡◌, ℕ, ◌+◌, ◌≤◌, Bool, true, ◌&&◌, ◌||◌, List, ◌++◌, length, take, drop, ◌==◌, nat_eq, nat_lt, bytes_eq, codes, if◌then◌else◌, ⊤}
use Rattle.std.specs.List.{starts_with, position_or_len}
use Rattle.http_header.specs.Token.{lowercase}
use Rattle.sv_message.specs.declared.target.TargetForm.{TargetForm}
use Rattle.sv_message.specs.declared.target.TargetForm.TheVariants.{Origin, Absolute, Star, Unknown}
use Rattle.sv_message.specs.Host.{is_host}

-- A path begins with a slash.
abbrev pub is_path : List ℕ → Bool
is_path target = starts_with nat_eq target (codes "/")

-- An authority ends before the first slash or question mark.
abbrev pub is_behind_authority : ℕ → Bool
is_behind_authority b = b == 47 || b == 63

-- The scheme of an absolute form, and the text after it.
abbrev pub scheme : List ℕ
scheme = codes "http://"

abbrev pub behind_scheme : List ℕ → List ℕ
behind_scheme target = drop (length scheme) target

-- Whether a target begins with the scheme, in any case.
abbrev pub has_scheme : List ℕ → Bool
has_scheme target = bytes_eq (lowercase (take (length scheme) target)) scheme

-- The length of the authority at the start of the text after the scheme.
abbrev pub authority_len : List ℕ → ℕ
authority_len behind = position_or_len is_behind_authority behind

-- The authority of an absolute form.
abbrev pub authority_of : List ℕ → List ℕ
authority_of target = take (authority_len (behind_scheme target)) (behind_scheme target)

-- A path and its query, with a slash added if the path is empty.
abbrev pub with_slash : List ℕ → List ℕ
with_slash path = if is_path path then path else codes "/" ++ path

-- The path of an absolute form, with its query.
abbrev pub path_of : List ℕ → List ℕ
path_of target = with_slash (drop (authority_len (behind_scheme target)) (behind_scheme target))

-- An authority is a host that is not empty.
abbrev pub is_authority : List ℕ → Bool
is_authority text = nat_lt 0 (length text) && is_host text

-- The form of a target, by the request's method. CONNECT asks for a tunnel and has no form here.
abbrev pub target_form : List ℕ → List ℕ → TargetForm
target_form method target =
    if bytes_eq method (codes "CONNECT") then Unknown
    else if is_path target then Origin
    else if has_scheme target && is_authority (authority_of target) then Absolute (authority_len (behind_scheme target))
    else if bytes_eq target (codes "*") && bytes_eq method (codes "OPTIONS") then Star
    else Unknown

-- The authority of an absolute form lies within the target, and it is a host.
abbrev pub FitsForm : TargetForm → List ℕ → Type 0
FitsForm Origin target = ⊤
FitsForm (Absolute len) target =
    (len ≡ authority_len (behind_scheme target)) × (length scheme + len ≤ length target) × (is_host (authority_of target) ≡ true)
FitsForm Star target = ⊤
FitsForm Unknown target = ⊤
