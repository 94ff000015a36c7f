-- One segment of a path as it was written: its name and its faults. RFC 3986, sections 2.1 (escapes) and 3.3
-- (parameters); Jakarta Servlet 6.0, section 3.5.2 (parameters are removed, then escapes decoded; sequences to refuse).
use Rattle.std.specs.Prelude.{ℕ, ◌≡◌, Bool, false, ◌==◌, not, ◌&&◌, ◌||◌, nat_lt, List, [], ◌∷◌, ◌++◌, Result, Ok, Err, MatchOption, is_some, codes, drop}
use Rattle.std.specs.List.{list_any, slice_split}
use Rattle.std.specs.Char.{is_digit}
use Rattle.std.specs.Str.{byte, bytes_eq, is_utf8}
use Rattle.percent_encoding.specs.Percent.{percent_decode}
use Rattle.sv_uri.specs.declared.fault.PathFault.{PathFault}
use Rattle.sv_uri.specs.declared.fault.PathFault.TheVariants.{BadEscape, EncodedSlash, Backslash, Control, NotUtf8, DotSegment, EmptyParameter}
use Rattle.std.specs.Cow.{cow_slice_items}
use Rattle.std.specs.declared.borrow.CowSlice.{CowSlice}
use Rattle.sv_uri.specs.declared.fault.CanonFault.{CanonFault}
use Rattle.sv_text.specs.Faults.{when, first_or}
use Rattle.sv_uri.specs.Fault.{path_fault}
use Rattle.sv_uri.specs.Target.{before, behind}

-- The segment without its parameter.
abbrev pub raw_name : List ℕ → List ℕ
raw_name segment = before (byte ";") segment

-- The name of the segment: the part before its parameter, decoded once.
abbrev pub name_of : List ℕ → List ℕ
name_of segment = percent_decode (raw_name segment)

abbrev pub has_parameter : List ℕ → Bool
has_parameter segment = is_some (behind (byte ";") segment)

abbrev pub is_empty : List ℕ → Bool
is_empty name = bytes_eq name []

-- `.`, the segment itself.
abbrev pub is_same : List ℕ → Bool
is_same name = bytes_eq name (codes ".")

-- `..`, the segment above.
abbrev pub is_parent : List ℕ → Bool
is_parent name = bytes_eq name (codes "..")

-- The text begins with two hexadecimal digits.
abbrev pub begins_with_digits : List ℕ → Bool
begins_with_digits (high ∷ low ∷ _) = is_digit high 16 && is_digit low 16
begins_with_digits _ = false

-- Some `%` is not followed by two hexadecimal digits.
abbrev pub has_bad_escape : List ℕ → Bool
has_bad_escape name =
    list_any (λ behind_percent. not (begins_with_digits behind_percent)) (drop 1 (slice_split (λ b. b == byte "%") name))

abbrev pub is_control : ℕ → Bool
is_control b = nat_lt b 32 || b == 127

-- The name is `.` or `..`, but was written in another form.
abbrev pub is_disguised : List ℕ → List ℕ → Bool
is_disguised segment name = (is_same name || is_parent name) && not (bytes_eq name segment)

-- The segment is a parameter without a name.
abbrev pub is_bare_parameter : List ℕ → List ℕ → Bool
is_bare_parameter segment name = is_empty name && has_parameter segment

-- The faults of the decoded name, by number.
abbrev pub name_faults : List ℕ → List ℕ → List PathFault
name_faults segment name = when (list_any (λ b. b == byte "/") name) EncodedSlash
    ++ when (list_any (λ b. b == byte "\\") name) Backslash
    ++ when (list_any is_control name) Control
    ++ when (not (is_utf8 name)) NotUtf8
    ++ when (is_disguised segment name) DotSegment
    ++ when (is_bare_parameter segment name) EmptyParameter

-- The faults of a segment, by number.
abbrev pub segment_faults : List ℕ → List PathFault
segment_faults segment = when (has_bad_escape (raw_name segment)) BadEscape ++ name_faults segment (name_of segment)

-- The result is the name of the segment or its first fault, unless memory ran out.
abbrev pub GivesName : {A : Type 0} → Result (CowSlice ℕ A) CanonFault → List ℕ → Type 0
GivesName (Ok name) segment = (segment_faults segment ≡ []) × (cow_slice_items name ≡ name_of segment)
GivesName (Err e) segment = MatchOption (path_fault e) (Unit {0}) (λ fault. first_or (segment_faults segment) (name_of segment) ≡ Err fault)
