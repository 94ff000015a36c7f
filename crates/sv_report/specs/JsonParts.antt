-- The parts of the JSON of access tables (RFC 8259).
use Rattle.std.specs.Prelude.{ℕ, Bool, true, false, List, [], ◌∷◌, codes, map, Option, None, Some, if◌then◌else◌}
use Rattle.serde_json.specs.Data.{Data, null, boolean, number, string, array, unsigned}
use Rattle.serde_json.specs.View.{items_of}
use Rattle.sv_constraints.specs.declared.constraint.Methods.{Methods}
use Rattle.sv_constraints.specs.declared.constraint.Methods.TheVariants.{All, Only, Except}
use Rattle.sv_findings.specs.declared.unsearched.Unsearched.{Unsearched}
use Rattle.sv_report.specs.FindingWords.{unsearched_name}
use Rattle.sv_audit.specs.declared.access.Access.{Access}
use Rattle.sv_audit.specs.declared.access.Access.TheVariants.{Unconstrained, Uncovered, UncoveredDenied, Precluded, NeedsTls, Everyone, AnyLogin, Roles}

-- A list of texts.
abbrev pub strings : List (List ℕ) → Data
strings texts = array (items_of (map string texts))

-- The names of the kinds of findings that are not looked for.
abbrev pub unsearched_value : List Unsearched → Data
unsearched_value kinds = strings (map unsearched_name kinds)

-- A word that depends on whether callers can log in.
abbrev pub by_login : Bool → List ℕ → List ℕ → List ℕ
by_login has_login word other = if has_login then word else other

-- Who enters, in one word.
abbrev pub enters : Bool → Access → List ℕ
enters has_login Unconstrained = codes "everyone"
enters has_login Uncovered = codes "everyone"
enters has_login UncoveredDenied = codes "nobody"
enters has_login Precluded = codes "nobody"
enters has_login NeedsTls = codes "tls"
enters has_login Everyone = codes "everyone"
enters has_login AnyLogin = by_login has_login (codes "any-login") (codes "nobody")
enters has_login (Roles []) = codes "nobody"
enters has_login (Roles (name ∷ names)) = by_login has_login (codes "roles") (codes "nobody")

-- The reason, in one word.
abbrev pub because : Bool → Access → List ℕ
because has_login Unconstrained = codes "no-constraint"
because has_login Uncovered = codes "uncovered"
because has_login UncoveredDenied = codes "uncovered-denied"
because has_login Precluded = codes "precluded"
because has_login NeedsTls = codes "transport"
because has_login Everyone = codes "open"
because has_login AnyLogin = by_login has_login (codes "login") (codes "no-login")
because has_login (Roles []) = codes "no-role"
because has_login (Roles (name ∷ names)) = by_login has_login (codes "role") (codes "no-login")

-- The roles that may enter; none unless roles are named.
abbrev pub roles_in : Access → List (List ℕ)
roles_in (Roles names) = names
roles_in access = []

-- Whether the listed methods are excepted.
abbrev pub are_excepted : Methods → Bool
are_excepted All = true
are_excepted (Only names) = false
are_excepted (Except names) = true

abbrev pub number_value : Option ℕ → Data
number_value None = null
number_value (Some n) = number (unsigned n)

abbrev pub text_value : Option (List ℕ) → Data
text_value None = null
text_value (Some text) = string text

abbrev pub truth_value : Option Bool → Data
truth_value None = null
truth_value (Some holds) = boolean holds
