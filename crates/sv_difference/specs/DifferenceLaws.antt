-- What differences say of the fates of visitors (Jakarta Servlet 6.0, sections 12.1, 13.6 and 13.8).
use Rattle.std.specs.Prelude.{◌≡◌, ◌≢◌, ℕ, Bool, ◌&&◌, List, [], Option, All, IsTrue}
use Rattle.std.specs.List.{list_any}
use Rattle.sv_mapping.specs.Segments.{is_rooted}
use Rattle.sv_realm.specs.declared.caller.Caller.{Caller}
use Rattle.sv_constraints.specs.Covering.{covers_method, lists}
use Rattle.sv_policy.specs.Uncovered.{has_methods}
use Rattle.sv_audit.specs.Configurations.{Configuration, HasUrlPatterns, best_of, fate_of, said_by}
use Rattle.sv_audit.specs.Reading.{Passes, is_same, said_to}
use Rattle.sv_audit.specs.Rows.{table_of}
use Rattle.sv_difference.specs.Differences.{differences, row_path}
use Rattle.sv_difference.specs.declared.difference.Difference.{Difference}
use Rattle.sv_audit.specs.declared.visitors.DifferenceKind.{DifferenceKind}
use Rattle.sv_audit.specs.declared.visitors.DifferenceKind.TheVariants.{Changed, Closed, Opened}
use Rattle.sv_difference.specs.declared.difference.Side.{Side}

abbrev pub side_of : Configuration → Side
side_of it = record { table = table_of it.constraints it.rules; has_login = it.has_login }

abbrev pub differences_of : List (List ℕ) → Configuration → Configuration → List Difference
differences_of paths one other = differences paths (side_of one) (side_of other)

-- The paths are empty or begin with a slash.
abbrev pub AreRooted : List (List ℕ) → Type 0
AreRooted paths = All (λ path. IsTrue (is_rooted path)) paths

-- One of the paths has both rows of this path.
abbrev pub HasRows : List (List ℕ) → Configuration → Configuration → List ℕ → Type 0
HasRows paths one other path = (shown : List ℕ) × IsTrue (lists paths shown) × (best_of one (row_path shown) ≡ best_of one path) × (best_of other (row_path shown) ≡ best_of other path)

-- The request has a method of the difference and a path of both of its rows.
pub record IsOf (one other : Configuration) (difference : Difference) (method path : List ℕ) : Type 0 where
  pub rooted : IsTrue (is_rooted path)
  pub before : best_of one path ≡ difference.before
  pub after : best_of other path ≡ difference.after
  pub covered : IsTrue (covers_method difference.methods method)

-- Some visitor passes in the second configuration with each of these requests, and in the first with none.
abbrev pub LetsIn : Configuration → Configuration → (List ℕ → List ℕ → Type 0) → Type 0
LetsIn one other These = (visitor : Option Caller) × ((method path : List ℕ) → These method path → (fate_of one method path visitor ≢ Passes) × (fate_of other method path visitor ≡ Passes))

-- A visitor who passes in the second configuration with one of these requests passes in the first, too.
abbrev pub LetsNobodyIn : Configuration → Configuration → (List ℕ → List ℕ → Type 0) → Type 0
LetsNobodyIn one other These = (visitor : Option Caller) (method path : List ℕ) → These method path → fate_of other method path visitor ≡ Passes → fate_of one method path visitor ≡ Passes

-- What a kind says of these requests.
abbrev pub IsOfKind : Configuration → Configuration → (List ℕ → List ℕ → Type 0) → DifferenceKind → Type 0
IsOfKind one other These Opened = LetsIn one other These
IsOfKind one other These Closed = LetsIn other one These × LetsNobodyIn one other These
IsOfKind one other These Changed = LetsNobodyIn other one These × LetsNobodyIn one other These

-- The path of the difference is in both rows, and it has methods. The accesses say what the verdicts are on all requests
-- of the difference. There is a visitor whose fate with all of them differs, and the kind is right.
pub record IsRight (one other : Configuration) (difference : Difference) : Type 0 where
  pub rooted : IsTrue (is_rooted difference.path)
  pub before : best_of one (row_path difference.path) ≡ difference.before
  pub after : best_of other (row_path difference.path) ≡ difference.after
  pub some : IsTrue (has_methods difference.methods)
  pub was : (method path : List ℕ) (caller : Option Caller) → IsOf one other difference method path → said_by one method path caller ≡ said_to caller difference.was
  pub becomes : (method path : List ℕ) (caller : Option Caller) → IsOf one other difference method path → said_by other method path caller ≡ said_to caller difference.becomes
  pub differs : (visitor : Option Caller) × ((method path : List ℕ) → IsOf one other difference method path → fate_of one method path visitor ≢ fate_of other method path visitor)
  pub of_kind : IsOfKind one other (IsOf one other difference) difference.kind

-- Each difference of two configurations is right, and at one of the paths.
abbrev pub DifferencesAreRight : Type 0
DifferencesAreRight = (paths : List (List ℕ)) (one other : Configuration) → AreRooted paths → HasUrlPatterns one → HasUrlPatterns other →
    All (λ difference. IsRight one other difference × IsTrue (lists paths difference.path)) (differences_of paths one other)

-- Whether the difference is of the rows of the path, and has the method.
abbrev pub is_of : Configuration → Configuration → List ℕ → List ℕ → Difference → Bool
is_of one other method path difference = is_same difference.before (best_of one path) && is_same difference.after (best_of other path) && covers_method difference.methods method

-- A request whose fate differs for some visitor is among the differences, if one of the paths has both of its rows.
abbrev pub DifferencesAreComplete : Type 0
DifferencesAreComplete = (paths : List (List ℕ)) (one other : Configuration) (method path : List ℕ) (visitor : Option Caller) → HasUrlPatterns one → HasUrlPatterns other → IsTrue (is_rooted path) → HasRows paths one other path →
    fate_of one method path visitor ≢ fate_of other method path visitor → IsTrue (list_any (is_of one other method path) (differences_of paths one other))

-- Each request of each visitor has the same fate.
abbrev pub HaveSameFates : Configuration → Configuration → Type 0
HaveSameFates one other = (method path : List ℕ) (visitor : Option Caller) → IsTrue (is_rooted path) → fate_of one method path visitor ≡ fate_of other method path visitor

-- If the paths have the rows of each path, there is no difference exactly if each request of each visitor has the same
-- fate.
abbrev pub NoneExactlyIfSame : Type 0
NoneExactlyIfSame = (paths : List (List ℕ)) (one other : Configuration) → AreRooted paths → HasUrlPatterns one → HasUrlPatterns other →
    ((path : List ℕ) → IsTrue (is_rooted path) → HasRows paths one other path) →
    (differences_of paths one other ≡ [] → HaveSameFates one other) × (HaveSameFates one other → differences_of paths one other ≡ [])
