-- A text with a canonical path begins with a slash.
use Rattle.std.proofs.Common.{◌≡◌, ℕ, Bool, true, false, not, List, ◌++◌, refl}
use Rattle.std.specs.Prelude.{IsTrue, is_ok}
use Rattle.std.specs.List.{list_any}
use Rattle.std.specs.Prelude.{◌==◌}
use Rattle.std.specs.Str.{byte}
use Rattle.sv_text.specs.Faults.{when, first_or}
use Rattle.sv_uri.specs.Canonical.{begins_with_slash, path_faults, raw_segments}
use Rattle.sv_uri.specs.declared.fault.PathFault.{PathFault}
use Rattle.sv_uri.specs.declared.fault.PathFault.TheVariants.{Fragment, NoSlash}
use Rattle.sv_descriptor.specs.Location.{is_location}

faultless : {A : Type 0} (fragment begins : Bool) (others : List PathFault) (answer : A)
    → is_ok (first_or ((when fragment Fragment ++ when (not begins) NoSlash) ++ others) answer) ≡ true → begins ≡ true
faultless fragment true others answer h = refl
faultless true false others answer h = cc
faultless false false others answer h = cc

pub begins-is_location : (text : List ℕ) → IsTrue (is_location text) → IsTrue (begins_with_slash text)
unfolding is_location
begins-is_location text h =
    faultless (list_any (λ b. b == byte "#") text) (begins_with_slash text) (path_faults (raw_segments text)) _ h
