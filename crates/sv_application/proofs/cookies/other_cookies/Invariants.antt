use Rattle.std.proofs.Common.{◌≡◌, map, take}
use Rattle.sv_application.specs.Cookies.{other_cookies}
use Rattle.sv_application.proofs.cookies.other_cookies.Given as goal

abbrev pub invariant-loop-field : goal.invariant-loop-field
invariant-loop-field l = map (λ cookie. cookie.now) l.found.items ≡ other_cookies l.name (take l.field-index l.fields)
