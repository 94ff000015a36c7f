use Rattle.std.proofs.Common.{◌≡◌, ◌++◌, map, take}
use Rattle.std.specs.String.{string_bytes}
use Rattle.sv_application.specs.Cookies.{others_text}
use Rattle.sv_application.proofs.cookies.push_others.Given as goal

abbrev pub invariant-loop-cookie : goal.invariant-loop-cookie
invariant-loop-cookie l = string_bytes l.text ≡ string_bytes l.fn.text ++ others_text (map (λ cookie. cookie.now) (take l.cookie-index l.cookies))
