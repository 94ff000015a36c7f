use Rattle.std.proofs.Common.{◌≡◌, length}
use Rattle.std.specs.List.{filter_map}
use Rattle.std.specs.Option.{option_copied}
use Rattle.httparse.specs.Grammar.{trim_ows}
use Rattle.sv_login.specs.Cookies.{value_of, values_in}
use Rattle.sv_web.specs.SentCookies.{first, pieces_left}
use Rattle.sv_web.proofs.request_cookies.cookie_in_value.Given as goal

-- the remaining pieces give the same cookie as all pieces
abbrev pub invariant-loop-rest : goal.invariant-loop-rest
invariant-loop-rest l =
    first (filter_map (λ piece. value_of l.name (trim_ows piece)) (pieces_left (option_copied l.rest))) ≡ first (values_in l.name l.value)

abbrev pub decreases-loop-rest : goal.decreases-loop-rest
decreases-loop-rest l = length (pieces_left (option_copied l.rest))
