use Rattle.std.proofs.Common.{◌≡◌, ◌++◌, map, take}
use Rattle.std.specs.List.{filter}
use Rattle.httparse.specs.Grammar.{trim_ows}
use Rattle.sv_application.specs.Cookies.{is_other}
use Rattle.sv_application.proofs.cookies.push_cookies.Given as goal

abbrev pub invariant-loop-piece : goal.invariant-loop-piece
invariant-loop-piece l =
    map (λ cookie. cookie.now) l.found.items
    ≡ map (λ cookie. cookie.now) l.initial.found.items
    ++ filter (is_other l.name) (map trim_ows (map (λ piece. piece.now) (take l.piece-index l.piece-items)))
