use Rattle.std.proofs.Common.{◌≡◌, drop}
use Rattle.sv_web.specs.SentCookies.{first_cookie}
use Rattle.sv_web.proofs.request_cookies.cookie_in_fields.Given as goal

-- the remaining fields give the same cookie as all fields
abbrev pub invariant-loop-field : goal.invariant-loop-field
invariant-loop-field l = first_cookie l.name (drop l.field-index l.fields) ≡ first_cookie l.name l.fields
