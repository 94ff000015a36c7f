use Rattle.std.proofs.Common.{◌≡◌, ◌++◌, IsUtf8, string_bytes}
use Rattle.std.specs.Str.Iter.{chars_rest}
use Rattle.sv_web.specs.Escaping.{html_escaped}
use Rattle.sv_web.proofs.escape.escape_html.Given as goal

abbrev pub invariant-loop-c : goal.invariant-loop-c
invariant-loop-c l = IsUtf8 (chars_rest l.c-iterator) × (string_bytes l.page ++ html_escaped (chars_rest l.c-iterator) ≡ html_escaped l.text)
