use Rattle.std.proofs.Common.{◌≡◌, ◌++◌, IsUtf8, string_bytes}
use Rattle.std.specs.Str.Iter.{chars_rest}
use Rattle.sv_manual.specs.Form.{escaped}
use Rattle.sv_manual.proofs.form.escaped.Given as goal

-- what is left of the text is still to be written
abbrev pub invariant-loop-c : goal.invariant-loop-c
invariant-loop-c l = IsUtf8 (chars_rest l.c-iterator) × (string_bytes l.shown ++ escaped l.form (chars_rest l.c-iterator) ≡ escaped l.form l.text)
