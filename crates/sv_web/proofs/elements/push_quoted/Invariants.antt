use Rattle.std.proofs.Common.{◌≡◌, ◌++◌, IsUtf8, string_bytes}
use Rattle.std.specs.Str.Iter.{chars_rest}
use Rattle.sv_web.specs.Elements.{quoted}
use Rattle.sv_web.proofs.elements.push_quoted.Given as goal

abbrev pub invariant-loop-c : goal.invariant-loop-c
invariant-loop-c l =
    IsUtf8 (chars_rest l.c-iterator)
    × (string_bytes l.descriptor ++ quoted (chars_rest l.c-iterator) ≡ string_bytes l.initial.descriptor ++ quoted l.text)
