use Rattle.std.proofs.Common.{◌≡◌, take}
use Rattle.sv_text.proofs.text.copied_texts.Given as goal

abbrev pub invariant-loop-text : goal.invariant-loop-text
invariant-loop-text l = l.copies.items ≡ take l.text-index l.texts
