-- The text that is written for an event that answered messages is not empty.
use Rattle.std.proofs.Common.{◌≡◌, ℕ, ◌<◌, ◌+◌, Bool, true, false, List, [], ◌∷◌, ◌++◌, length, codes, refl, sym, subst, arith}
use Rattle.std.proofs.lemmas.List.{length-append}
use Rattle.sv_access_log.specs.Answered.{Answered, event_lines, lines_from, outcome_text, shown_around}
use Rattle.sv_access_log.specs.Combined.{combined_line, client_text, word_text}
use Rattle.sv_access_log.specs.Lines.{access_line}
use Rattle.sv_access_log.specs.Writing.{written_text}
use Rattle.sv_access_log.specs.declared.circumstances.Circumstances.{Circumstances}
use Rattle.sv_access_log.specs.declared.circumstances.LogFormat.{LogFormat}
use Rattle.sv_access_log.specs.declared.circumstances.LogFormat.TheVariants.{Combined, Json}
use Rattle.sv_access_log.specs.declared.event_lines.Scene.{Scene}
use Rattle.sv_journal.specs.declared.entry.Entry.{Entry}
use Rattle.sv_run.specs.declared.access.Access.{Access}
use Rattle.sv_access_log.proofs.CombinedLemmas.{combined_is_whole}

longer : (xs ys : List ℕ) → 0 < length ys → 0 < length (xs ++ ys)
longer xs ys some = omega (arith, length-append xs ys, some)

some_line : (format : LogFormat) (access : Access) (around : Circumstances) → 0 < length (access_line format access around)
some_line Combined access around =
    let ((content, is, printable), marks) = combined_is_whole access around in subst (λ line. 0 < length line) (sym is) (longer content (codes "\n") (omega arith))
some_line Json access around = longer _ (codes "\n") (omega arith)

some_front : (xs ys : List ℕ) → 0 < length xs → 0 < length (xs ++ ys)
some_front xs ys some = omega (arith, length-append xs ys, some)

some_lines : (answered : Answered) (journal : List Entry) (scene : Scene) (micros : ℕ) (accesses : List Access) → 0 < length accesses
    → 0 < length (lines_from answered journal scene micros accesses)
some_lines answered journal scene micros [] some = let none : ⊥ = omega (arith, some) in absurd none
some_lines answered journal scene micros (access ∷ later) some =
    some_front _ (lines_from answered journal scene scene.later_micros later)
    (some_line scene.format access (shown_around answered scene access (outcome_text answered journal scene (access ∷ later)) micros))

pub some_text : (torn : Bool) (answered : Answered) (journal : List Entry) (scene : Scene) → 0 < length answered.accesses
    → 0 < length (written_text torn (event_lines answered journal scene))
some_text torn answered journal scene some = longer _ _ (some_lines answered journal scene scene.first_micros answered.accesses some)
