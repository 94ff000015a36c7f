use Rattle.std.proofs.Common.{◌≡◌, ℕ, ◌+◌, ◌-◌, ◌==◌, suc, List, [], length, take, length-drop, ap, ◌∙◌, arith}
use Rattle.std.specs.Str.{NoCharPasses}
use Rattle.std.specs.Str.Pattern.{RFindsChar, SplitsAroundMatch}
use Rattle.sv_mapping.proofs.Texts.{after_last_none, after_split}
use Rattle.sv_mapping.specs.Pattern.{last_segment}
use Rattle.sv_findings.specs.LoginNeeds.{folder_of}
use Rattle.sv_findings.proofs.asked_folders.folder_of.Goals as goal

cut : (text front back : List ℕ) → SplitsAroundMatch (RFindsChar 47) text front back → front ≡ folder_of text
cut text front back h =
    let last : length (last_segment text) ≡ length back = ap length (after_split 47 text front back (omega arith) h) in
    let ends : length back ≡ length text - h.1 = ap length h.4 ∙ length-drop h.1 text in
    let next : h.1 ≡ h.0 + 1 = h.2.1.ends in
    let fits : h.0 ≡ length text - suc (length (last_segment text)) = omega (arith, last, ends, next, h.7) in
    h.3 ∙ ap (λ n. take n text) fits

none : (text : List ℕ) → NoCharPasses (λ d. d == 47) text → [] ≡ folder_of text
none text h =
    let last : length (last_segment text) ≡ length text = ap length (after_last_none 47 text (omega arith) h) in
    let zero_left : 0 ≡ length text - suc (length (last_segment text)) = omega (arith, last) in
    ap (λ n. take n text) zero_left

pub returns-in-Some : goal.returns-in-Some
returns-in-Some c = cut c.args.path.now c.in-Some.folder.now _ c.in-Some.ensures.cases

pub returns-in-None : goal.returns-in-None
returns-in-None c = none c.args.path.now c.in-None.ensures.cases
