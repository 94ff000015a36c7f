use Rattle.std.proofs.Common.{◌≡◌, ℕ, ◌<◌, ◌+◌, List, [], ◌∷◌, ◌++◌, length, take, get_or, ap, sym, append_assoc, rules, ◌∙◌}
use Rattle.std.proofs.lemmas.List.{take_more}
use Rattle.sv_findings.proofs.readings.are_same_names.Goals as goal

next_name : (names left rest others : List (List ℕ)) (i : ℕ) (name other : List ℕ) → i < length names → name ≡ get_or names i name → take i names ++ left ≡ others → left ≡ other ∷ rest → name ≡ other → take (i + 1) names ++ rest ≡ others
next_name names left rest others i name other within at before is same =
    ap (λ front. front ++ rest) (take_more names i name within ∙ ap (λ one. take i names ++ one ∷ []) (sym at ∙ same))
    ∙ append_assoc (take i names) (other ∷ []) rest ∙ ap (λ behind. take i names ++ behind) (sym is) ∙ before

pub loop-name-preserved : goal.loop-name-preserved
loop-name-preserved c =
    next_name c.args.names.now c.loop-name.left.now c.in-Some.rest.now c.args.others.now c.loop-name.name-index c.name-item.result c.in-Some.other.now c.loop-name-test.true c.name-item.is c.loop-name.invariant (search rules) (search rules)
