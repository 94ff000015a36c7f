use Rattle.std.proofs.Common.{arith, ◌≡◌, ℕ, ◌+◌, ◌<◌, ◌≤◌, Bool, true, false, List, [], ◌∷◌, ◌++◌, length, take, get_or, map, length-append, length-take, refl, ap, sym, ◌∙◌, cond}
use Rattle.std.specs.Borrow.{Bor}
use Rattle.std.specs.Prelude.{nat_lt}
use Rattle.std.proofs.lemmas.List.{map_more, take-append-le, take_all}
use Rattle.std.proofs.lemmas.List.Sums.{fold-append}
use Rattle.sv_constraints.specs.Covering.{lists}
use Rattle.sv_policy.proofs.Listed.{length_seen}
use Rattle.sv_policy.specs.Patterns.{different, kept_once}
use Rattle.sv_findings.specs.declared.asked_folders.TheConstants.{MAX_ASKED_FOLDERS}
use Rattle.sv_findings.proofs.asked_folders.first_folders.Goals as goal

abbrev grown : List (List ℕ) → List ℕ → Bool → List (List ℕ)
grown all text there = cond there all (all ++ text ∷ [])

fills : (most : ℕ) (all : List (List ℕ)) (text : List ℕ) (there : Bool) → length all < most → take most (grown all text there) ≡ grown all text there
fills most all text true below = take_all most all (omega arith)
fills most all text false below = take_all most (all ++ text ∷ []) (omega (arith, length-append all (text ∷ [])))

stays : (most : ℕ) (all : List (List ℕ)) (text : List ℕ) (there : Bool) → most ≤ length all → take most (grown all text there) ≡ take most all
stays most all text true above = refl
stays most all text false above = take-append-le most all (text ∷ []) above

-- One more text, if there are too few.
few_at : (most : ℕ) (all : List (List ℕ)) (text : List ℕ) (room : Bool) → nat_lt (length (take most all)) most ≡ room → cond room (kept_once (take most all) text) (take most all) ≡ take most (kept_once all text)
few_at most all text true is =
    let below : length all < most = grind (arith, is, length-take most all) in
    ap (λ kept. kept_once kept text) (take_all most all (omega arith)) ∙ sym (fills most all text (lists all text) below)
few_at most all text false is =
    let above : most ≤ length all = grind (arith, is, length-take most all) in
    sym (stays most all text (lists all text) above)

few_more : (most : ℕ) (kept texts : List (List ℕ)) (text : List ℕ) → kept ≡ take most (different texts) → cond (nat_lt (length kept) most) (kept_once kept text) kept ≡ take most (different (texts ++ text ∷ []))
few_more most kept texts text are =
    ap (λ its. cond (nat_lt (length its) most) (kept_once its text) its) are ∙ few_at most (different texts) text (nat_lt (length (take most (different texts))) most) refl
    ∙ ap (take most) (sym (fold-append kept_once [] texts (text ∷ [])))

abbrev now : Bor (List ℕ) → List ℕ
now folder = folder.now

folder_more : (most n i : ℕ) (xs : List (Bor (List ℕ))) (none : Bor (List ℕ)) (kept grown : List (List ℕ)) → i < length xs → n ≡ length kept → kept ≡ take most (different (map now (take i xs)))
    → grown ≡ cond (nat_lt n most) (kept_once kept (get_or xs i none).now) kept → grown ≡ take most (different (map now (take (i + 1) xs)))
folder_more most n i xs none kept grown within many are is =
    is ∙ ap (λ m. cond (nat_lt m most) (kept_once kept (get_or xs i none).now) kept) many ∙ few_more most kept (map now (take i xs)) (get_or xs i none).now are
    ∙ ap (λ texts. take most (different texts)) (sym (map_more now xs i none within))

pub loop-folder-preserved : goal.loop-folder-preserved
loop-folder-preserved c =
    folder_more MAX_ASKED_FOLDERS (length c.loop-folder.kept.items) c.loop-folder.folder-index c.args.folders.now (record { ref_ptr = (0, 0); now = [] }) (map now c.loop-folder.kept.items) (map now c.push_few.new.kept.items)
    c.loop-folder-test.true (sym (length_seen now c.loop-folder.kept.items)) c.loop-folder.invariant c.in_ok-push_few.ensures
