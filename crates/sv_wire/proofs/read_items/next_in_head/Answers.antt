use Rattle.std.proofs.Common.{◌≡◌, ◌-◌, ◌≤◌, length, drop, None, refl, ap, ◌∙◌, subst, arith}
use Rattle.std.proofs.lemmas.List.{take_rest}
use Rattle.sv_text.specs.declared.front.Cut.TheVariants.{Whole}
use Rattle.sv_wire.specs.EmptyLines.{drop_empty_lines}
use Rattle.sv_wire.specs.Next.{HoldsText, ComesNext}
use Rattle.sv_wire.specs.Reads.{cut_head}
use Rattle.sv_wire.proofs.PendingLemmas.{head_order, head_whole, head_endless, head_unended, same_drops, comes_before, if_ok_map}
use Rattle.sv_wire.proofs.read_items.next_in_head.Goals as goal

pub next_behind-requires-clause-head : goal.next_behind-requires-clause-head
next_behind-requires-clause-head c =
    let stream = c.args.stream.now in
    let at = c.args.at in
    let head = c.behind_empty_lines-head.result.now in
    let tail = take_rest stream at in
    let is : head ≡ drop_empty_lines (drop at stream) = c.behind_empty_lines-head.ensures.value ∙ ap drop_empty_lines tail in
    let place : head ≡ drop (length (drop at stream) - length head) (drop at stream) =
    c.behind_empty_lines-head.ensures.end ∙ ap (λ t. drop (length t - length head) t) tail in
    let fits = subst (λ t. length head ≤ length t) tail c.behind_empty_lines-head.ensures.fits in
    let whole : Whole c.in-Whole.len ≡ cut_head head = c.in-Whole.ensures.value in
    let holds : HoldsText head (Whole c.in-Whole.len) = c.in-Whole.ensures.holds in
    head_whole stream head at (length stream - length head) c.requires.within is place fits refl c.in-Whole.len
    c.in_ok-read_head-in-Whole.field-0 whole holds c.in_ok-read_head-in-Whole.ensures

pub returns-in_ok-read_head-in-Whole : goal.returns-in_ok-read_head-in-Whole
returns-in_ok-read_head-in-Whole c =
    let stream = c.args.stream.now in
    let at = c.args.at in
    let head = c.behind_empty_lines-head.result.now in
    let start = length stream - length head in
    let tail = take_rest stream at in
    let is : head ≡ drop_empty_lines (drop at stream) = c.behind_empty_lines-head.ensures.value ∙ ap drop_empty_lines tail in
    let place : head ≡ drop (length (drop at stream) - length head) (drop at stream) =
    c.behind_empty_lines-head.ensures.end ∙ ap (λ t. drop (length t - length head) t) tail in
    let fits = subst (λ t. length head ≤ length t) tail c.behind_empty_lines-head.ensures.fits in
    if_ok_map (ComesNext None stream start) (ComesNext None stream at) c.next_behind.result
    (comes_before stream at start (head_order stream head at start c.requires.within is place fits refl)
    (same_drops stream head at start c.requires.within is place fits refl) (omega arith))
    c.next_behind.ensures

pub returns-in-Endless : goal.returns-in-Endless
returns-in-Endless c =
    let stream = c.args.stream.now in
    let at = c.args.at in
    let head = c.behind_empty_lines-head.result.now in
    let tail = take_rest stream at in
    let is : head ≡ drop_empty_lines (drop at stream) = c.behind_empty_lines-head.ensures.value ∙ ap drop_empty_lines tail in
    let place : head ≡ drop (length (drop at stream) - length head) (drop at stream) =
    c.behind_empty_lines-head.ensures.end ∙ ap (λ t. drop (length t - length head) t) tail in
    let fits = subst (λ t. length head ≤ length t) tail c.behind_empty_lines-head.ensures.fits in
    head_endless stream head at (length stream - length head) c.requires.within is place fits refl c.in-Endless.ensures.value c.in-Endless.ensures.holds

pub returns-in-Unended : goal.returns-in-Unended
returns-in-Unended c =
    let stream = c.args.stream.now in
    let at = c.args.at in
    let head = c.behind_empty_lines-head.result.now in
    let tail = take_rest stream at in
    let is : head ≡ drop_empty_lines (drop at stream) = c.behind_empty_lines-head.ensures.value ∙ ap drop_empty_lines tail in
    let place : head ≡ drop (length (drop at stream) - length head) (drop at stream) =
    c.behind_empty_lines-head.ensures.end ∙ ap (λ t. drop (length t - length head) t) tail in
    let fits = subst (λ t. length head ≤ length t) tail c.behind_empty_lines-head.ensures.fits in
    head_unended stream head at (length stream - length head) c.requires.within is place fits refl c.in-Unended.ensures.value
