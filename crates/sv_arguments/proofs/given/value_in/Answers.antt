use Rattle.std.proofs.Common.{ℕ, List, Global, map, string_bytes, subst, sym, ◌∙◌}
use Rattle.sv_arguments.proofs.Going.{behind_is, none_behind}
use Rattle.sv_arguments.proofs.Walking.{IsWalked, walk_ends, walk_fails, walk_finds, walk_goes_on}
use Rattle.sv_arguments.proofs.Words.{other_word, same_word}
use Rattle.sv_arguments.proofs.given.value_in.Goals as goal

pub returns-in_err-value : goal.returns-in_err-value
returns-in_err-value c = λ settings is all.
    let Walked : List (List ℕ) → Type 0 = λ left. IsWalked c.args.set c.args.key (map string_bytes c.args.words.now) left in
    absurd (walk_fails (string_bytes {Z = Global}) c.args.set c.args.key (map string_bytes c.args.words.now) c.as_str-word.result.now (map string_bytes c.in-Some.after.now)
    (subst Walked (behind_is string_bytes c.loop-word.rest.now c.in-Some.word.now c.in-Some.after.now c.as_str-word.result.now c.in-Some.ensures.cases.0
    c.as_str-word.ensures.value) c.loop-word.invariant)
    c.in_err-value.ensures.split settings is all)

pub returns-then-eq : goal.returns-then-eq
returns-then-eq c =
    let Walked : List (List ℕ) → Type 0 = λ left. IsWalked c.args.set c.args.key (map string_bytes c.args.words.now) left in
    walk_finds string_bytes c.args.set c.args.key (map string_bytes c.args.words.now) c.as_str-word.result.now (map string_bytes c.in-Some.after.now)
    c.in_ok-value.value c.in_ok-value.others
    (subst Walked (behind_is string_bytes c.loop-word.rest.now c.in-Some.word.now c.in-Some.after.now c.as_str-word.result.now c.in-Some.ensures.cases.0
    c.as_str-word.ensures.value) c.loop-word.invariant)
    (same_word c.as_str-word.result.now c.word.result.now c.eq.result c.eq.ensures c.if-eq.true ∙ c.word.ensures)
    c.in_ok-value.ensures.split

pub loop-word-preserved : goal.loop-word-preserved
loop-word-preserved c =
    let Walked : List (List ℕ) → Type 0 = λ left. IsWalked c.args.set c.args.key (map string_bytes c.args.words.now) left in
    walk_goes_on string_bytes c.args.set c.args.key (map string_bytes c.args.words.now) c.as_str-word.result.now (map string_bytes c.in-Some.after.now)
    c.in_ok-value.value c.in_ok-value.others
    (subst Walked (behind_is string_bytes c.loop-word.rest.now c.in-Some.word.now c.in-Some.after.now c.as_str-word.result.now c.in-Some.ensures.cases.0
    c.as_str-word.ensures.value) c.loop-word.invariant)
    (λ same. other_word c.as_str-word.result.now c.word.result.now c.eq.result c.eq.ensures c.if-eq.false (same ∙ sym c.word.ensures))
    c.in_ok-value.ensures.split

pub returns : goal.returns
returns c =
    let Walked : List (List ℕ) → Type 0 = λ left. IsWalked c.args.set c.args.key (map string_bytes c.args.words.now) left in
    walk_ends (string_bytes {Z = Global}) c.args.set c.args.key (map string_bytes c.args.words.now)
    (subst Walked (none_behind string_bytes c.loop-word.rest.now c.in_default.ensures.cases) c.loop-word.invariant)
