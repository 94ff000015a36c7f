use Rattle.std.proofs.Common.{ap, ◌∙◌, ◌==◌}
use Rattle.std.specs.Prelude.{filter}
use Rattle.std.specs.Str.{bytes_eq}
use Rattle.sv_audit.proofs.FocusLemmas.{kept, left_out}
use Rattle.sv_audit.proofs.focus.push_focused.Goals as goal

pub returns-then-is_empty : goal.returns-then-is_empty
returns-then-is_empty c =
    left_out c.args.pattern.now c.args.collection.now c.args.copies.now.items c.in_ok-patterns.patterns.items (c.in_ok-patterns.ensures ∙ ap (filter (λ one. bytes_eq one c.args.pattern.now)) c.as_slice.ensures) c.is_empty.result (c.is_empty.ensures ∙ ap (λ n. n == 0) c.in_ok-patterns.patterns.ok.0) c.if-is_empty.true

pub returns : goal.returns
returns c =
    c.in_ok-push.ensures.items
    ∙ kept c.args.pattern.now c.args.collection.now c.args.copies.now.items c.in_ok-patterns.patterns.items (c.in_ok-patterns.ensures ∙ ap (filter (λ one. bytes_eq one c.args.pattern.now)) c.as_slice.ensures) c.is_empty.result (c.is_empty.ensures ∙ ap (λ n. n == 0) c.in_ok-patterns.patterns.ok.0) c.if-is_empty.false c.from_vec.result c.in_ok-copied_methods.field-0 c.from_vec.ensures c.in_ok-copied_methods.ensures
